-- `load::walking::take_each` meets its contract. Assumes nothing.
use mathlib.Core.Path.{refl}
use Prim.Native.Nat.{suc, ◌*◌, ◌≤◌}
use native.Mathlib.Nat.{mul-suc, mul-zero, mul-le-mul_left}
use native.Mathlib.Numerals.{add-one}
use Rattle.load.proofs.Sections.{section_none, section_then, section_refused}
use Rattle.load.proofs.walking.take_each.Goals as goal

pub loop-v-init : goal.loop-v-init
loop-v-init g c = let a = c.args in rw mul-zero (section_none a.shape a.image.now a.stores g.section.0 a.start a.words.now)

pub returns-in_err-at : goal.returns-in_err-at
returns-in_err-at g c =
    let l = c.loop-v in
    let a = c.args in
    let k = g.section.1 in
    let part = rw c.in_err-at.was at (c.requires.1.0.takes _ _ _ _ _ _ refl c.loop-v-test.true c.take.ensures) in
    let most : k * suc l.v ≤ k * a.shape.count = mul-le-mul_left k c.loop-v-test.true in
    let fits = rw mul-suc at most in
    rw c.from_residual.ensures (section_refused a.shape a.image.now a.stores g.section.0 (k * l.v) k (k * a.shape.count) a.start a.words.now l.at l.words _ fits l.invariant part)

pub loop-v-preserved : goal.loop-v-preserved
loop-v-preserved g c =
    let l = c.loop-v in
    let a = c.args in
    let k = g.section.1 in
    let part = rw c.in_ok-at.was at (c.requires.1.0.takes _ _ _ _ _ _ refl c.loop-v-test.true c.take.ensures) in
    rw (add-one, mul-suc) (section_then a.shape a.image.now a.stores g.section.0 (k * l.v) k a.start a.words.now l.at l.words _ _ l.invariant part)
