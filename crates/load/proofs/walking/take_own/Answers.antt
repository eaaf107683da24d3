-- `load::walking::take_own` meets its contract. Assumes nothing.
use mathlib.Core.Path.{sym, ◌∙◌}
use Prim.Native.Nat.{◌+◌, ◌*◌}
use native.Mathlib.Omega.{arith}
use Rattle.image.specs.Parts.{Interrupt}
use Rattle.std.specs.Prelude.{None}
use Rattle.load.proofs.Sections.{section_none, section_part, section_then, section_refused}
use Rattle.image.proofs.Cases.{private_part}
use Rattle.load.proofs.walking.take_own.Goals as goal

pub loop-n-init : goal.loop-n-init
loop-n-init c = let a = c.args in section_none a.shape a.image.now a.stores (2 * a.shape.count + 32 * a.vcpu.0) a.start a.words.now

pub returns-in_err-at : goal.returns-in_err-at
returns-in_err-at c =
    let l = c.loop-n in
    let a = c.args in
    let part = section_part a.shape a.image.now a.stores (2 * a.shape.count + 32 * a.vcpu.0 + l.n) l.at l.words None _ (Interrupt a.vcpu (record { 0 = l.n })) (private_part a.shape a.vcpu.0 l.n c.requires.1.1 (omega arith)) (sym c.in_err-at.was ∙ c.take_private.ensures.0) c.take_private.ensures.1 in
    rw c.from_residual.ensures (section_refused a.shape a.image.now a.stores (2 * a.shape.count + 32 * a.vcpu.0) l.n 1 (32) a.start a.words.now l.at l.words _ (omega arith) l.invariant part)

pub loop-n-preserved : goal.loop-n-preserved
loop-n-preserved c =
    let l = c.loop-n in
    let a = c.args in
    let part = section_part a.shape a.image.now a.stores (2 * a.shape.count + 32 * a.vcpu.0 + l.n) l.at l.words _ _ (Interrupt a.vcpu (record { 0 = l.n })) (private_part a.shape a.vcpu.0 l.n c.requires.1.1 (omega arith)) (sym c.in_ok-at.was ∙ c.take_private.ensures.0) c.take_private.ensures.1 in
    section_then a.shape a.image.now a.stores (2 * a.shape.count + 32 * a.vcpu.0) l.n 1 a.start a.words.now l.at l.words _ _ l.invariant part
