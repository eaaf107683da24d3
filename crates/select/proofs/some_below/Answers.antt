-- `select::some_below` meets its contract. Assumes nothing.
use mathlib.Core.Path.{◌≡◌, ◌∙◌}
use native.Mathlib.Omega.{arith}
use Prim.Native.Nat.{◌*◌}
use Rattle.std.proofs.lemmas.Bool.Decides.{nat_tests}
use Rattle.select.specs.Keys.{least}
use Rattle.select.proofs.KeyLaws.{low_same, urgent_best}
use Rattle.select.proofs.some_below.Goals as goal

pub returns : goal.returns
returns c =
    let a = c.args in
    let limits = c.requires.0.state.limits in
    let none = c.v2_priority_mask-mask.result.0 in
    let smaller : c.min-enough.result ≡ least (1024 * none) (1024 * a.bound) = grind (arith, nat_tests) in
    low_same _ _ _ c.best_key.ensures
    ∙ rw (smaller, c.v2_priority_mask-mask.ensures) (urgent_best a.shape a.vcpu.0 a.words.now limits a.bound)
