-- `groups::number_at` meets its contract. Assumes nothing.
use mathlib.Core.Path.{sym, ◌∙◌}
use Prim.Native.Nat.{◌+◌, ◌-◌}
use native.Mathlib.Omega.{arith}
use Rattle.groups.proofs.Reading.{above_small}
use Rattle.groups.proofs.number_at.Goals as goal

pub with_group-requires : goal.with_group-requires
with_group-requires c =
    let a = c.args in
    let here = rw c.in-More.is at c.group_at-group.ensures in
    (here.1.1.0, λ n next e. above_small (a.left - 1) n next a.image.now (a.at + 1) (omega arith) (sym c.further_at.ensures ∙ e))
