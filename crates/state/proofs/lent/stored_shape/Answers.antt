-- `state::lent::stored_shape` meets its contract. Assumes nothing.
use mathlib.Core.Path.{◌≡◌}
use native.Mathlib.Omega.{arith}
use lib.ListN.{get_or, get_or-eq_default}
use Rattle.state.proofs.Validated.{no_limit}
use Rattle.state.proofs.lent.stored_shape.Goals as goal

pub returns-in_default : goal.returns-in_default
returns-in_default c = let h : get_or c.args.words.now 1 0 ≡ 0 = get_or-eq_default c.args.words.now 0 (omega arith) in simp (h, no_limit)
