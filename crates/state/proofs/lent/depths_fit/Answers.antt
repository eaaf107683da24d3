-- `state::lent::depths_fit` meets its contract. Assumes nothing.
use mathlib.Core.Path.{sym}
use native.Mathlib.Omega.{arith}
use borrow.Author.Tests.{lt-leb}
use Rattle.state.specs.Lent.{depth_fits}
use Rattle.state.proofs.Tests.{every_fails}
use Rattle.state.proofs.lent.depths_fit.Goals as goal

pub returns-then-interface_value-gt-STACK_CAPACITY : goal.returns-then-interface_value-gt-STACK_CAPACITY
returns-then-interface_value-gt-STACK_CAPACITY c =
    let a = c.args in
    let v = c.loop-v.v in
    sym (every_fails (depth_fits a.shape a.words.now) a.shape.count v (rw (← c.interface_value.ensures) (lt-leb _ _ c.if-interface_value-gt-STACK_CAPACITY.true)) (omega arith))
