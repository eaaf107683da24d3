-- `controller::start::setup` meets its contract. Assumes nothing.
use Rattle.std.specs.Prelude.{Some}
use mathlib.Core.Path.{◌≡◌, ◌∙◌}
use native.Mathlib.Omega.{arith}
use borrow.Author.Tests.{le-leb}
use Rattle.state.specs.Lent.{limited}
use Rattle.state.proofs.Validated.{limited_limits}
use Rattle.controller.specs.Start.{setup}
use Rattle.controller.proofs.start.setup.Goals as goal

pub size-requires : goal.size-requires
size-requires c =
    let shaped : limited c.args.count c.args.limit ≡ Some c.in_ok-shape.shape = grind arith in
    limited_limits c.args.count c.args.limit _ shaped

pub fill-requires : goal.fill-requires
fill-requires c =
    let shaped : limited c.args.count c.args.limit ≡ Some c.in_ok-shape.shape = grind arith in
    record { limits = limited_limits c.args.count c.args.limit _ shaped; room = rw c.size.ensures at c.if-words-size.false }

pub returns : goal.returns
unfolding setup
returns c =
    let shaped : limited c.args.count c.args.limit ≡ Some c.in_ok-shape.shape = grind arith in
    c.gave.ensures _ ∙ simp (c.fill.ensures, shaped, le-leb _ _ (rw c.size.ensures at c.if-words-size.false))
