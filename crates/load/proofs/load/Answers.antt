-- `load::load` meets its contract. Assumes nothing.
use Rattle.std.specs.Prelude.{Some}
use mathlib.Core.Path.{◌≡◌, sym, ◌∙◌}
use native.Mathlib.Omega.{arith}
use borrow.Author.Tests.{le-ltb, le-leb}
use Rattle.load.specs.Load.{opened_as, load}
use Rattle.load.proofs.load.Goals as goal

pub returns : goal.returns
unfolding load
returns c =
    let opened : opened_as c.args.image.now ≡ Some (c.in_ok-shape.shape, c.in_ok-shape.control, c.in_ok-shape.start) = grind arith in
    let end : _ ≡ Some c.in_ok-end.end = sym c.take_parts.ensures.0 ∙ grind arith in
    let room = simp (c.size.ensures, c.take_parts.ensures.1) at c.if-words-size.false in
    simp (opened, end, le-ltb _ _ c.if-end-image.false, le-leb _ _ room, c.gave.ensures, c.store.ensures, c.take_parts.ensures.1)
