-- `state::lent::validate_state` meets its contract. Assumes nothing.
use Rattle.std.specs.Prelude.{Some}
use mathlib.Core.Path.{◌≡◌, sym, ◌∙◌}
use native.Mathlib.Omega.{arith}
use lib.ListN.{length}
use borrow.Author.Rules.{rules}
use borrow.Author.Tests.{le-leb, lt-leb}
use Rattle.state.specs.Layout.{size}
use Rattle.state.specs.Lent.{stored_shape, validated}
use Rattle.state.proofs.Tests.{then_some_cond}
use Rattle.state.proofs.Validated.{validated_within, limited_limits}
use Rattle.state.proofs.lent.validate_state.Goals as goal

pub returns-in_err-shape : goal.returns-in_err-shape
unfolding validated
returns-in_err-shape c = simp (c.from_residual.ensures, ← c.stored_shape.ensures, c.in_err-shape.was)

pub size-requires : goal.size-requires
size-requires c = limited_limits _ _ _ (sym c.stored_shape.ensures ∙ c.in_ok-shape.was)

pub returns-then-words-size : goal.returns-then-words-size
returns-then-words-size c =
    let a = c.args.words.now in
    let t = c.in_ok-shape.shape in
    let w : stored_shape a ≡ Some t = sym c.stored_shape.ensures ∙ c.in_ok-shape.was in
    rw (validated_within a t w, lt-leb (size t) (length a) (omega arith))

pub depths_fit-requires : goal.depths_fit-requires
depths_fit-requires c = record { limits = limited_limits _ _ _ (sym c.stored_shape.ensures ∙ c.in_ok-shape.was); room = search rules }

pub returns : goal.returns
returns c =
    let a = c.args.words.now in
    let t = c.in_ok-shape.shape in
    let w : stored_shape a ≡ Some t = sym c.stored_shape.ensures ∙ c.in_ok-shape.was in
    rw (validated_within a t w, le-leb (size t) (length a) (omega arith), ← c.depths_fit.ensures, ← then_some_cond c.depths_fit.result t) c.then_some.ensures
