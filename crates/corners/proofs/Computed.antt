-- Document 01's P cases come out as it says: one statement about the definitions, computed. Assumes nothing.
use mathlib.Core.Path.{◌≡◌, refl, sym, subst}
use mathlib.Core.Bool.{Bool, true, ◌&&◌}
use mathlib.Core.List.{List, [], ◌∷◌}
use lib.Dec.{leb}
use lib.ListN.{length}
use Rattle.state.specs.declared.layout.Shape.{Shape}
use Rattle.state.specs.Layout.{size}
use Rattle.state.specs.Lent.{in_limits, shaped}
use Rattle.state.proofs.Tests.{left_true, right_true}
use Rattle.answer.specs.Answer.{Outcome}
use Rattle.corners.specs.Corners.{Case, row_matches, right, zeros, setup_row, lent_words, case_right, all_right, corners}
use Rattle.corners.proofs.Started.{started, setup_started, computing}

-- a case from its setup on
abbrev shape_of : Case → Shape
shape_of c = shaped c.count c.limit

abbrev started_right : Case → Bool
started_right c = in_limits c.count c.limit && (leb (size (shape_of c)) (length lent_words) && right c.rows (started (shape_of c) lent_words))

unfoldable all_started : List Case → Bool
all_started [] = true
all_started (c ∷ cs) = started_right c && all_started cs

from_setup : (c : Case) → started_right c ≡ true → case_right c ≡ true
unfolding right
from_setup c p =
    let long : Bool = leb (size (shape_of c)) (length lent_words) in
    let calls : Bool = right c.rows (started (shape_of c) lent_words) in
    let within : in_limits c.count c.limit ≡ true = left_true (in_limits c.count c.limit) (long && calls) p in
    let rest : (long && calls) ≡ true = right_true (in_limits c.count c.limit) (long && calls) p in
    subst (λ (o : Outcome). (row_matches (setup_row c) o && right c.rows o.state) ≡ true) (sym (setup_started c.count c.limit lent_words within (left_true long calls rest))) (right_true long calls rest)

from_setups : (cs : List Case) → all_started cs ≡ true → all_right cs ≡ true
unfolding all_started all_right
from_setups [] p = refl
from_setups (c ∷ cs) p = simp (from_setup c (left_true (started_right c) (all_started cs) p), from_setups cs (right_true (started_right c) (all_started cs) p))

computed : all_started corners ≡ true
unfolding corners all_started right zeros computing
computed = refl

pub corners_right : all_right corners ≡ true
corners_right = from_setups corners computed
