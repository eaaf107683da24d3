-- Setup: document 01, "Refusal numbers": "Setup: 4, 5". What a controller starts as is `fresh`.
use Rattle.std.specs.Prelude.{◌≡◌, cond, List, ℕ, leb, length, Option, Some, None}
use Rattle.register.specs.declared.frame.Refusal.TheVariants.{Limits, ShortState}
use Rattle.state.specs.Layout.{size}
use Rattle.state.specs.Lent.{limited}
use Rattle.state.specs.Fresh.{fresh}
use Rattle.answer.specs.Answer.{Answer, Outcome, outcome, refused, gave}
use Rattle.state.specs.declared.layout.Shape.{Shape}

abbrev pub setup_of : Option Shape → List ℕ → Outcome
setup_of None s = refused Limits s
setup_of (Some shape) s = cond (leb (size shape) (length s)) (gave 0 (fresh shape s)) (refused ShortState s)

unfoldable pub setup : ℕ → ℕ → List ℕ → Outcome
setup count limit s = setup_of (limited count limit) s

-- what the call promises of its answer and the words after it
abbrev pub SetupPromise : ℕ → ℕ → List ℕ → Answer → List ℕ → Type 0
SetupPromise count limit before answer after = outcome answer after ≡ setup count limit before
