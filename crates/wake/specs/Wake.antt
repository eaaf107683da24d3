-- The wake set: document 01, "CPU interface places": "bit v is set exactly when an IAR read by v would give 1023 before the call and another
-- number after it. Only existing vCPUs count, and an IAR that 7 would refuse gives no number." It is said by IAR's answers; how it is
-- computed is in Halves.antt.
use Rattle.std.specs.Prelude.{Bool, false, not, ◌&&◌, List, ℕ, eqb, Option, Some, None}
use Rattle.word.specs.Fields.{gathered}
use Rattle.word.specs.Word.{bit_of}
use Rattle.state.specs.declared.layout.Shape.{Shape}
use Rattle.acknowledge.specs.Acknowledge.{acknowledge}

abbrev pub is_spurious : Option ℕ → Bool
is_spurious (Some x) = eqb x 1023
is_spurious None = false

abbrev pub gives_number : Option ℕ → Bool
gives_number (Some x) = not (eqb x 1023)
gives_number None = false

abbrev pub woken : Shape → List ℕ → List ℕ → ℕ → Bool
woken shape before after v = is_spurious (acknowledge shape v before) && gives_number (acknowledge shape v after)

unfoldable pub wake_set : Shape → List ℕ → List ℕ → ℕ
wake_set shape before after = gathered 1 (λ v. bit_of (woken shape before after v)) shape.count
