-- How a wake set is computed, in two halves: before a call who is quiet, of those whom it can wake, and after it who of these is not. A reader need not believe any of it; the
-- promise is in Wake.antt, and proofs/WakeSets.antt shows that the halves make it.
use Rattle.std.specs.Prelude.{Bool, true, false, ◌&&◌, List, ℕ, ◌/◌, ◌%◌, ◌^◌, eqb, Option, Some, None}
use Rattle.interrupt.specs.Types.{every_vcpu}
use Rattle.word.specs.Fields.{gathered}
use Rattle.word.specs.Word.{bit_of}
use Rattle.state.specs.declared.layout.Shape.{Shape}
use Rattle.acknowledge.specs.Acknowledge.{offer, acknowledge}
use Rattle.wake.specs.declared.IarAnswer.{IarAnswer}
use Rattle.wake.specs.declared.IarAnswer.TheVariants.{Spurious, Number}
use Rattle.wake.specs.Wake.{is_spurious, gives_number}
use Rattle.select.specs.declared.Candidate.{Candidate}

abbrev pub answers_so : IarAnswer → Shape → List ℕ → ℕ → Bool
answers_so Spurious shape s v = is_spurious (acknowledge shape v s)
answers_so Number shape s v = gives_number (acknowledge shape v s)

-- of the vCPUs whose bit is set in `among`
abbrev pub among_answers : IarAnswer → ℕ → Shape → List ℕ → ℕ → Bool
among_answers answer among shape s v = eqb (among / 2 ^ v % 2) 1 && answers_so answer shape s v

unfoldable pub answering_among : IarAnswer → ℕ → Shape → List ℕ → ℕ
answering_among answer among shape s = gathered 1 (λ v. bit_of (among_answers answer among shape s v)) shape.count

-- before the call those are asked whom it can wake
abbrev pub quiet_among : ℕ → Shape → List ℕ → ℕ
quiet_among among shape s = answering_among Spurious among shape s

-- .. or everybody
abbrev pub quiet_set : Shape → List ℕ → ℕ
quiet_set shape s = quiet_among every_vcpu shape s

-- after it the quiet ones
abbrev pub wake_from : ℕ → Shape → List ℕ → ℕ
wake_from quiet shape s = answering_among Number quiet shape s

-- the direct test: an IAR read finds something to hand out
abbrev pub is_some : Option Candidate → Bool
is_some None = false
is_some (Some c) = true

unfoldable pub ready : Shape → ℕ → List ℕ → Bool
ready shape v s = is_some (offer shape v s)
