-- What a host may look at beside the registers. Both calls are beyond document 01: docs/DECISIONS.md, "What a host looks at".
use Rattle.std.specs.Prelude.{◌≡◌, Bool, true, cond, List, ℕ, ltb}
use Rattle.interrupt.specs.Types.{is_private_id}
use Rattle.word.specs.Word.{bit_of, word_of}
use Rattle.state.specs.declared.layout.Shape.{Shape}
use Rattle.state.specs.Lent.{validated}
use Rattle.state.specs.Words.{record_at}
use Rattle.acknowledge.specs.Acknowledge.{acknowledge}
use Rattle.wake.specs.Wake.{gives_number}
use Rattle.answer.specs.Answer.{Answer, Outcome, outcome, gave, on_state, looked_up}

-- "whether a read of IAR by this vCPU would now give a number: the level of the line that a hypervisor drives into the vCPU"
abbrev pub line_level : Shape → ℕ → List ℕ → Bool
line_level shape v s = gives_number (acknowledge shape v s)

-- "Refusals 6, then 3; value 1 or 0"
unfoldable pub irq_level : ℕ → List ℕ → Outcome
irq_level v s = on_state (validated s) s (λ shape. looked_up true shape v s (gave (bit_of (line_level shape v s)) s))

-- "one interrupt's record as its word .. a number not below the limit reads 0, as in the registers"
abbrev pub interrupt_at : Shape → ℕ → ℕ → List ℕ → Outcome
interrupt_at shape v n s = cond (ltb n shape.limit) (looked_up (is_private_id (record { 0 = n })) shape v s (gave (word_of (record_at shape v n s)) s)) (gave 0 s)

-- "Refusals 6, then 3 for a private number of a vCPU that does not exist"
unfoldable pub interrupt_word : ℕ → ℕ → List ℕ → Outcome
interrupt_word v n s = on_state (validated s) s (λ shape. interrupt_at shape v n s)

-- what the calls promise of their answer and the words after it
abbrev pub IrqLevelPromise : ℕ → List ℕ → Answer → List ℕ → Type 0
IrqLevelPromise v before answer after = outcome answer after ≡ irq_level v before

abbrev pub InterruptWordPromise : ℕ → ℕ → List ℕ → Answer → List ℕ → Type 0
InterruptWordPromise v n before answer after = outcome answer after ≡ interrupt_word v n before
