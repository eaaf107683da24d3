-- Device inputs: document 01, "Port order" 1 ("Device input calls `set_level` and `pulse`") and "Refusal numbers": "Device input: 6, 8, 3"; the
-- vCPU is not looked up for SPI inputs.
use Rattle.std.specs.Prelude.{◌≡◌, Bool, not, cond, ◌&&◌, List, ℕ, ltb, Option, Some, None}
use Rattle.interrupt.specs.declared.record.InterruptRecord.{InterruptRecord}
use Rattle.interrupt.specs.Types.{is_sgi, is_private_id}
use Rattle.interrupt.specs.Record as record_of
use Rattle.register.specs.declared.frame.Refusal.TheVariants as refusal
use Rattle.state.specs.declared.layout.Shape.{Shape}
use Rattle.state.specs.Lent.{validated}
use Rattle.state.specs.Words.{RecordThere, changed}
use Rattle.service.specs.Service.{Sound}
use Rattle.input.specs.declared.Signal.{Signal}
use Rattle.input.specs.declared.Signal.TheVariants.{Level, Edge}
use Rattle.answer.specs.Answer.{Answer, Outcome, outcome, refused, went, on_state, looked_up}
use Rattle.interrupt.specs.declared.types.IntId.{IntId}

abbrev pub signalled : Signal → InterruptRecord → InterruptRecord
signalled (Level asserted) r = record_of.set_level r asserted
signalled Edge r = record_of.pulse r

-- what a signal comes to at the interrupt n, as the vCPU v meets it
abbrev pub signal_went : Shape → ℕ → ℕ → Signal → List ℕ → Outcome
signal_went shape v n signal s = went shape 1023 s (changed shape v n (signalled signal) s)

-- .. where there is one, in words that refusal 6 is not for
pub record Signalling (shape : Shape) (v n : ℕ) (s : List ℕ) : Type 0 where
  pub sound : Sound shape s
  pub there : RecordThere shape v n

-- 8: "the number is 0 to 15, or not below the limit"
unfoldable pub input_of : Shape → ℕ → Option IntId
input_of shape n = cond (not (is_sgi (record { 0 = n })) && ltb n shape.limit) (Some (record { 0 = n })) None

abbrev pub input_at : Shape → ℕ → Signal → Option IntId → List ℕ → Outcome
input_at shape v signal None s = refused refusal.Input s
input_at shape v signal (Some n) s = looked_up (is_private_id n) shape v s (went shape 1023 s (changed shape v n.0 (signalled signal) s))

unfoldable pub device_input : Signal → ℕ → ℕ → List ℕ → Outcome
device_input signal v n s = on_state (validated s) s (λ shape. input_at shape v signal (input_of shape n) s)

abbrev pub device_level : ℕ → ℕ → Bool → List ℕ → Outcome
device_level v n asserted s = device_input (Level asserted) v n s

abbrev pub device_pulse : ℕ → ℕ → List ℕ → Outcome
device_pulse v n s = device_input Edge v n s

-- what the calls promise of their answer and the words after it
abbrev pub SetLevelPromise : ℕ → ℕ → Bool → List ℕ → Answer → List ℕ → Type 0
SetLevelPromise v n asserted before answer after = outcome answer after ≡ device_level v n asserted before

abbrev pub PulsePromise : ℕ → ℕ → List ℕ → Answer → List ℕ → Type 0
PulsePromise v n before answer after = outcome answer after ≡ device_pulse v n before
