-- Where the waiting begins: a ring sets its sender's bit at its target, and a pulse, or a message, leaves its interrupt pending. Assumes nothing.
use mathlib.Core.Path.{◌≡◌, refl, ap, ◌∙◌}
use mathlib.Core.Bool.{true}
use mathlib.Core.List.{List}
use Prim.Native.Nat.{ℕ, ◌%◌, ◌^◌, ◌≤◌, ◌<◌}
use native.Mathlib.Omega.{arith}
use lib.Bits.{or_comm}
use Rattle.interrupt.specs.declared.record.InterruptRecord.{InterruptRecord}
use Rattle.interrupt.specs.Record as record_of
use Rattle.state.specs.declared.layout.Shape.{Shape}
use Rattle.state.specs.Loop.{every_below}
use Rattle.state.specs.Words.{RecordThere, record_at, sources_at, changed}
use Rattle.state.proofs.Tests.{every_at}
use Rattle.answer.specs.Answer.{Outcome}
use Rattle.input.specs.declared.Signal.{Signal}
use Rattle.input.specs.declared.Signal.TheVariants.{Level, Edge}
use Rattle.input.specs.Input.{signalled, device_input}
use Rattle.lawful.specs.Lawful.{Controls}
use Rattle.moves.specs.Moves as moves
use Rattle.moves.proofs.Controllers.{changed_record}
use Rattle.history.specs.History.{Call, Pulse, called, sgir_write}
use Rattle.waiting.specs.Waiting.{bit, rung, pends}
use Rattle.waiting.proofs.Accepted.{input_call_lem}
use Rattle.waiting.proofs.BitLaws.{bit_or_lem}
use Rattle.stories.specs.Stories.{Rings, Pulses, by_pulse}
use Rattle.stories.proofs.Calls.{ring_call, pulses_call, pulses_there, pulses_past}
use Rattle.stories.proofs.Events.{rung_sources}

own_bit : (u : ℕ) → u < 8 → bit u (2 ^ u) ≡ true
unfolding every_below
own_bit u b = every_at (λ i. bit i (2 ^ i)) 8 u refl b

pub a_ring_is_set : (shape : Shape) (t n u value : ℕ) (s : List ℕ) → Controls shape s → t < shape.count → u < shape.count → n < 16 → Rings u value t n
    → rung shape t n u (called (sgir_write u value) s).state ≡ true
a_ring_is_set shape t n u value s h exists sender sgi rings =
    ap (λ (o : Outcome). rung shape t n u o.state) (ring_call shape s h u value t sender rings.named)
    ∙ ap (bit u) (rung_sources shape t n u (value % 2 ^ 32) s h.lawful.in_range.state exists sgi few rings.numbered rings.named ∙ or_comm (sources_at shape t n s) (2 ^ u))
    ∙ bit_or_lem u (2 ^ u) (sources_at shape t n s) (own_bit u few)
  where
    few : u < 8
    few = omega (arith, sender, h.lawful.in_range.state.limits.few_vcpus)

module _ (shape : Shape) (v n : ℕ) (s : List ℕ) (h : Controls shape s) (there : RecordThere shape v n) (no_sgi : 16 ≤ n) where
  pub signalled_record : (signal : Signal) → record_at shape v n (device_input signal v n s).state ≡ signalled signal (record_at shape v n s)
  signalled_record signal = ap (λ (o : Outcome). record_at shape v n o.state) (input_call_lem shape s h v signal n there no_sgi) ∙ changes signal
    where
      changes : (d : Signal) → record_at shape v n (changed shape v n (signalled d) s) ≡ signalled d (record_at shape v n s)
      changes (Level asserted) = changed_record shape s h.lawful v n (moves.SetLevel asserted) (record { there = there; fits = no_sgi })
      changes Edge = changed_record shape s h.lawful v n moves.Pulse (record { there = there; fits = no_sgi })

-- any call that pulses: a pulse, or a message that rings
module _ (shape : Shape) (v n : ℕ) (c : Call) (pulses : Pulses shape v n c) where
  module _ (s : List ℕ) (h : Controls shape s) where
    pub pulsed_record : record_at shape v n (called c s).state ≡ record_of.pulse (record_at shape v n s)
    pulsed_record =
        ap (λ (o : Outcome). record_at shape v n o.state) (pulses_call shape v n c pulses s h)
        ∙ changed_record shape s h.lawful v n moves.Pulse (record { there = pulses_there shape v n c pulses; fits = pulses_past shape v n c pulses })

    pub a_signal_is_pending : pends shape v n (called c s).state ≡ true
    unfolding record_of.pulse
    a_signal_is_pending = ap (λ (r : InterruptRecord). r.pending) pulsed_record

module _ (shape : Shape) (v n : ℕ) (s : List ℕ) (h : Controls shape s) (there : RecordThere shape v n) (no_sgi : 16 ≤ n) where
  pub a_pulse_is_pending : pends shape v n (called (Pulse v n) s).state ≡ true
  a_pulse_is_pending = a_signal_is_pending shape v n (Pulse v n) (by_pulse there no_sgi) s h
