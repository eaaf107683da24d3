-- A pulse, or a message, is given to whoever next acknowledges and can take it, unless somebody took it before; and it wakes who slept. Assumes nothing.
use mathlib.Core.Path.{◌≡◌, ap, ◌∙◌}
use mathlib.Core.Bool.{true}
use mathlib.Core.List.{List}
use Prim.Native.Nat.{ℕ}
use Rattle.interrupt.specs.declared.record.InterruptRecord.{InterruptRecord}
use Rattle.interrupt.specs.Record as record_of
use Rattle.state.specs.declared.layout.Shape.{Shape}
use Rattle.state.specs.Words.{record_at, changed}
use Rattle.select.specs.Select.{candidate_for}
use Rattle.acknowledge.specs.Acknowledge.{given}
use Rattle.answer.specs.Answer.{Outcome, gave}
use Rattle.lawful.specs.Lawful.{Controls}
use Rattle.history.specs.History.{Call, called}
use Rattle.history.proofs.Always.{every_other_call}
use Rattle.waiting.specs.Waiting.{bit, pends, meets}
use Rattle.waiting.proofs.Pends.{a_pulse_waits, pulse_controls}
use Rattle.waiting.proofs.RecordMoves.{met_record}
use Rattle.stories.specs.Stories as story
use Rattle.stories.specs.Stories.{Pulses, OnePulse, Untaken, SleptBefore, PulseGiven}
use Rattle.stories.proofs.Begins.{a_signal_is_pending}
use Rattle.stories.proofs.Calls.{pulses_past, pulses_there, pulses_act, pulses_call, asleep_quiet}
use Rattle.stories.proofs.Turns.{is_number, number_given, wake_bit_lem}

-- who meets the number finds it pending
module _ (shape : Shape) (v u n : ℕ) (met : meets v n u ≡ true) where
  pending_at : (s : List ℕ) → pends shape v n s ≡ true → (record_at shape u n s).pending ≡ true
  pending_at s e = ap (λ (r : InterruptRecord). r.pending) (met_record v n shape u met s) ∙ e

  -- a call that pulses n wakes whoever slept and can take it
  pub a_pulse_wakes : (c : Call) → Pulses shape v n c → (s : List ℕ) → Controls shape s → SleptBefore shape u n s (called c s).state → bit u (called c s).wake ≡ true
  a_pulse_wakes c pulses s h slept =
      let call = pulses_call shape v n c pulses s h in
      let after : Controls shape (called c s).state = every_other_call shape c (pulses_act shape v n c pulses) s h in
      let state : (called c s).state ≡ changed shape v n record_of.pulse s = ap (λ (o : Outcome). o.state) call in
      rw call
      (wake_bit_lem shape u s (changed shape v n record_of.pulse s) slept.exists (asleep_quiet shape s h u slept.exists slept.asleep)
      (rw state at
      (is_number shape u n (called c s).state after slept.exists (pulses_there shape v n c pulses).numbered slept.takes (pending_at (called c s).state (a_signal_is_pending shape v n c pulses s h)))))

module _ (h : OnePulse) (z : Untaken h) where
  abbrev shape : Shape
  shape = h.shape

  abbrev v : ℕ
  v = h.vcpu

  abbrev n : ℕ
  n = h.interrupt

  controls₁ : Controls shape (story.one_pulsed h).state
  controls₁ = every_other_call shape h.call (pulses_act shape v n h.call z.pulses) h.words z.controls

  waits : pends shape v n (story.one_turn h) ≡ true
  waits =
      a_pulse_waits shape v n (pulses_there shape v n h.call z.pulses) (pulses_past shape v n h.call z.pulses) h.meanwhile (story.one_pulsed h).state controls₁
      (a_signal_is_pending shape v n h.call z.pulses h.words z.controls) z.untaken

  gives : story.one_read h ≡ gave n (given shape h.reader (candidate_for shape h.reader (story.one_turn h) n) (story.one_turn h))
  gives =
      number_given shape h.reader n (story.one_turn h) (pulse_controls shape v n h.meanwhile (story.one_pulsed h).state controls₁ z.untaken) z.reader_exists
      (pulses_there shape v n h.call z.pulses).numbered z.takes (pending_at shape v h.reader n z.its_reader (story.one_turn h) waits)
      (pulses_past shape v n h.call z.pulses) z.none_ahead

  pub a_pulse_is_given : PulseGiven h
  a_pulse_is_given = record {
    accepted = ap (λ (o : Outcome). o.refusal) (pulses_call shape v n h.call z.pulses h.words z.controls);
    wakes = λ u met slept. a_pulse_wakes shape v u n met h.call z.pulses h.words z.controls slept;
    read_accepted = ap (λ (o : Outcome). o.refusal) gives;
    given = ap (λ (o : Outcome). o.value) gives;
  }
