-- A pulse, or a message, that arrives while its interrupt is in flight is given again after it is retired, whatever call pulses it. Assumes nothing.
use mathlib.Core.Path.{◌≡◌, refl, sym, ap, ◌∙◌}
use mathlib.Core.Bool.{true}
use Prim.Native.Nat.{ℕ, ◌≤◌, ◌<◌}
use native.Mathlib.Omega.{arith}
use Rattle.interrupt.specs.declared.record.InterruptRecord.{InterruptRecord}
use Rattle.interrupt.specs.Record as record_of
use Rattle.state.specs.declared.layout.Shape.{Shape}
use Rattle.state.specs.Words.{RecordThere, record_at, changed}
use Rattle.select.specs.Select.{candidate_for}
use Rattle.acknowledge.specs.Acknowledge.{given}
use Rattle.end.specs.End.{retire}
use Rattle.answer.specs.Answer.{Outcome, gave, went}
use Rattle.lawful.specs.Lawful.{Controls}
use Rattle.history.specs.History.{WriteCpuInterface, run}
use Rattle.history.proofs.Always.{every_other_call}
use Rattle.waiting.specs.Waiting.{pends}
use Rattle.waiting.proofs.Pends.{pending_stays, a_pulse_waits, pulse_controls}
use Rattle.waiting.proofs.RecordMoves.{met_record}
use Rattle.stories.specs.Stories as story
use Rattle.stories.specs.Stories.{SignalInFlight, SignalInService, SignalGivenAgain}
use Rattle.stories.proofs.Begins.{pulsed_record, a_signal_is_pending}
use Rattle.stories.proofs.Calls.{pulses_past, pulses_there, pulses_act, pulses_call}
use Rattle.stories.proofs.Retiring.{retiring_record}
use Rattle.stories.proofs.Turns.{number_given}

module _ (h : SignalInFlight) (z : SignalInService h) where
  abbrev shape : Shape
  shape = h.shape

  abbrev v : ℕ
  v = h.vcpu

  abbrev n : ℕ
  n = h.interrupt

  there : RecordThere shape v n
  there = pulses_there shape v n h.call z.pulses

  no_sgi : 16 ≤ n
  no_sgi = pulses_past shape v n h.call z.pulses

  numbered : n < 1020
  numbered = omega (arith, there.numbered, z.controls.lawful.in_range.state.limits.few_numbers)

  -- the pulse
  pulse_is : story.signal_sent h ≡ went shape 1023 h.words (changed shape v n record_of.pulse h.words)
  pulse_is = pulses_call shape v n h.call z.pulses h.words z.controls

  controls₁ : Controls shape (story.signal_sent h).state
  controls₁ = every_other_call shape h.call (pulses_act shape v n h.call z.pulses) h.words z.controls

  pended₁ : pends shape v n (story.signal_sent h).state ≡ true
  pended₁ = a_signal_is_pending shape v n h.call z.pulses h.words z.controls

  noted₁ : (record_at shape v n (story.signal_sent h).state).redelivery_pending ≡ true
  unfolding record_of.pulse
  noted₁ = ap (λ (r : InterruptRecord). r.redelivery_pending) (pulsed_record shape v n h.call z.pulses h.words z.controls) ∙ simp z.in_flight

  -- until it is retired
  controls₂ : Controls shape (run h.meanwhile₁ (story.signal_sent h).state)
  controls₂ = pulse_controls shape v n h.meanwhile₁ (story.signal_sent h).state controls₁ z.untaken₁

  pended₂ : pends shape v n (run h.meanwhile₁ (story.signal_sent h).state) ≡ true
  pended₂ = a_pulse_waits shape v n there no_sgi h.meanwhile₁ (story.signal_sent h).state controls₁ pended₁ z.untaken₁

  -- retired
  controls₃ : Controls shape (story.signal_retires h).state
  controls₃ = every_other_call shape (WriteCpuInterface h.retirer h.offset h.width h.writes) refl (run h.meanwhile₁ (story.signal_sent h).state) controls₂

  pended₃ : pends shape v n (story.signal_retires h).state ≡ true
  pended₃ =
      pending_stays shape v n there no_sgi (WriteCpuInterface h.retirer h.offset h.width h.writes) (run h.meanwhile₁ (story.signal_sent h).state) controls₂ pended₂ refl

  retired₃ : record_at shape h.retirer n (story.signal_retires h).state ≡ retire (record_at shape h.retirer n (run h.meanwhile₁ (story.signal_sent h).state))
  retired₃ = retiring_record shape (run h.meanwhile₁ (story.signal_sent h).state) controls₂ h.retirer n numbered h.offset h.width h.writes z.retired

  -- its turn
  controls₄ : Controls shape (story.signal_turn h)
  controls₄ = pulse_controls shape v n h.meanwhile₂ (story.signal_retires h).state controls₃ z.untaken₂

  pended₄ : (record_at shape h.reader n (story.signal_turn h)).pending ≡ true
  pended₄ =
      ap (λ (r : InterruptRecord). r.pending) (met_record v n shape h.reader z.its_reader (story.signal_turn h))
      ∙ a_pulse_waits shape v n there no_sgi h.meanwhile₂ (story.signal_retires h).state controls₃ pended₃ z.untaken₂

  gives : story.signal_read_again h ≡ gave n (given shape h.reader (candidate_for shape h.reader (story.signal_turn h) n) (story.signal_turn h))
  gives = number_given shape h.reader n (story.signal_turn h) controls₄ z.reader_exists there.numbered z.takes pended₄ no_sgi z.none_ahead

  pub signal_given_again : SignalGivenAgain h
  unfolding retire record_of.deactivate_inflight record_of.set_owner
  signal_given_again = record {
    signal_accepted = ap (λ (o : Outcome). o.refusal) pulse_is;
    noted = noted₁;
    waits = pended₃;
    idle = ap (λ (r : InterruptRecord). r.active) (sym (met_record v n shape h.retirer z.its_retirer (story.signal_retires h).state) ∙ retired₃);
    not_in_flight = ap (λ (r : InterruptRecord). r.inflight) (sym (met_record v n shape h.retirer z.its_retirer (story.signal_retires h).state) ∙ retired₃);
    read_accepted = ap (λ (o : Outcome). o.refusal) gives;
    given_again = ap (λ (o : Outcome). o.value) gives;
  }
