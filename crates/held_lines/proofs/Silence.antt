-- While a device holds its level line the interrupt is pending until it is given, and again once it is retired, whoever clears it. Assumes nothing.
use mathlib.Core.Path.{◌≡◌, refl, sym, ap, ◌∙◌}
use mathlib.Core.Bool.{Bool, true, false, ◌||◌, and-false}
use mathlib.Core.List.{List}
use Prim.Native.Nat.{ℕ, ◌<◌}
use native.Mathlib.Omega.{arith}
use Rattle.interrupt.specs.declared.record.InterruptRecord.{InterruptRecord}
use Rattle.interrupt.specs.Record.{held, set_level, deactivate_inflight, set_owner}
use Rattle.interrupt.specs.Types.{is_level}
use Rattle.register.specs.declared.frame.AccessWidth.{AccessWidth}
use Rattle.register.specs.declared.ranges.BitRegister.TheVariants.{Icpendr}
use Rattle.register.specs.declared.ranges.Class.TheVariants.{Bits}
use Rattle.register.specs.declared.distributor.Place.{Place}
use Rattle.register.specs.declared.distributor.DistributorAccess.TheVariants as distributor
use Rattle.register.specs.Distributor.{locate_distributor}
use Rattle.word.specs.Word.{bit_of}
use Rattle.state.specs.declared.layout.Shape.{Shape}
use Rattle.state.specs.Words.{record_at}
use Rattle.end.specs.End.{retire}
use Rattle.answer.specs.Answer.{Outcome}
use Rattle.input.specs.declared.Signal.TheVariants.{Level}
use Rattle.lawful.specs.Lawful.{Controls}
use Rattle.history.specs.History.{Call, WriteDistributor, WriteCpuInterface, SetLevel, is_start, called}
use Rattle.history.proofs.Always.{every_other_call}
use Rattle.history.proofs.Each.{valid}
use Rattle.waiting.specs.Waiting.{meets, lets_go_or_gives}
use Rattle.waiting.proofs.Accepted.{input_call_lem}
use Rattle.waiting.proofs.Lines.{HeldPending, a_line_stays_up, a_held_line_stays_pending, line_controls}
use Rattle.waiting.proofs.RecordMoves.{met_record}
use Rattle.stories.proofs.Begins.{signalled_record}
use Rattle.stories.proofs.Retiring.{retiring_record}
use Rattle.stories.proofs.Turns.{is_number, number_given}
use Rattle.levels.specs.Levels.{told_level}
use Rattle.levels.proofs.Rises.{level_there, wakes_are_rises}
use Rattle.held_lines.specs.HeldLines.{HeldLine, line_rises, line_waits, line_served, line_retires, line_waits_again, Holding, Retirement, Reader, Heard, WakesReaders, HeardAgain, NeverSilent}

-- "The virtio driver clears pending": a write to ICPENDR, whatever it says and whoever makes it
pub a_clear_lets_nothing_go : (v n u offset : ℕ) (width : AccessWidth) (value : ℕ) (s : List ℕ) (place : Place) → locate_distributor offset width ≡ distributor.At place → place.class ≡ Bits Icpendr
    → lets_go_or_gives v n (WriteDistributor u offset width value) (called (WriteDistributor u offset width value) s) ≡ false
a_clear_lets_nothing_go v n u offset width value s place at is = rw (at, is) (and-false (meets v n u))

-- a held record is pending once it is retired
retired_held : (r : InterruptRecord) → held r ≡ true → held (retire r) ≡ true
unfolding retire deactivate_inflight set_owner held
retired_held r e = e

or_right : (a b : Bool) → b ≡ true → (a || b) ≡ true
or_right true b e = refl
or_right false b e = e

retired_pends : (r : InterruptRecord) → held r ≡ true → (retire r).pending ≡ true
unfolding retire deactivate_inflight set_owner
retired_pends r e = or_right (r.pending || r.redelivery_pending) (held r) e

risen_held : (r : InterruptRecord) → is_level r.trigger ≡ true → held (set_level r true) ≡ true
unfolding held set_level
risen_held r e = rw e refl

risen_pends : (r : InterruptRecord) → (set_level r true).pending ≡ true
unfolding set_level
risen_pends r = refl

module _ (h : HeldLine) (z : Holding h) where
  abbrev shape : Shape
  shape = h.shape

  abbrev v : ℕ
  v = h.vcpu

  abbrev n : ℕ
  n = h.interrupt

  abbrev Pending : List ℕ → Type 0
  Pending = HeldPending shape v n z.there z.no_sgi

  numbered : n < 1020
  numbered = omega (arith, z.there.numbered, z.controls.lawful.in_range.state.limits.few_numbers)

  -- the line rises
  risen : record_at shape v n (line_rises h).state ≡ set_level (record_at shape v n h.words) true
  risen = signalled_record shape v n h.words z.controls z.there z.no_sgi (Level true)

  up₁ : Pending (line_rises h).state
  up₁ = record {
    controls = every_other_call shape (SetLevel v n true) refl h.words z.controls;
    line = ap held risen ∙ risen_held (record_at shape v n h.words) z.level;
    pending = ap (λ (r : InterruptRecord). r.pending) risen ∙ risen_pends (record_at shape v n h.words);
  }

  -- and it waits
  up₂ : Pending (line_waits h)
  up₂ = a_held_line_stays_pending shape v n z.there z.no_sgi h.meanwhile₁ (line_rises h).state up₁ z.held₁

  -- what is pending is heard
  module _ (s : List ℕ) (p : Pending s) where
    own_pending : (reader : ℕ) → Reader h reader s → (record_at shape reader n s).pending ≡ true
    own_pending reader r = ap (λ (q : InterruptRecord). q.pending) (met_record v n shape reader r.its_reader s) ∙ p.pending

    level_up : (reader : ℕ) → Reader h reader s → told_level reader s ≡ 1
    level_up reader r =
        level_there shape s (valid shape s p.controls) reader r.exists
        ∙ ap bit_of (is_number shape reader n s p.controls r.exists z.there.numbered r.takes (own_pending reader r))

    heard : Heard h s
    heard = record {
      pending = p.pending;
      line_up = level_up;
      accepted = λ reader r none.
          ap (λ (o : Outcome). o.refusal) (number_given shape reader n s p.controls r.exists z.there.numbered r.takes (own_pending reader r) z.no_sgi none);
      given = λ reader r none.
          ap (λ (o : Outcome). o.value) (number_given shape reader n s p.controls r.exists z.there.numbered r.takes (own_pending reader r) z.no_sgi none);
    }

  wakes : (c : Call) → is_start c ≡ false → (s : List ℕ) → Controls shape s → Pending (called c s).state → WakesReaders h s (called c s)
  wakes c e s controls p reader r quiet =
      wakes_are_rises c e s (record { shape = shape; controls = controls }) reader ∙ simp (quiet, level_up (called c s).state p reader r)

  -- if it is retired
  module _ (y : Retirement h) where
    served_controls : Controls shape (line_served h)
    served_controls = line_controls shape v n h.meanwhile₂ (line_waits h) up₂.controls y.held₂

    served_up : held (record_at shape v n (line_served h)) ≡ true
    served_up = a_line_stays_up shape v n z.there z.no_sgi h.meanwhile₂ (line_waits h) up₂.controls up₂.line y.held₂

    retired : record_at shape v n (line_retires h).state ≡ retire (record_at shape v n (line_served h))
    retired =
        sym (met_record v n shape h.retirer y.its_retirer (line_retires h).state)
        ∙ retiring_record shape (line_served h) served_controls h.retirer n numbered h.offset h.width h.writes y.retired
        ∙ ap retire (met_record v n shape h.retirer y.its_retirer (line_served h))

    up₃ : Pending (line_retires h).state
    up₃ = record {
      controls = every_other_call shape (WriteCpuInterface h.retirer h.offset h.width h.writes) refl (line_served h) served_controls;
      line = ap held retired ∙ retired_held (record_at shape v n (line_served h)) served_up;
      pending = ap (λ (r : InterruptRecord). r.pending) retired ∙ retired_pends (record_at shape v n (line_served h)) served_up;
    }

    up₄ : Pending (line_waits_again h)
    up₄ = a_held_line_stays_pending shape v n z.there z.no_sgi h.meanwhile₃ (line_retires h).state up₃ y.held₃

    heard_again : HeardAgain h
    unfolding retire deactivate_inflight set_owner
    heard_again = record {
      idle = ap (λ (r : InterruptRecord). r.active) retired;
      not_in_flight = ap (λ (r : InterruptRecord). r.inflight) retired;
      pends_again = heard (line_retires h).state up₃;
      retirement_wakes = wakes (WriteCpuInterface h.retirer h.offset h.width h.writes) refl (line_served h) served_controls up₃;
      still_waits = heard (line_waits_again h) up₄;
    }

  pub the_ring_is_never_silent : NeverSilent h
  the_ring_is_never_silent = record {
    rise_accepted = ap (λ (o : Outcome). o.refusal) (input_call_lem shape h.words z.controls v (Level true) n z.there z.no_sgi);
    rise_wakes = wakes (SetLevel v n true) refl h.words z.controls up₁;
    waits = heard (line_waits h) up₂;
    again = heard_again;
  }
