-- The calls that take a pending PPI or SPI do take it: after each of them it is not pending. Assumes nothing.
use mathlib.Core.Path.{◌≡◌, refl, sym, ap, subst, ◌∙◌}
use mathlib.Core.Bool.{Bool, true, false, not, ◌&&◌, and-false, true≢false, false≢true}
use mathlib.Core.List.{List}
use Prim.Native.Nat.{ℕ, ◌-◌, ◌≤◌}
use native.Mathlib.Omega.{arith}
use lib.Dec.{eqb}
use borrow.Author.Tests.{eqb-true, ne_eqb, not-true}
use Rattle.interrupt.specs.declared.record.InterruptRecord.{InterruptRecord}
use Rattle.interrupt.specs.Record.{set_level, mark_inflight, set_owner, set_state, synchronize_inflight, held, falls_idle}
use Rattle.word.specs.Fields.{field_at}
use Rattle.word.specs.Word.{record_of}
use Rattle.register.specs.declared.frame.AccessWidth.{AccessWidth}
use Rattle.register.specs.declared.ranges.BitRegister.TheVariants.{Icpendr}
use Rattle.register.specs.declared.distributor.Place.{Place}
use Rattle.register.specs.declared.distributor.DistributorAccess.TheVariants as distributor
use Rattle.state.specs.declared.layout.Shape.{Shape}
use Rattle.state.specs.Layout.{Slot}
use Rattle.state.specs.Words.{word_at, RecordThere, record_at, changed}
use Rattle.state.proofs.Tests.{left_true, right_true}
use Rattle.select.specs.declared.Candidate.{Candidate}
use Rattle.select.proofs.Agree.{candidate_idle}
use Rattle.select.proofs.Meaning.{best_is}
use Rattle.acknowledge.specs.Acknowledge.{given_record, given}
use Rattle.acknowledge.proofs.Offers.{offer_is}
use Rattle.delivery.proofs.Given.{given_record_lem}
use Rattle.places.specs.Places.{write_place, Located}
use Rattle.lawful.specs.Lawful.{OrderlyRecord, Controls}
use Rattle.moves.specs.Moves as moves
use Rattle.moves.specs.Moves.{Giving}
use Rattle.moves.proofs.Controllers.{changed_record}
use Rattle.moves.proofs.Slots.{givable}
use Rattle.moves.proofs.Sounds.{lawful_sound}
use Rattle.input.specs.declared.Signal.{Signal}
use Rattle.input.specs.declared.Signal.TheVariants.{Level, Edge}
use Rattle.input.specs.Input.{signalled}
use Rattle.history.specs.History.{Call, is_start, called}
use Rattle.waiting.specs.Waiting.{pends, meets, clears_pending_at, lowers, pending_taker, takes_pending}
use Rattle.waiting.proofs.BitWrites.{hit_class, hit_run, hit_field, hit_found, hit_word}
use Rattle.waiting.proofs.Clearing.{cleared_pends}
use Rattle.waiting.proofs.Going.{Goes, call_takes}
use Rattle.waiting.proofs.Keeping.{handed_out}
use Rattle.waiting.proofs.RecordMoves.{met_slot, met_there}

-- what a falling line and an acknowledge do to a record
fallen : (r : InterruptRecord) (asserted : Bool) → falls_idle r asserted ≡ true → (set_level r asserted).pending ≡ false
unfolding set_level
fallen r true e = absurd (false≢true e)
fallen r false e = simp e

handed : (v : ℕ) (r : InterruptRecord) → (given_record v r).pending ≡ r.redelivery_pending
unfolding given_record synchronize_inflight set_state set_owner mark_inflight
handed v r = refl

-- at the vCPU u that makes the call
module _ (shape : Shape) (n : ℕ) (past : 16 ≤ n) (s : List ℕ) (h : Controls shape s) (u : ℕ) (there : RecordThere shape u n) where
  -- a line that falls
  signal_takes : (signal : Signal) → lowers signal (record_at shape u n s) ≡ true → pends shape u n (changed shape u n (signalled signal) s) ≡ false
  signal_takes (Level asserted) e =
      ap (λ (r : InterruptRecord). r.pending) (changed_record shape s h.lawful u n (moves.SetLevel asserted) (record { there = there; fits = past })) ∙ fallen (record_at shape u n s) asserted e
  signal_takes Edge e = absurd (false≢true e)

  -- IAR: what is given is not active, so nothing is noted of it
  given_takes : (e : Candidate) → Giving shape u e s → handed_out shape u e s ≡ n → pends shape u n (given shape u e s) ≡ false
  given_takes e o answers =
      let m : ℕ = e.intid.0 in
      let r = record_at shape u m s in
      let number : m ≡ n = omega (arith, answers, there.numbered, h.lawful.in_range.state.limits.few_numbers) in
      let best = best_is shape u s e (offer_is shape u s e o.offered).best_one in
      let idle = candidate_idle shape u s h.lawful.orderly.summary m best.below best.chosen in
      subst (λ (k : ℕ). pends shape u k (given shape u e s) ≡ false) number
      (ap (λ (x : InterruptRecord). x.pending) (given_record_lem shape u e s (givable shape s (lawful_sound h.lawful) u e o) (rw number past))
      ∙ handed u r ∙ unnoted r (h.lawful.orderly.records u m (record { numbered = best.below; banked = λ low. o.exists })) idle)
    where
      unnoted : (r : InterruptRecord) → OrderlyRecord shape r → r.active ≡ false → r.redelivery_pending ≡ false
      unnoted r orderly idle = go r.redelivery_pending refl
        where
          go : (b : Bool) → r.redelivery_pending ≡ b → b ≡ false
          go true p = absurd (true≢false (sym (orderly.active (orderly.noted p)) ∙ idle))
          go false p = refl

module _ (shape : Shape) (v n : ℕ) (there : RecordThere shape v n) (past : 16 ≤ n) where
  -- what a vCPU that meets it leaves not pending is not pending for v
  for_all : (u : ℕ) (after : List ℕ) → meets v n u ≡ true → pends shape u n after ≡ false → pends shape v n after ≡ false
  for_all u after meeting e = ap (λ (t : Slot). (record_of (word_at shape t after)).pending) (met_slot v n u meeting) ∙ e

  module _ (s : List ℕ) (h : Controls shape s) where
    -- its number, and its line as the vCPU u meets it
    signalled_here : (u m : ℕ) (signal : Signal) → meets v n u ≡ true → (eqb m n && lowers signal (record_at shape v n s)) ≡ true → (m ≡ n) × (lowers signal (record_at shape u n s) ≡ true)
    signalled_here u m signal by e = (
      eqb-true m n (left_true (eqb m n) (lowers signal (record_at shape v n s)) e),
      subst (λ (t : Slot). lowers signal (record_of (word_at shape t s)) ≡ true) (met_slot v n u by) (right_true (eqb m n) (lowers signal (record_at shape v n s)) e),
    )

    -- ICPENDR, of one that is not held
    cleared : (place : Place) (value : ℕ) → (clears_pending_at n (distributor.At place) value && not (held (record_at shape v n s))) ≡ true
        → (clears_pending_at n (distributor.At place) value ≡ true) × (held (record_at shape v n s) ≡ false)
    cleared place value e = (
      left_true (clears_pending_at n (distributor.At place) value) (not (held (record_at shape v n s))) e,
      not-true (held (record_at shape v n s)) (right_true (clears_pending_at n (distributor.At place) value) (not (held (record_at shape v n s))) e),
    )

    write_takes : (u : ℕ) → meets v n u ≡ true → (place : Place) (width : AccessWidth) (value : ℕ) → clears_pending_at n (distributor.At place) value ≡ true
        → held (record_at shape v n s) ≡ false → Located place width → pends shape v n (write_place shape u place width value s) ≡ false
    write_takes u by place width value clears low located =
        let set : Bool = eqb (field_at 1 (n - place.first.0) value) 1 in
        let own = met_there v n u by there in
        let word = hit_word shape Icpendr n s h.lawful.in_range.state u own place width set clears located in
        rw (hit_class shape Icpendr n s h.lawful.in_range.state u own place width set clears located)
        (cleared_pends shape v n there past u place.first.0 value s word
        ∙ simp (by, hit_run shape Icpendr n s h.lawful.in_range.state u own place width set clears located, hit_field shape Icpendr n s h.lawful.in_range.state u own place width set clears located, low, and-false))

    pending_going : Goes shape s (pending_taker shape v n s) (λ r. pends shape v n r ≡ false)
    pending_going = record {
      some = ne_eqb 1023 n (λ p. omega (arith, p, there.numbered, h.lawful.in_range.state.limits.few_numbers));
      given_takes = λ u e by o answers. for_all u (given shape u e s) by (given_takes shape n past s h u (met_there v n u by there) e o (eqb-true (handed_out shape u e s) n answers));
      write_found = λ u place width value by takes located.
          hit_found shape Icpendr n s h.lawful.in_range.state u (met_there v n u by there) place width (eqb (field_at 1 (n - place.first.0) value) 1) (cleared place value takes).0 located value;
      write_takes = λ u place width value by takes at. write_takes u by place width value (cleared place value takes).0 (cleared place value takes).1 at.located;
      nowhere_refused = λ r width value. refl;
      nowhere_private = λ width value. refl;
      no_pulse = λ m. and-false (eqb m n);
      signal_found = λ u m signal by e. let number = (signalled_here u m signal by e).0 in (rw number (met_there v n u by there), rw number past);
      signal_takes = λ u m signal by e.
          let here = signalled_here u m signal by e in
          for_all u (changed shape u m (signalled signal) s) by (rw here.0 (signal_takes shape n past s h u (met_there v n u by there) signal here.1));
    }

  pub pending_goes : (c : Call) (s : List ℕ) → Controls shape s → is_start c ≡ false → takes_pending shape v n s c (called c s) ≡ true → pends shape v n (called c s).state ≡ false
  pending_goes c s h = call_takes (pending_going s h) h c
