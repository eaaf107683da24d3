-- The calls that take a ring do take it: after each of them it is gone, whether it was there or not. Assumes nothing.
use mathlib.Core.Path.{◌≡◌, refl, sym, ap, subst, ◌∙◌}
use mathlib.Core.Bool.{true, false, ◌&&◌, true≢false, false≢true}
use mathlib.Core.List.{List}
use mathlib.Core.Logic.{inr}
use Prim.Native.Nat.{ℕ, ◌+◌, ◌*◌, ◌-◌, ◌/◌, ◌%◌, ◌^◌, ◌<◌}
use native.Mathlib.Omega.{arith}
use native.Mathlib.Nat.{mod-lt, div-eq_of_lt}
use lib.Pow.{pow-lt, pow_pos}
use borrow.Author.Tests.{lt-ltb, eqb-true, ne_eqb, eq-eqb}
use Rattle.word.specs.Fields.{field_at}
use Rattle.register.specs.declared.frame.AccessWidth.{AccessWidth}
use Rattle.register.specs.declared.ranges.ByteRegister.TheVariants.{Cpendsgir}
use Rattle.register.specs.declared.ranges.Class.TheVariants.{Bytes}
use Rattle.register.specs.declared.distributor.Place.{Place}
use Rattle.register.specs.declared.distributor.DistributorAccess.TheVariants as distributor
use Rattle.register.specs.Frame.{bytes}
use Rattle.state.specs.declared.layout.Shape.{Shape}
use Rattle.state.specs.Layout.{Sources}
use Rattle.state.specs.Words.{sources_at}
use Rattle.state.proofs.Tests.{left_true, right_true}
use Rattle.sgi.specs.Sgi.{write_sources}
use Rattle.sgi.proofs.Rings.{written_sources}
use Rattle.distributor.specs.Bytes.{write_bytes, BytesAt}
use Rattle.distributor.proofs.Registers.{bytes_written}
use Rattle.select.specs.declared.Candidate.{Candidate}
use Rattle.acknowledge.specs.Acknowledge.{lowest_source, source_of, given}
use Rattle.delivery.proofs.Given.{given_sources}
use Rattle.places.specs.Places.{write_place, PlaceWritten}
use Rattle.places.proofs.Fits.{byte_run}
use Rattle.lawful.specs.Lawful.{Controls}
use Rattle.moves.specs.Moves.{Giving}
use Rattle.moves.proofs.Slots.{givable}
use Rattle.moves.proofs.Sounds.{lawful_sound}
use Rattle.history.specs.History.{Call, is_start, called}
use Rattle.waiting.specs.Waiting.{bit, rung, is_class, among, clears_source_at, ring_taker, takes_ring}
use Rattle.waiting.proofs.BitLaws.{bit_gone, bit_of_power}
use Rattle.waiting.proofs.Going.{Goes, call_takes}
use Rattle.waiting.proofs.Keeping.{is_class_lem, among_is, handed_out}

module _ (shape : Shape) (t n u : ℕ) (exists : t < shape.count) (sgi : n < 16) (low : u < 8) where
  module _ (s : List ℕ) (h : Controls shape s) where
    -- a byte with a 1 for u clears it
    byte_clears : (byte m : ℕ) → byte < 256 → m < 16 → bit u byte ≡ true → rung shape t m u (write_sources shape t m false byte s) ≡ false
    byte_clears byte m fits below e =
        rw (written_sources shape t m s h.lawful.in_range.state (exists, below) false byte fits some) (bit_gone u (sources_at shape t m s) byte low fits e)
      where
        some : byte ≡ 0 → ⊥
        some p = true≢false (sym e ∙ rw p (ne_eqb (0 / 2 ^ u % 2) 1 (λ q. omega (arith, q, div-eq_of_lt (pow_pos u)))))

    run_clears : (first count value i : ℕ) → BytesAt shape Cpendsgir t first count s → i < count → bit u (field_at 8 i value) ≡ true
        → rung shape t (first + i) u (write_bytes shape Cpendsgir t first count value s) ≡ false
    run_clears first count value i at inside e =
        ap (λ (w : ℕ). bit u (w % 256)) ((bytes_written shape Cpendsgir t first count value s at i inside).agree (Sources t (first + i)) (at.there i inside) (inr refl))
        ∙ byte_clears (field_at 8 i value) (first + i) (mod-lt (value / 2 ^ (8 * i)) (pow_pos 8)) (at.there i inside).1 e

    write_takes : (place : Place) (width : AccessWidth) (value : ℕ) → clears_source_at n u (distributor.At place) width value ≡ true → PlaceWritten shape t place width value s
        → rung shape t n u (write_place shape t place width value s) ≡ false
    write_takes place width value e written =
        let first : ℕ = place.first.0 in
        let front = left_true (is_class (Bytes Cpendsgir) place.class && among n first (bytes width)) (bit u (field_at 8 (n - first) value)) e in
        let set = right_true (is_class (Bytes Cpendsgir) place.class && among n first (bytes width)) (bit u (field_at 8 (n - first) value)) e in
        let is = is_class_lem (Bytes Cpendsgir) place.class (left_true (is_class (Bytes Cpendsgir) place.class) (among n first (bytes width)) front) in
        let run = among_is n first (bytes width) (right_true (is_class (Bytes Cpendsgir) place.class) (among n first (bytes width)) front) in
        let at = byte_run shape t place width s written.state written.located Cpendsgir is (λ q. exists) in
        rw is (subst (λ (m : ℕ). rung shape t m u (write_bytes shape Cpendsgir t first (bytes width) value s) ≡ false) run.0 (run_clears first (bytes width) value (n - first) at run.1 set))

    given_takes : (e : Candidate) → Giving shape t e s → handed_out shape t e s ≡ n + 1024 * u → rung shape t n u (given shape t e s) ≡ false
    unfolding source_of
    given_takes e o answers =
        let below = (givable shape s (lawful_sound h.lawful) t e o).numbered in
        let few = h.lawful.in_range.state.limits.few_numbers in
        let number : e.intid.0 ≡ n = omega (arith, answers, below, few, sgi) in
        let small : e.intid.0 < 16 = omega (arith, number, sgi) in
        let source : source_of shape t e.intid.0 s ≡ u = omega (arith, answers, number) in
        let lowest : lowest_source (sources_at shape t e.intid.0 s) ≡ u = simp (lt-ltb e.intid.0 16 small) at source in
        subst (λ (m : ℕ). rung shape t m u (given shape t e s) ≡ false) number
        (rw (given_sources shape t e s (givable shape s (lawful_sound h.lawful) t e o) small, lowest)
        (bit_gone u (sources_at shape t e.intid.0 s) (2 ^ u) low (pow-lt low) (bit_of_power u u low low ∙ eq-eqb u u refl)))

    ring_going : Goes shape s (ring_taker t n u) (λ r. rung shape t n u r ≡ false)
    ring_going = record {
      some = ne_eqb 1023 (n + 1024 * u) (λ p. omega (arith, p, sgi));
      given_takes = λ v e by o answers.
          let is = eqb-true v t by in
          rw is (given_takes e (rw is at o) (rw is at (eqb-true (handed_out shape v e s) (n + 1024 * u) answers)));
      write_found = λ v place width value by clears located q. rw (eqb-true v t by) exists;
      write_takes = λ v place width value by clears written. let is = eqb-true v t by in rw is (write_takes place width value clears (rw is at written));
      nowhere_refused = λ r width value. refl;
      nowhere_private = λ width value. refl;
      no_pulse = λ m. refl;
      signal_found = λ v m signal by takes. absurd (false≢true takes);
      signal_takes = λ v m signal by takes. absurd (false≢true takes);
    }

  pub ring_goes : (c : Call) (s : List ℕ) → Controls shape s → is_start c ≡ false → takes_ring t n u c (called c s) ≡ true → rung shape t n u (called c s).state ≡ false
  ring_goes c s h = call_takes (ring_going s h) h c
