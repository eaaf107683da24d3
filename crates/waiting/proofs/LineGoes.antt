-- The calls that let a held line go do let it go: after each of them it is not held. Assumes nothing.
use mathlib.Core.Path.{◌≡◌, refl, sym, ap, ◌∙◌}
use mathlib.Core.Bool.{Bool, true, false, and-false, false≢true}
use mathlib.Core.List.{List}
use Prim.Native.Nat.{ℕ, ◌-◌, ◌/◌, ◌≤◌}
use lib.Dec.{eqb}
use borrow.Author.Tests.{le-ltb, eqb-true, not-true}
use Rattle.interrupt.specs.declared.record.InterruptRecord.{InterruptRecord}
use Rattle.interrupt.specs.declared.types.TriggerMode.TheVariants as trigger
use Rattle.interrupt.specs.Record.{held, set_level, set_trigger}
use Rattle.interrupt.specs.Types.{is_level}
use Rattle.word.specs.Fields.{field_at}
use Rattle.register.specs.declared.frame.AccessWidth.{AccessWidth}
use Rattle.register.specs.declared.ranges.BitRegister.TheVariants.{Icfgr}
use Rattle.register.specs.declared.distributor.Place.{Place}
use Rattle.register.specs.declared.distributor.DistributorAccess.TheVariants as distributor
use Rattle.state.specs.declared.layout.Shape.{Shape}
use Rattle.state.specs.Words.{RecordThere, record_at, changed}
use Rattle.state.proofs.Tests.{left_true, right_true}
use Rattle.places.specs.Places.{write_place, Located}
use Rattle.input.specs.declared.Signal.{Signal}
use Rattle.input.specs.declared.Signal.TheVariants.{Level, Edge}
use Rattle.input.specs.Input.{signalled}
use Rattle.lawful.specs.Lawful.{Controls}
use Rattle.moves.specs.Moves as moves
use Rattle.moves.proofs.Controllers.{changed_record}
use Rattle.history.specs.History.{Call, is_start, called}
use Rattle.waiting.specs.Waiting.{meets, turns_edge_at, is_low, line_taker, lets_go}
use Rattle.waiting.proofs.BitWrites.{bit_record, hit_class, hit_run, hit_field, hit_found, hit_word}
use Rattle.waiting.proofs.Going.{Goes, call_takes}
use Rattle.waiting.proofs.RecordMoves.{met_record, met_there}

edge_unheld : (r : InterruptRecord) → held (set_trigger r trigger.Edge) ≡ false
unfolding held set_trigger
edge_unheld r = refl

low_unheld : (r : InterruptRecord) → held (set_level r false) ≡ false
unfolding held set_level
low_unheld r = and-false (is_level r.trigger)

module _ (shape : Shape) (v n : ℕ) (there : RecordThere shape v n) (past : 16 ≤ n) (s : List ℕ) (h : Controls shape s) where
  abbrev Gone : List ℕ → Type 0
  Gone r = held (record_at shape v n r) ≡ false

  -- ICFGR
  write_takes : (u : ℕ) → meets v n u ≡ true → (place : Place) (width : AccessWidth) (value : ℕ) → turns_edge_at n (distributor.At place) value ≡ true → Located place width
      → Gone (write_place shape u place width value s)
  write_takes u by place width value turns located =
      let set : Bool = eqb (field_at 2 (n - place.first.0) value / 2) 1 in
      let own = met_there v n u by there in
      let word = hit_word shape Icfgr n s h.lawful.in_range.state u own place width set turns located in
      rw (hit_class shape Icfgr n s h.lawful.in_range.state u own place width set turns located)
      (ap held (bit_record shape Icfgr v n there u place.first.0 value s word)
      ∙ simp (by, hit_run shape Icfgr n s h.lawful.in_range.state u own place width set turns located, hit_field shape Icfgr n s h.lawful.in_range.state u own place width set turns located, le-ltb n 16 past) (edge_unheld (record_at shape v n s)))

  -- a line that falls
  falls : (u : ℕ) → meets v n u ≡ true → (signal : Signal) → is_low signal ≡ true → Gone (changed shape u n (signalled signal) s)
  falls u by (Level asserted) e =
      ap held (sym (met_record v n shape u by (changed shape u n (signalled (Level asserted)) s)))
      ∙ ap held (changed_record shape s h.lawful u n (moves.SetLevel asserted) (record { there = met_there v n u by there; fits = past }))
      ∙ ap (λ (a : Bool). held (set_level (record_at shape u n s) a)) (not-true asserted e) ∙ low_unheld (record_at shape u n s)
  falls u by Edge e = absurd (false≢true e)

  line_going : Goes shape s (line_taker (λ x. false) v n) Gone
  line_going = record {
    some = refl;
    given_takes = λ u e by o answers. absurd (false≢true answers);
    write_found = λ u place width value by turns located.
        hit_found shape Icfgr n s h.lawful.in_range.state u (met_there v n u by there) place width (eqb (field_at 2 (n - place.first.0) value / 2) 1) turns located value;
    write_takes = λ u place width value by turns at. write_takes u by place width value turns at.located;
    nowhere_refused = λ r width value. refl;
    nowhere_private = λ width value. refl;
    no_pulse = λ m. and-false (eqb m n);
    signal_found = λ u m signal by e. let number = eqb-true m n (left_true (eqb m n) (is_low signal) e) in (rw number (met_there v n u by there), rw number past);
    signal_takes = λ u m signal by e. rw (eqb-true m n (left_true (eqb m n) (is_low signal) e)) (falls u by signal (right_true (eqb m n) (is_low signal) e));
  }

  pub line_goes : (c : Call) → is_start c ≡ false → lets_go v n c (called c s) ≡ true → Gone (called c s).state
  line_goes c = call_takes line_going h c
