-- A pending PPI or SPI stays pending until it is given, or until its bit is written to ICPENDR while its line is not held, or until the line of a
-- level interrupt that is not active falls, or until all starts anew. Assumes nothing.
use mathlib.Core.Path.{◌≡◌, refl, ◌∙◌}
use mathlib.Core.Bool.{Bool, true, false, not, ◌&&◌, true≢false}
use mathlib.Core.List.{List}
use Prim.Native.Nat.{ℕ, ◌-◌, ◌≤◌}
use native.Mathlib.Omega.{arith}
use lib.Dec.{eqb}
use borrow.Author.Tests.{le-ltb, eq-eqb}
use Rattle.interrupt.specs.Record.{held}
use Rattle.word.specs.Fields.{field_at}
use Rattle.register.specs.declared.frame.AccessWidth.{AccessWidth}
use Rattle.register.specs.declared.ranges.BitRegister.TheVariants.{Icpendr}
use Rattle.register.specs.declared.ranges.Class.TheVariants.{Bits}
use Rattle.register.specs.declared.distributor.Place.{Place}
use Rattle.register.specs.declared.distributor.DistributorAccess.TheVariants as distributor
use Rattle.state.specs.declared.layout.Shape.{Shape}
use Rattle.state.specs.Words.{RecordThere, record_at}
use Rattle.select.specs.declared.Candidate.{Candidate}
use Rattle.acknowledge.specs.Acknowledge.{source_of}
use Rattle.places.specs.Places.{write_place, PlaceWritten}
use Rattle.places.proofs.Fits.{bit_word_lem}
use Rattle.input.specs.declared.Signal.{Signal}
use Rattle.input.specs.declared.Signal.TheVariants.{Level, Edge}
use Rattle.lawful.specs.Lawful.{Controls}
use Rattle.moves.specs.Moves.{Move, Changed, Given, moved, Open}
use Rattle.history.specs.History.{Call, called, run}
use Rattle.history.specs.Made.{signal_change}
use Rattle.waiting.specs.Waiting.{pends, meets, is_class, among, lowers, pending_taker, takes_pending, never}
use Rattle.waiting.proofs.Clearing.{cleared_pends}
use Rattle.waiting.proofs.Keeping.{is_class_lem, handed_out, spared_write, Waits, call_keeps, history_controls, history_keeps}
use Rattle.waiting.proofs.PendingMoves.{pending_lasts}
use Rattle.waiting.proofs.RecordMoves.{met, Spares, move_keeps, write_spares, class_spares}

module _ (shape : Shape) (v n : ℕ) (there : RecordThere shape v n) (no_sgi : 16 ≤ n) where
  keeps : (m : Move) (s : List ℕ) → Controls shape s → Open shape m s → Spares pending_lasts shape v n m s → pends shape v n s ≡ true → pends shape v n (moved shape m s) ≡ true
  keeps m s h o spares now = move_keeps pending_lasts shape v n there no_sgi s h now m o spares

  -- a write to the Distributor: only ICPENDR clears, the numbers whose field is 1 and whose line is not held
  pending_written : (s : List ℕ) → Controls shape s → pends shape v n s ≡ true → (u : ℕ) (place : Place) (width : AccessWidth) (value : ℕ) → PlaceWritten shape u place width value s
      → ((pending_taker shape v n s).by u && (pending_taker shape v n s).write (distributor.At place) width value) ≡ false → pends shape v n (write_place shape u place width value s) ≡ true
  pending_written s h now u place width value at e = go (is_class (Bits Icpendr) place.class) refl
    where
      -- of the four tests one fails
      spared : (a b c d p : Bool) → (a && (b && c && d)) ≡ false → p ≡ true → (p && not ((a && b) && c && d)) ≡ true
      spared true true true d p e q = rw (q, e) refl
      spared true true false d p e q = rw q refl
      spared true false c d p e q = rw q refl
      spared false b c d p e q = rw q refl

      go : (b : Bool) → is_class (Bits Icpendr) place.class ≡ b → pends shape v n (write_place shape u place width value s) ≡ true
      go true is =
          let class = is_class_lem (Bits Icpendr) place.class is in
          let word = bit_word_lem shape u place width s at.state at.located Icpendr class (λ q. at.looked (simp class q)) in
          rw class (cleared_pends shape v n there no_sgi u place.first.0 value s word
          ∙ spared (meets v n u) (among n place.first.0 32) (eqb (field_at 1 (n - place.first.0) value) 1) (not (held (record_at shape v n s))) (pends shape v n s) (rw class at e) now)
      go false other =
          spared_write {holds = pends shape v n} keeps s h now u place width value at
          (λ m made r. class_spares pending_lasts shape v n r (record { enabled = λ b. tt; pended = tt; activated = λ b. tt; cancelled = tt; prioritized = λ q. tt; targeted = λ b. tt }) u width place.first.0 value m place.class
          (λ p clears. absurd (true≢false (rw p at other))) (λ p configures. rw (configures.is, configures.makes) (λ q. tt)) made)

  -- a read that answers another number
  read_spares : (s : List ℕ) (u : ℕ) (e : Candidate) → (meets v n u && eqb (handed_out shape u e s) n) ≡ false → Spares pending_lasts shape v n (Given u e) s
  unfolding source_of
  read_spares s u e free p =
      let at = met v n u e.intid.0 p in
      true≢false (simp (at.meeting, eq-eqb (handed_out shape u e s) n (rw at.number (simp (le-ltb n 16 no_sgi) (omega arith)))) at free)

  -- a line that does not fall, or that of an interrupt which is active or edge
  signal_spares : (s : List ℕ) (u m : ℕ) (signal : Signal) → (meets v n u && (eqb m n && lowers signal (record_at shape v n s))) ≡ false
      → Spares pending_lasts shape v n (Changed u m (signal_change signal)) s
  signal_spares s u m (Level asserted) e p = simp ((met v n u m p).meeting, eq-eqb m n (met v n u m p).number) at e
  signal_spares s u m Edge e p = tt

  pending_waits : Waits shape (pends shape v n) (pending_taker shape v n) (Spares pending_lasts shape v n)
  pending_waits = record {
    kept = keeps;
    read = read_spares;
    ended = write_spares pending_lasts shape v n (λ r. tt) (λ r. tt);
    written = pending_written;
    signalled = signal_spares;
  }

  pub pending_stays : (c : Call) (s : List ℕ) → Controls shape s → pends shape v n s ≡ true → takes_pending shape v n s c (called c s) ≡ false → pends shape v n (called c s).state ≡ true
  pending_stays = call_keeps pending_waits

  pub a_pulse_waits : (cs : List Call) (s : List ℕ) → Controls shape s → pends shape v n s ≡ true → never (takes_pending shape v n) cs s ≡ true → pends shape v n (run cs s) ≡ true
  a_pulse_waits = history_keeps pending_waits

-- .. in a controller of the same count and limit
pub pulse_controls : (shape : Shape) (v n : ℕ) (cs : List Call) (s : List ℕ) → Controls shape s → never (takes_pending shape v n) cs s ≡ true → Controls shape (run cs s)
pulse_controls shape v n = history_controls (pending_taker shape v n)
