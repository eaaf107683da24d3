-- A held line of a PPI or SPI stays held until its device lowers it, or until the interrupt is made edge, or until all starts anew. While it is held
-- nothing but the giving of the interrupt takes its pending bit. Assumes nothing.
use mathlib.Core.Path.{◌≡◌, refl, ap}
use mathlib.Core.Bool.{Bool, true, false, not, ◌&&◌, and-false, true≢false}
use mathlib.Core.List.{List}
use Prim.Native.Nat.{ℕ, ◌+◌, ◌≤◌}
use lib.Dec.{eqb}
use borrow.Author.Tests.{eq-eqb}
use Rattle.interrupt.specs.declared.record.InterruptRecord.{InterruptRecord}
use Rattle.interrupt.specs.Record.{set_enabled, set_pending, set_active, set_state, cancel_inflight, set_priority, set_trigger, set_cpu_target_mask, set_owner, set_level, pulse, complete, deactivate_inflight, mark_inflight, synchronize_inflight, held}
use Rattle.interrupt.specs.Types.{is_level}
use Rattle.word.specs.Word.{trigger_of}
use Rattle.register.specs.declared.frame.AccessWidth.{AccessWidth}
use Rattle.register.specs.declared.ranges.BitRegister.TheVariants.{Icfgr}
use Rattle.register.specs.declared.ranges.Class.TheVariants.{Bits}
use Rattle.register.specs.declared.distributor.Place.{Place}
use Rattle.register.specs.declared.distributor.DistributorAccess.TheVariants as distributor
use Rattle.state.specs.declared.layout.Shape.{Shape}
use Rattle.state.specs.Words.{RecordThere, record_at}
use Rattle.state.proofs.Tests.{left_true, right_true}
use Rattle.acknowledge.specs.Acknowledge.{given_record}
use Rattle.end.specs.End.{retire}
use Rattle.places.specs.Places.{write_place, PlaceWritten}
use Rattle.answer.specs.Answer.{Outcome}
use Rattle.input.specs.declared.Signal.{Signal}
use Rattle.input.specs.declared.Signal.TheVariants.{Level, Edge}
use Rattle.lawful.specs.Lawful.{Controls}
use Rattle.moves.specs.Moves.{Change, SetEnabled, SetPending, SetActive, CancelInflight, SetTrigger, SetPriority, SetCpuTargetMask, SetLevel, Pulse, DeactivateInflight, Complete, ClearDeliveryState, becomes, Move, Changed, moved, Open}
use Rattle.history.specs.History.{Call, Looks, ReadsRegister, WritesRegister, WritesPlace, Signals, Deed, Starts, Acts, deed, called, run}
use Rattle.history.specs.Made.{BitMade, signal_change}
use Rattle.waiting.specs.Waiting.{pends, meets, is_low, lowers, turns_edge_at, taken_by, pending_taker, line_taker, lets_go, lets_go_or_gives, never}
use Rattle.waiting.proofs.Keeping.{run_at, never_keeps, spared_write, Waits, call_controls, call_keeps, history_controls, history_keeps}
use Rattle.waiting.proofs.Pends.{pending_stays}
use Rattle.waiting.proofs.RecordMoves.{Lasting, met, Spares, move_keeps, write_spares, class_spares}

-- a change that leaves a line held
abbrev SparesLine : Change → InterruptRecord → Type 0
SparesLine (SetEnabled e) r = Unit
SparesLine (SetPending p) r = Unit
SparesLine (SetActive a) r = Unit
SparesLine CancelInflight r = Unit
SparesLine (SetTrigger t) r = is_level t ≡ true
SparesLine (SetPriority q) r = Unit
SparesLine (SetCpuTargetMask m) r = Unit
SparesLine (SetLevel a) r = a ≡ true
SparesLine Pulse r = Unit
SparesLine DeactivateInflight r = Unit
SparesLine Complete r = Unit
SparesLine ClearDeliveryState r = ⊥

line_kept : (c : Change) (r : InterruptRecord) → SparesLine c r → held r ≡ true → held (becomes c r) ≡ true
unfolding held set_enabled set_pending set_active cancel_inflight set_owner set_trigger set_priority set_cpu_target_mask set_level pulse retire deactivate_inflight complete
line_kept (SetEnabled e) r spares now = now
line_kept (SetPending p) r spares now = now
line_kept (SetActive a) r spares now = now
line_kept CancelInflight r spares now = now
line_kept (SetTrigger t) r spares now = rw spares (right_true (is_level r.trigger) r.line_asserted now)
line_kept (SetPriority q) r spares now = now
line_kept (SetCpuTargetMask m) r spares now = now
line_kept (SetLevel a) r spares now = rw (spares, left_true (is_level r.trigger) r.line_asserted now) refl
line_kept Pulse r spares now = now
line_kept DeactivateInflight r spares now = now
line_kept Complete r spares now = now
line_kept ClearDeliveryState r spares now = absurd spares

given_held : (u : ℕ) (r : InterruptRecord) → held r ≡ true → held (given_record u r) ≡ true
unfolding held given_record synchronize_inflight set_state set_owner mark_inflight
given_held u r now = now

abbrev line_lasts : Lasting
line_lasts = record { holds = held; Spared = SparesLine; Givable = Unit; change_keeps = line_kept; giving_keeps = λ may u r now. given_held u r now }

not_false : (b : Bool) → not b ≡ false → b ≡ true
not_false true e = refl
not_false false e = absurd (true≢false e)

-- a test that fails with a wider one
narrower : (a b c d : Bool) → (d ≡ true → c ≡ true) → (a && (b && c)) ≡ false → (a && (b && d)) ≡ false
narrower true true c true f e = absurd (true≢false (rw (f refl) at e))
narrower true true c false f e = refl
narrower true false c d f e = refl
narrower false b c d f e = refl

module _ (shape : Shape) (v n : ℕ) (there : RecordThere shape v n) (no_sgi : 16 ≤ n) where
  abbrev up : List ℕ → Bool
  up s = held (record_at shape v n s)

  keeps : (m : Move) (s : List ℕ) → Controls shape s → Open shape m s → Spares line_lasts shape v n m s → up s ≡ true → up (moved shape m s) ≡ true
  keeps m s h o spares now = move_keeps line_lasts shape v n there no_sgi s h now m o spares

  -- of the writes to the Distributor only ICFGR's high bit of its field
  module _ (u : ℕ) (place : Place) (value : ℕ) (e : (meets v n u && turns_edge_at n (distributor.At place) value) ≡ false) where
    configured : (m : Move) (s : List ℕ) → place.class ≡ Bits Icfgr → BitMade Icfgr u place.first.0 value m → Spares line_lasts shape v n m s
    configured m s class made =
        rw (made.is, made.makes)
        (λ p.
        let at = met v n u (place.first.0 + made.at) p in
        let here = run_at n place.first.0 made.at 16 made.in_word at.number in
        ap (λ (b : Bool). is_level (trigger_of b)) (simp (at.meeting, class, here.0, here.1) at e))

  line_written : (s : List ℕ) → Controls shape s → up s ≡ true → (u : ℕ) (place : Place) (width : AccessWidth) (value : ℕ) → PlaceWritten shape u place width value s
      → (meets v n u && turns_edge_at n (distributor.At place) value) ≡ false → up (write_place shape u place width value s) ≡ true
  line_written s h now u place width value at e =
      spared_write {holds = up} keeps s h now u place width value at
      (λ m made r. class_spares line_lasts shape v n r (record { enabled = λ b. tt; pended = tt; activated = λ b. tt; cancelled = tt; prioritized = λ q. tt; targeted = λ b. tt }) u width place.first.0 value m place.class
      (λ p clears. rw (clears.is, clears.makes) (λ q. tt)) (configured u place value e m r) made)

  line_signals : (s : List ℕ) (u m : ℕ) (signal : Signal) → (meets v n u && (eqb m n && is_low signal)) ≡ false → Spares line_lasts shape v n (Changed u m (signal_change signal)) s
  line_signals s u m (Level asserted) e p = not_false asserted (simp ((met v n u m p).meeting, eq-eqb m n (met v n u m p).number) at e)
  line_signals s u m Edge e p = tt

  line_waits_lem : (these : ℕ → Bool) → Waits shape up (λ s. line_taker these v n) (Spares line_lasts shape v n)
  line_waits_lem these = record {
    kept = keeps;
    read = λ s u e free p. tt;
    ended = write_spares line_lasts shape v n (λ r. tt) (λ r. tt);
    written = line_written;
    signalled = line_signals;
  }

  pub a_line_stays_up : (cs : List Call) (s : List ℕ) → Controls shape s → up s ≡ true → never (λ r. lets_go v n) cs s ≡ true → up (run cs s) ≡ true
  a_line_stays_up = history_keeps (line_waits_lem (λ x. false))

  -- while it is held, what takes the pending bit lets the line go, or gives the interrupt
  takes_less : (s : List ℕ) → up s ≡ true → (d : Deed) (o : Outcome) → taken_by (line_taker (λ x. eqb x n) v n) d o ≡ false → taken_by (pending_taker shape v n s) d o ≡ false
  takes_less s now (Starts count limit) o e = e
  takes_less s now (Acts (Looks by)) o e = refl
  takes_less s now (Acts (ReadsRegister u a)) o e = e
  takes_less s now (Acts (WritesRegister u a value)) o e = refl
  takes_less s now (Acts (WritesPlace u a width value)) o e = simp (now, and-false)
  takes_less s now (Acts (Signals u m signal)) o e = narrower (meets v n u) (eqb m n) (is_low signal) (lowers signal (record_at shape v n s)) (low signal) e
    where
      low : (signal : Signal) → lowers signal (record_at shape v n s) ≡ true → is_low signal ≡ true
      low (Level asserted) q = left_true (not asserted) _ q
      low Edge q = q

  pub record HeldPending (s : List ℕ) : Type 0 where
    pub controls : Controls shape s
    pub line : up s ≡ true
    pub pending : pends shape v n s ≡ true

  pub a_held_line_stays_pending : (cs : List Call) (s : List ℕ) → HeldPending s → never (λ r. lets_go_or_gives v n) cs s ≡ true → HeldPending (run cs s)
  a_held_line_stays_pending =
      never_keeps (λ r. lets_go_or_gives v n) HeldPending
      (λ c s w e. record {
        controls = call_controls (λ r. line_taker (λ x. eqb x n) v n) c s w.controls e;
        line = call_keeps (line_waits_lem (λ x. eqb x n)) c s w.controls w.line e;
        pending = pending_stays shape v n there no_sgi c s w.controls w.pending (takes_less s w.line (deed c) (called c s) e);
      })

-- .. in a controller of the same count and limit
pub line_controls : (shape : Shape) (v n : ℕ) (cs : List Call) (s : List ℕ) → Controls shape s → never (λ r. lets_go v n) cs s ≡ true → Controls shape (run cs s)
line_controls shape v n = history_controls (λ r. line_taker (λ x. false) v n)
