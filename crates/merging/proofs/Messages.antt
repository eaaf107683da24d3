-- Two writes to the message frame may change places: the words after them are the same, whatever was lent, and whom they wake together is the same where
-- the summary is exact. The same write again adds nothing. Assumes nothing.
use Rattle.std.specs.Prelude.{Option, Some, None, Result, Ok, Err}
use mathlib.Core.Path.{◌≡◌, refl, sym, ap, subst, ◌∙◌}
use mathlib.Core.Bool.{Bool, true, false, cond, false≢true}
use mathlib.Core.List.{List}
use Prim.Native.Nat.{ℕ, ◌%◌, ◌^◌}
use lib.Bits.{bit_or}
use Rattle.interrupt.specs.declared.record.InterruptRecord.{InterruptRecord}
use Rattle.interrupt.specs.Record.{pulse}
use Rattle.interrupt.specs.With.{with_pending, with_redelivery}
use Rattle.register.specs.declared.frame.AccessWidth.{AccessWidth}
use Rattle.word.specs.Word.{InRange, word_of}
use Rattle.word.proofs.Cases.{same_or}
use Rattle.state.specs.declared.layout.Shape.{Shape}
use Rattle.state.specs.Layout.{Room, Exists}
use Rattle.state.specs.Lent.{validated}
use Rattle.state.specs.Words.{record_slot, record_at, changed, Exact}
use Rattle.state.proofs.Accessors.{record_exists}
use Rattle.state.proofs.Numbers.{Of}
use Rattle.state.proofs.Own.{apart_comm, changed_own}
use Rattle.state.proofs.Ready.{Anywhere, Summed, summed_kept}
use Rattle.state.proofs.Tests.{left_true, right_true}
use Rattle.state.proofs.Validated.{held_validated}
use Rattle.service.proofs.Soundness.{validated_sound}
use Rattle.wake.specs.Wake.{wake_set}
use Rattle.wake.proofs.WakeSets.{none_wakes_nobody}
use Rattle.answer.specs.Answer.{Outcome}
use Rattle.message_frame.specs.MessageFrame.{is_window, window_of, locate_v2m}
use Rattle.message_frame.proofs.Messages.{access_rings, message_rings, pulsed_if, ComesTo, message_comes_to}
use Rattle.message_frame.proofs.Windows.{rung_spi}
use Rattle.history.specs.History.{Call, WriteV2m, is_start, called}
use Rattle.history.proofs.Calls.{call_valid}
use Rattle.history.proofs.Each.{broken_call}
use Rattle.merging.specs.Merging.{Described, EitherOrder, SameWakes, AddsNothing, message_there}
use Rattle.merging.proofs.Bits.{changed_twice}
use Rattle.merging.proofs.Order.{numbers_two}
use Rattle.merging.proofs.Rising.{Way, Rises, Rising, way_none, wakes_add_lem}
use Rattle.merging.proofs.Ways.{made_true, ready_of, changed_way}
use Rattle.message_frame.specs.declared.MessageRegister.{MessageRegister}
use Rattle.register.specs.declared.frame.Refusal.{Refusal}

-- a pulse makes a record readier
pulse_rises : (r : InterruptRecord) → Rises r (pulse r)
unfolding pulse
pulse_rises r = record { ready = λ h. let m = made_true r.enabled r.pending r.active h in ready_of r.enabled true r.active m.0 refl m.1.1; priority = refl; mask = refl }

pulse_in_range : (r : InterruptRecord) → InRange r → InRange (pulse r)
unfolding pulse
pulse_in_range r i = record { priority_byte = i.priority_byte; mask_byte_lem = i.mask_byte_lem; owner_byte_lem = i.owner_byte_lem }

-- the SPI that a message rings has a record
module _ (shape : Shape) (first count offset : ℕ) (width : AccessWidth) (value : ℕ) where
  rung_exists : message_rings shape first count offset width value ≡ true → Exists shape (record_slot 0 (value % 2 ^ 32))
  rung_exists e =
      go (locate_v2m offset width) (right_true (is_window shape first count) _ e)
    where
      go : (a : Result MessageRegister Refusal) → access_rings (window_of first count) a (value % 2 ^ 32) ≡ true → Exists shape (record_slot 0 (value % 2 ^ 32))
      go (Err r) q = absurd (false≢true q)
      go (Ok register) q = record_exists shape 0 (value % 2 ^ 32) ((rung_spi shape first count (left_true (is_window shape first count) _ e) register (value % 2 ^ 32) q).there 0)

-- two steps
module _ (shape : Shape) (n m : ℕ) (s : List ℕ) (h : Room shape s) where
  steps_comm : (a b : Bool) → (a ≡ true → Exists shape (record_slot 0 n)) → (b ≡ true → Exists shape (record_slot 0 m)) → pulsed_if shape b m (pulsed_if shape a n s) ≡ pulsed_if shape a n (pulsed_if shape b m s)
  steps_comm true true en em =
      same_or n m (λ e. rw e)
      (λ d. apart_comm shape (Of 0 n) (Of 0 m) (changed shape 0 n pulse) (changed shape 0 m pulse) (changed_own shape 0 n pulse (en refl)) (changed_own shape 0 m pulse (em refl)) (λ t p q. numbers_two 0 0 n m t d p q) s h)
  steps_comm true false en em = refl
  steps_comm false b en em = refl

-- one step rises, and leaves the summary exact
step_way : (shape : Shape) (n : ℕ) (s : List ℕ) → Summed shape s → (b : Bool) → (b ≡ true → Exists shape (record_slot 0 n)) → Way true (Rising shape) s (pulsed_if shape b n s) × Summed shape (pulsed_if shape b n s)
step_way shape n s h true e = (
  changed_way true shape 0 n pulse s h.0 (e refl) pulse_in_range (pulse_rises (record_at shape 0 n s)),
  summed_kept shape Anywhere (record_slot 0 n) (word_of (pulse (record_at shape 0 n s))) s (e refl) tt h,
)
step_way shape n s h false e = (way_none true shape s, h)

still_valid : (shape : Shape) (s : List ℕ) → validated s ≡ Some shape → (c : Call) → is_start c ≡ false → (r : List ℕ) → (called c s).state ≡ r → validated r ≡ Some shape
still_valid shape s h c other r e = subst (λ (t : List ℕ). validated t ≡ Some shape) e (call_valid shape s h c other)

-- what two steps wake together, the whole way wakes
steps_wake : (shape : Shape) (s : List ℕ) → validated s ≡ Some shape → Exact shape s → (n m : ℕ) (a b : Bool) → (a ≡ true → Exists shape (record_slot 0 n)) → (b ≡ true → Exists shape (record_slot 0 m))
    → validated (pulsed_if shape a n s) ≡ Some shape → validated (pulsed_if shape b m (pulsed_if shape a n s)) ≡ Some shape
    → bit_or (wake_set shape s (pulsed_if shape a n s)) (wake_set shape (pulsed_if shape a n s) (pulsed_if shape b m (pulsed_if shape a n s))) ≡ wake_set shape s (pulsed_if shape b m (pulsed_if shape a n s))
steps_wake shape s h exact n m a b en em hr ht =
    let r : List ℕ = pulsed_if shape a n s in
    let t : List ℕ = pulsed_if shape b m r in
    let sound = validated_sound shape s h in
    let first = step_way shape n s (sound.state, exact) a en in
    let second = step_way shape m r first.1 b em in
    wakes_add_lem shape s r t sound (validated_sound shape r hr) (validated_sound shape t ht) exact first.1.1 second.1.1 true first.0 second.0

module _ (first count offset : ℕ) (w : AccessWidth) (value : ℕ) (first' count' offset' : ℕ) (w' : AccessWidth) (value' : ℕ) (s : List ℕ) where
  abbrev one : List ℕ → Outcome
  one = message_there first count offset w value

  abbrev other : List ℕ → Outcome
  other = message_there first' count' offset' w' value'

  module _ (shape : Shape) (h : validated s ≡ Some shape) where
    abbrev n : ℕ
    n = value % 2 ^ 32

    abbrev m : ℕ
    m = value' % 2 ^ 32

    abbrev a : Bool
    a = message_rings shape first count offset w value

    abbrev b : Bool
    b = message_rings shape first' count' offset' w' value'

    one_first : ComesTo shape s (pulsed_if shape a n s) (one s)
    one_first = message_comes_to shape s h first count offset w value

    other_first : ComesTo shape s (pulsed_if shape b m s) (other s)
    other_first = message_comes_to shape s h first' count' offset' w' value'

    -- the words stay a state
    one_valid : validated (pulsed_if shape a n s) ≡ Some shape
    one_valid = still_valid shape s h (WriteV2m first count offset w value) refl _ one_first.state

    other_valid : validated (pulsed_if shape b m s) ≡ Some shape
    other_valid = still_valid shape s h (WriteV2m first' count' offset' w' value') refl _ other_first.state

    other_second : ComesTo shape (pulsed_if shape a n s) (pulsed_if shape b m (pulsed_if shape a n s)) (other (pulsed_if shape a n s))
    other_second = message_comes_to shape (pulsed_if shape a n s) one_valid first' count' offset' w' value'

    one_second : ComesTo shape (pulsed_if shape b m s) (pulsed_if shape a n (pulsed_if shape b m s)) (one (pulsed_if shape b m s))
    one_second = message_comes_to shape (pulsed_if shape b m s) other_valid first count offset w value

    here : a ≡ true → Exists shape (record_slot 0 n)
    here = rung_exists shape first count offset w value

    there : b ≡ true → Exists shape (record_slot 0 m)
    there = rung_exists shape first' count' offset' w' value'

    same_end : pulsed_if shape b m (pulsed_if shape a n s) ≡ pulsed_if shape a n (pulsed_if shape b m s)
    same_end = steps_comm shape n m s (validated_sound shape s h).state a b here there

    on_state_lem : EitherOrder one other s
    on_state_lem =
        ap (λ (r : List ℕ). (other r).state) one_first.state ∙ other_second.state ∙ same_end ∙ sym one_second.state ∙ sym (ap (λ (r : List ℕ). (one r).state) other_first.state)

    on_exact : Exact shape s → SameWakes one other s
    on_exact exact =
        (λ i. bit_or (one_first.wake i) (other (one_first.state i)).wake)
        ∙ ap (bit_or (wake_set shape s (pulsed_if shape a n s))) other_second.wake
        ∙ steps_wake shape s h exact n m a b here there one_valid (still_valid shape (pulsed_if shape a n s) one_valid (WriteV2m first' count' offset' w' value') refl _ other_second.state)
        ∙ ap (wake_set shape s) same_end
        ∙ sym (steps_wake shape s h exact m n b a there here other_valid (still_valid shape (pulsed_if shape b m s) other_valid (WriteV2m first count offset w value) refl _ one_second.state))
        ∙ sym (ap (bit_or (wake_set shape s (pulsed_if shape b m s))) one_second.wake)
        ∙ sym (λ i. bit_or (other_first.wake i) (one (other_first.state i)).wake)

  -- in any words at all
  pub messages_in_either_order : EitherOrder one other s
  messages_in_either_order = go (validated s) refl
    where
      go : (l : Option Shape) → validated s ≡ l → EitherOrder one other s
      go (Some shape) e = on_state_lem shape e
      go None e =
          let first-refused = ap (λ (o : Outcome). o.state) (broken_call (WriteV2m first count offset w value) refl s e).0 in
          let other-refused = ap (λ (o : Outcome). o.state) (broken_call (WriteV2m first' count' offset' w' value') refl s e).0 in
          ap (λ (r : List ℕ). (other r).state) first-refused ∙ other-refused ∙ sym first-refused ∙ sym (ap (λ (r : List ℕ). (one r).state) other-refused)

  -- from any state that demand 3 describes
  pub message_wake_sets : Described s → SameWakes one other s
  message_wake_sets d = on_exact d.shape (held_validated s d.shape d.holds) d.orderly.summary

-- the same write again changes nothing more and wakes nobody
pulse_again : (r : InterruptRecord) → pulse (pulse r) ≡ pulse r
unfolding pulse
pulse_again r = ap (λ (b : Bool). with_redelivery b (with_pending true r)) (go r.inflight)
  where
    go : (b : Bool) → cond b true (cond b true r.redelivery_pending) ≡ cond b true r.redelivery_pending
    go true = refl
    go false = refl

step_again : (shape : Shape) (n : ℕ) (s : List ℕ) → Room shape s → (b : Bool) → (b ≡ true → Exists shape (record_slot 0 n)) → pulsed_if shape b n (pulsed_if shape b n s) ≡ pulsed_if shape b n s
step_again shape n s h true e = changed_twice shape 0 n pulse pulse pulse s h (e refl) pulse_in_range (pulse_again (record_at shape 0 n s))
step_again shape n s h false e = refl

module _ (first count offset : ℕ) (w : AccessWidth) (value : ℕ) (s : List ℕ) where
  abbrev again : List ℕ → Outcome
  again = message_there first count offset w value

  pub a_message_again : AddsNothing again s
  a_message_again = go (validated s) refl
    where
      c : Call
      c = WriteV2m first count offset w value

      go : (l : Option Shape) → validated s ≡ l → AddsNothing again s
      go (Some shape) e =
          let n = value % 2 ^ 32 in
          let b = message_rings shape first count offset w value in
          let r = pulsed_if shape b n s in
          let once = message_comes_to shape s e first count offset w value in
          let twice = message_comes_to shape r (still_valid shape s e c refl r once.state) first count offset w value in
          let same = step_again shape n s (validated_sound shape s e).state b (rung_exists shape first count offset w value) in
          record {
            state = ap (λ (t : List ℕ). (again t).state) once.state ∙ twice.state ∙ same ∙ sym once.state;
            wake = ap (λ (t : List ℕ). (again t).wake) once.state ∙ twice.wake ∙ ap (wake_set shape r) same ∙ none_wakes_nobody shape r;
          }
      go None e =
          let refused = (broken_call c refl s e).0 in
          let stays = ap (λ (o : Outcome). o.state) refused in
          record { state = ap (λ (t : List ℕ). (again t).state) stays; wake = ap (λ (t : List ℕ). (again t).wake) stays ∙ ap (λ (o : Outcome). o.wake) refused }
