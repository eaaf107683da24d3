-- The level of a vCPU's line is whether its IAR would give a number, and wake sets are the rises of the lines: of every call but those that
-- start a controller anew, reads among them, in any words at all; and exactly these from every controller. Assumes nothing.
use Rattle.std.specs.Prelude.{Option, Some, None}
use mathlib.Core.Path.{◌≡◌, refl, sym, ap, ◌∙◌}
use mathlib.Core.Bool.{Bool, true, false, not, cond, ◌&&◌, and-false, and_assoc}
use mathlib.Core.List.{List}
use Prim.Native.Nat.{ℕ, ◌+◌, ◌*◌, ◌/◌, ◌%◌, ◌^◌, ◌≤◌, ◌<◌}
use native.Mathlib.Nat.{one-mul, zero-div, div-eq_of_lt}
use lib.Dec.{eqb, leb}
use borrow.Author.Tests.{leb-true, leb-false, le-leb, eqb-true, ne_eqb}
use Rattle.word.specs.Word.{bit_of}
use Rattle.word.proofs.Gathered.{gathered_field, gathered_fits}
use Rattle.word.proofs.RecordWord.{bit_fits, bit_back}
use Rattle.register.specs.declared.frame.AccessWidth.TheVariants.{Dword}
use Rattle.register.specs.declared.frame.Refusal.TheVariants.{Vcpu, FullStack}
use Rattle.register.proofs.Named.{iar_at, aiar_at}
use Rattle.state.specs.declared.layout.Shape.{Shape}
use Rattle.state.specs.Fresh.{fresh}
use Rattle.state.specs.Layout.{DistributorControl, Room}
use Rattle.state.specs.Lent.{shaped, validated}
use Rattle.state.specs.Words.{changed, kept_distributor_control, enable_bit, enabled_at}
use Rattle.state.proofs.Starting.{fresh_length, fresh_word}
use Rattle.select.specs.declared.Candidate.{Candidate}
use Rattle.service.proofs.Soundness.{validated_sound}
use Rattle.acknowledge.specs.Acknowledge.{offer, source_of, given, answered, acknowledge, acknowledged}
use Rattle.moves.specs.Moves.{Giving}
use Rattle.moves.proofs.Acknowledges.{each_acknowledge}
use Rattle.wake.specs.Wake.{is_spurious, gives_number, woken, wake_set}
use Rattle.answer.specs.Answer.{Outcome, refused, gave, went, absent, looked_up}
use Rattle.answer.proofs.Present.{found}
use Rattle.cpu_interface.specs.CpuInterface.{write_retired, write_register}
use Rattle.places.specs.Places.{write_place}
use Rattle.input.specs.Input.{signalled}
use Rattle.cpu_interface_frame.specs.CpuInterfaceFrame.{read_answer, read_v2_cpu_interface}
use Rattle.look.specs.Look.{line_level, irq_level}
use Rattle.lawful.specs.Lawful.{Controls, Controller}
use Rattle.history.specs.History.{Call, Setup, ReadCpuInterface, IrqLevel, is_start, called, Accepted, iar_read}
use Rattle.history.specs.Touch.{hands_out}
use Rattle.history.proofs.Always.{setup_cases, call_ordinary}
use Rattle.history.proofs.Calls.{call_valid}
use Rattle.history.proofs.Each.{some_refusal, valid, broken_call, any_words, each_call}
use Rattle.levels.specs.Levels.{told_level, rises, wake_bit, lacks_room}
use Rattle.levels.proofs.Falls.{falls, own_falls}

-- a read of AIAR is a read of IAR
pub aiar_is_iar : (v : ℕ) (s : List ℕ) → called (ReadCpuInterface v 0x20 Dword) s ≡ called (iar_read v) s
unfolding read_v2_cpu_interface
aiar_is_iar v s = simp (iar_at, aiar_at)

-- while the Distributor is off nobody is offered anything
off_gives_nothing : (shape : Shape) (v : ℕ) (s : List ℕ) → enabled_at shape s ≡ false → acknowledge shape v s ≡ Some 1023
unfolding answered offer
off_gives_nothing shape v s off = simp off

-- the two calls, in words that pass the test of refusal 6
module _ (shape : Shape) (s : List ℕ) (h : validated s ≡ Some shape) (v : ℕ) where
  level_call : called (IrqLevel v) s ≡ looked_up true shape v s (gave (bit_of (line_level shape v s)) s)
  unfolding irq_level
  level_call = simp h

  -- by whether it finds the vCPU
  level_by : (b : Bool) → absent true shape v ≡ b → told_level v s ≡ cond b 0 (bit_of (line_level shape v s))
  level_by b e = ap (λ (o : Outcome). o.value) level_call ∙ ap (λ (q : Bool). (cond q (refused Vcpu s) (gave (bit_of (line_level shape v s)) s)).value) e ∙ go b
    where
      go : (b : Bool) → (cond b (refused Vcpu s) (gave (bit_of (line_level shape v s)) s)).value ≡ cond b 0 (bit_of (line_level shape v s))
      go true = refl
      go false = refl

  pub level_there : v < shape.count → told_level v s ≡ bit_of (line_level shape v s)
  level_there exists = level_by false (found true shape v (λ e. exists))

  level_past : shape.count ≤ v → told_level v s ≡ 0
  level_past past = level_by true (le-leb shape.count v past)

  iar_call : called (iar_read v) s ≡ looked_up (enabled_at shape s) shape v s (read_answer (acknowledge shape v s) s (acknowledged shape v s))
  unfolding read_v2_cpu_interface
  iar_call = simp (h, iar_at)

  iar_there : v < shape.count → called (iar_read v) s ≡ read_answer (acknowledge shape v s) s (acknowledged shape v s)
  iar_there exists = iar_call ∙ simp (found (enabled_at shape s) shape v (λ e. exists))

-- what an outcome of IAR gives
gives : Outcome → Bool
gives o = eqb o.refusal 0 && not (eqb o.value 1023)

answer_gives : (a : Option ℕ) (s r : List ℕ) → gives_number a ≡ gives (read_answer a s r)
unfolding gives
answer_gives (Some x) s r = refl
answer_gives None s r = refl

-- "a read of a level-1 vCPU's IAR gives a number (and of a level-0 one's does not)": of any vCPU's number, in any words
pub level_is_iar : (v : ℕ) (s : List ℕ) → told_level v s ≡ bit_of (hands_out (iar_read v) (called (iar_read v) s))
unfolding gives
level_is_iar v s = rw iar_at (go (validated s) refl)
  where
    past : (shape : Shape) → shape.count ≤ v → (b : Bool) → enabled_at shape s ≡ b
        → gives (looked_up b shape v s (read_answer (acknowledge shape v s) s (acknowledged shape v s))) ≡ false
    past shape beyond true e = simp (le-leb shape.count v beyond)
    past shape beyond false e = simp (off_gives_nothing shape v s e)

    at : (shape : Shape) → validated s ≡ Some shape → (b : Bool) → leb shape.count v ≡ b → told_level v s ≡ bit_of (gives (called (iar_read v) s))
    at shape h true e =
        let beyond = leb-true shape.count v e in
        level_past shape s h v beyond ∙ ap bit_of (sym (ap gives (iar_call shape s h v) ∙ past shape beyond (enabled_at shape s) refl))
    at shape h false e =
        let exists = leb-false shape.count v e in
        level_there shape s h v exists ∙ ap bit_of (answer_gives (acknowledge shape v s) s (acknowledged shape v s) ∙ sym (ap gives (iar_there shape s h v exists)))

    go : (l : Option Shape) → validated s ≡ l → told_level v s ≡ bit_of (gives (called (iar_read v) s))
    go None h =
        ap (λ (o : Outcome). o.value) (broken_call (IrqLevel v) refl s h).0 ∙ ap (λ (o : Outcome). bit_of (gives o)) (sym (broken_call (iar_read v) refl s h).0)
    go (Some shape) h = at shape h (leb shape.count v) refl

-- nothing changes, and no line rises
still : (x : ℕ) → (eqb x 0 && eqb x 1) ≡ false
still x = go (eqb x 0) refl
  where
    go : (b : Bool) → eqb x 0 ≡ b → (b && eqb x 1) ≡ false
    go true e = rw (eqb-true x 0 e) refl
    go false e = refl

-- quiet before: its IAR gave 1023, so that its level was 0, and it did not lack room
quiet_is : (a : Option ℕ) (s r : List ℕ) → is_spurious a ≡ (not (eqb (read_answer a s r).refusal 7) && eqb (bit_of (gives_number a)) 0)
quiet_is (Some x) s r = go (eqb x 1023)
  where
    go : (b : Bool) → b ≡ eqb (bit_of (not b)) 0
    go true = refl
    go false = refl
quiet_is None s r = refl

module _ (shape : Shape) (s : List ℕ) (h : validated s ≡ Some shape) (v : ℕ) where
  -- bit v of a wake set
  bit_there : (r : List ℕ) → v < shape.count → wake_set shape s r / 2 ^ v % 2 ≡ bit_of (woken shape s r v)
  unfolding wake_set
  bit_there r exists = rw one-mul at (gathered_field 1 (λ u. bit_of (woken shape s r u)) (λ u. bit_fits (woken shape s r u)) shape.count v exists)

  bit_past : (r : List ℕ) → shape.count ≤ v → wake_set shape s r / 2 ^ v % 2 ≡ 0
  unfolding wake_set
  bit_past r past =
      ap (λ (x : ℕ). x % 2) (div-eq_of_lt (gathered_fits 1 (λ u. bit_of (woken shape s r u)) (λ u. bit_fits (woken shape s r u)) shape.count v (rw one-mul past)))

  -- a call of this outcome, which leaves words that pass the test too
  abbrev Right : Outcome → Type 0
  Right o = validated o.state ≡ Some shape → wake_bit v o ≡ bit_of (not (lacks_room v s) && rises v s o.state)

  -- it wakes nobody and raises no line
  silent : (o : Outcome) → o.wake ≡ 0 → rises v s o.state ≡ false → Right o
  silent o w r k = ap (λ (x : ℕ). x / 2 ^ v % 2) w ∙ simp (r, and-false, zero-div)

  unmoved : (o : Outcome) → o.wake ≡ 0 → o.state ≡ s → Right o
  unmoved o w e = silent o w (ap (rises v s) e ∙ still (told_level v s))

  -- a write or an input
  moved_right : (retired : ℕ) (r : List ℕ) → Right (went shape retired s r)
  moved_right retired r k = go (leb shape.count v) refl
    where
      go : (b : Bool) → leb shape.count v ≡ b → wake_set shape s r / 2 ^ v % 2 ≡ bit_of (not (lacks_room v s) && rises v s r)
      go true e =
          let past = leb-true shape.count v e in
          bit_past r past ∙ simp (level_past shape r k v past, and-false)
      go false e =
          let exists = leb-false shape.count v e in
          let answer = read_answer (acknowledge shape v s) s (acknowledged shape v s) in
          let asked : answer ≡ called (iar_read v) s = sym (iar_there shape s h v exists) in
          let before : bit_of (line_level shape v s) ≡ told_level v s = sym (level_there shape s h v exists) in
          let after : line_level shape v r ≡ eqb (told_level v r) 1 = sym (ap (λ (x : ℕ). eqb x 1) (level_there shape r k v exists) ∙ bit_back (line_level shape v r)) in
          bit_there r exists
          ∙ ap bit_of
          (ap (λ (b : Bool). b && line_level shape v r) (quiet_is (acknowledge shape v s) s (acknowledged shape v s))
          ∙ and_assoc (not (eqb answer.refusal 7)) (eqb (bit_of (line_level shape v s)) 0) (line_level shape v r)
          ∙ (λ i. not (eqb (asked i).refusal 7) && (eqb (before i) 0 && after i)))

  -- an acknowledge that gives something
  given_right : (u x : ℕ) (e : Candidate) → Giving shape u e s → Right (gave x (given shape u e s))
  given_right u x e g k = silent (gave x (given shape u e s)) refl (go (leb shape.count v) refl) k
    where
      r : List ℕ
      r = given shape u e s

      lower : v < shape.count → (b : Bool) → line_level shape v r ≡ b → (eqb (bit_of (line_level shape v s)) 0 && eqb (bit_of b) 1) ≡ false
      lower exists true p = rw (falls shape u e s (validated_sound shape s h) g v exists p) refl
      lower exists false p = and-false (eqb (bit_of (line_level shape v s)) 0)

      go : (b : Bool) → leb shape.count v ≡ b → rises v s r ≡ false
      go true q = rw (level_past shape s h v (leb-true shape.count v q), level_past shape r k v (leb-true shape.count v q)) refl
      go false q =
          let exists = leb-false shape.count v q in
          rw (level_there shape s h v exists, level_there shape r k v exists) (lower exists (line_level shape v r) refl)

  acting_right : (c : Call) → is_start c ≡ false → Right (called c s)
  acting_right =
      each_call shape s h (λ c d o. Right o)
      (λ c d r may bar. unmoved (refused r s) refl refl)
      (λ c by x. unmoved (gave x s) refl refl)
      (λ c u register x no. unmoved (gave x s) refl refl)
      (λ c u register is looked full.
      each_acknowledge shape s (validated_sound shape s h) u looked (λ a r. Right (read_answer a s r)) (unmoved (gave 1023 s) refl refl)
      (λ e exists p lacks. unmoved (refused FullStack s) refl refl)
      (λ e g. given_right u (e.intid.0 + 1024 * source_of shape u e.intid.0 s) e g))
      (λ c u register value looked. moved_right (write_retired shape u register value s) (write_register shape u register value s))
      (λ c u place width value at. moved_right 1023 (write_place shape u place width value s))
      (λ c u n signal there past. moved_right 1023 (changed shape u n (signalled signal) s))

-- in any words: a call wakes exactly the vCPUs whose level was 0 before and is 1 after, save those whose IAR 7 would have refused before
pub wakes_in_any_words : (c : Call) → is_start c ≡ false → (s : List ℕ) (v : ℕ) → wake_bit v (called c s) ≡ bit_of (not (lacks_room v s) && rises v s (called c s).state)
wakes_in_any_words c e s v =
    any_words s (λ d o. wake_bit v o ≡ bit_of (not (lacks_room v s) && rises v s o.state))
    (λ d by_6. simp (still (told_level v s), and-false, zero-div))
    (λ shape h d f. acting_right shape s h v d f (call_valid shape s h d f))
    c e

-- "the wake set of an accepted write or input is exactly the vCPUs whose level was 0 before and is 1 after": from every controller, so after any
-- history, and of reads and refused calls too. A setup or load wakes nobody (`a_start_wakes_nobody`), and after a load a line may be up
pub wakes_are_rises : (c : Call) → is_start c ≡ false → (s : List ℕ) → Controller s → (v : ℕ) → wake_bit v (called c s) ≡ bit_of (rises v s (called c s).state)
wakes_are_rises c e s h v =
    wakes_in_any_words c e s v ∙ ap (λ (b : Bool). bit_of (not b && rises v s (called c s).state)) (ne_eqb (called (iar_read v) s).refusal 7 (call_ordinary s h (iar_read v)).not_7)

-- whatever a read of IAR answers, the reader's line is low after it: in any words
pub an_acknowledge_lowers_its_line : (v : ℕ) (s : List ℕ) → told_level v (called (iar_read v) s).state ≡ 0
an_acknowledge_lowers_its_line v s = go (validated s) refl
  where
    there : (shape : Shape) → validated s ≡ Some shape → v < shape.count → told_level v (called (iar_read v) s).state ≡ 0
    there shape h exists =
        level_there shape (called (iar_read v) s).state (call_valid shape s h (iar_read v) refl) v exists
        ∙ ap bit_of (ap (λ (o : Outcome). line_level shape v o.state) (iar_there shape s h v exists) ∙ low)
      where
        low : line_level shape v (read_answer (acknowledge shape v s) s (acknowledged shape v s)).state ≡ false
        low =
            each_acknowledge shape s (validated_sound shape s h) v (λ on. exists) (λ b r. acknowledge shape v s ≡ b → line_level shape v (read_answer b s r).state ≡ false)
            (λ q. ap gives_number q)
            (λ e here offers lacks q. ap gives_number q)
            (λ e g q. own_falls shape v e s (validated_sound shape s h) g)
            refl

    go : (l : Option Shape) → validated s ≡ l → told_level v (called (iar_read v) s).state ≡ 0
    go None h = ap (λ (o : Outcome). told_level v o.state) (broken_call (iar_read v) refl s h).0 ∙ ap (λ (o : Outcome). o.value) (broken_call (IrqLevel v) refl s h).0
    go (Some shape) h = by (leb shape.count v) refl
      where
        by : (b : Bool) → leb shape.count v ≡ b → told_level v (called (iar_read v) s).state ≡ 0
        by true e = level_past shape (called (iar_read v) s).state (call_valid shape s h (iar_read v) refl) v (leb-true shape.count v e)
        by false e = there shape h (leb-false shape.count v e)

-- a controller that is set up afresh has every line low
pub a_fresh_line_is_low : (count limit : ℕ) (s : List ℕ) → Accepted count limit s → (v : ℕ) → told_level v (called (Setup count limit) s).state ≡ 0
a_fresh_line_is_low count limit s accepted v =
    setup_cases count limit s (λ o. o.refusal ≡ 0 → told_level v o.state ≡ 0) (λ r may e. absurd (some_refusal r e))
    (λ controls e. go controls (leb shape.count v) refl)
    accepted
  where
    shape : Shape
    shape = shaped count limit

    off : Room shape (fresh shape s) → enabled_at shape (fresh shape s) ≡ false
    off h = ap (λ (w : ℕ). enable_bit (kept_distributor_control w)) (fresh_word shape s DistributorControl (record { limits = h.limits; room = rw (fresh_length shape s) at h.room }) tt)

    go : Controls shape (fresh shape s) → (b : Bool) → leb shape.count v ≡ b → told_level v (fresh shape s) ≡ 0
    go h true e = level_past shape (fresh shape s) (valid shape (fresh shape s) h) v (leb-true shape.count v e)
    go h false e =
        level_there shape (fresh shape s) (valid shape (fresh shape s) h) v (leb-false shape.count v e)
        ∙ ap (λ (a : Option ℕ). bit_of (gives_number a)) (off_gives_nothing shape v (fresh shape s) (off h.lawful.in_range.state))
