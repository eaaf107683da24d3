-- What a call can touch: of another vCPU nothing, save the SGIs that a write to SGIR sends; by a device's input or message one record; by a read nothing,
-- save what an acknowledge gives. In any words that pass the test of refusal 6; what is refused changes nothing (`every_refusal`). Assumes
-- nothing.
use Rattle.std.specs.Prelude.{Some, Result, Ok, Err, None}
use mathlib.Core.Path.{◌≡◌, refl, sym, ap, subst, ◌∙◌}
use mathlib.Core.Bool.{Bool, true, false, not, cond, ◌&&◌, or-true, true≢false, false≢true}
use mathlib.Core.List.{List}
use mathlib.Core.Logic.{◌⊎◌, inl, inr}
use Prim.Native.Nat.{ℕ, ◌+◌, ◌*◌, ◌%◌, ◌^◌, ◌<◌}
use native.Mathlib.Omega.{arith}
use lib.Dec.{eqb, ltb}
use borrow.Author.Tests.{eqb-true, eq-eqb, ne_eqb, lt-ltb}
use Rattle.register.specs.declared.frame.AccessWidth.{AccessWidth}
use Rattle.register.specs.declared.frame.Refusal.TheVariants.{FullStack}
use Rattle.register.specs.declared.ranges.ByteRegister.{ByteRegister}
use Rattle.register.specs.declared.ranges.ByteRegister.TheVariants.{Ipriorityr, Itargetsr, Cpendsgir, Spendsgir}
use Rattle.register.specs.declared.ranges.Class.{Class}
use Rattle.register.specs.declared.ranges.Class.TheVariants.{Ctlr, Typer, Iidr, Sgir, Bits, Bytes, Other}
use Rattle.register.specs.declared.distributor.DistributorAccess.{DistributorAccess}
use Rattle.register.specs.declared.distributor.DistributorAccess.TheVariants as distributor
use Rattle.register.specs.Ranges.{class_number}
use Rattle.word.specs.Fields.{field_at}
use Rattle.state.specs.declared.layout.Shape.{Shape}
use Rattle.state.specs.Layout.{Slot, Sources, Private, Spi, Exists}
use Rattle.state.specs.Lent.{validated}
use Rattle.state.specs.Words.{word_at, record_slot}
use Rattle.state.proofs.Numbers.{Of}
use Rattle.select.specs.declared.Candidate.{Candidate}
use Rattle.service.specs.Service as service
use Rattle.service.proofs.Soundness.{validated_sound}
use Rattle.acknowledge.specs.Acknowledge.{source_of}
use Rattle.cpu_interface_frame.specs.CpuInterfaceFrame.{read_answer}
use Rattle.answer.specs.Answer.{Outcome, refused, gave}
use Rattle.input.specs.declared.Signal.{Signal}
use Rattle.input.specs.declared.Signal.TheVariants.{Level, Edge}
use Rattle.message_frame.specs.declared.Window.{Window}
use Rattle.message_frame.specs.MessageFrame.{window_of, rings_spi, locate_v2m}
use Rattle.moves.specs.Moves.{Change, Move, Changed, Sourced, Kept, Switched, Given, Popped, moved, Giving}
use Rattle.moves.proofs.Acknowledges.{each_acknowledge}
use Rattle.moves.proofs.Slots.{StackOf, each_stack, Touches, givable, move_others}
use Rattle.moves.proofs.Sounds.{chain_others}
use Rattle.history.specs.History.{Call, SetLevel, Pulse, WriteV2m, Looks, ReadsRegister, WritesRegister, WritesPlace, Signals, Deed, Starts, Acts, message_action, deed, called}
use Rattle.history.specs.Made.{byte_move, ClassMade, PlaceMade, ReadMade, WriteMade, signal_change, ActionMade, DeedMade, Made}
use Rattle.history.specs.Touch.{Stays, belongs_to, acts_as, access_by, reads_only, is_read, sgir_sends, sgir_at, rings_by, rings_at, rung_slot, is_record_of, input_call, taken_with, given_slot, acknowledges_at, acknowledges_by, hands_out}
use Rattle.history.proofs.Calls.{call_chain}
use Rattle.history.proofs.Each.{is_act, each_call, any_words}
use Rattle.register.specs.declared.cpu_interface.CpuInterfaceRegister.{CpuInterfaceRegister}
use Rattle.register.specs.declared.frame.Refusal.{Refusal}
use Rattle.message_frame.specs.declared.MessageRegister.{MessageRegister}

-- a move at the vCPU u
abbrev At : ℕ → Move → Type 0
At u (Changed v n c) = v ≡ u
At u (Sourced v n on byte) = v ≡ u
At u (Kept v k x) = v ≡ u
At u (Switched value) = ⊥
At u (Given v e) = v ≡ u
At u (Popped v) = v ≡ u

-- a move that touches a slot of u's own is one at u
module _ (u : ℕ) where
  of_number : (v n : ℕ) (t : Slot) → Of v n t → belongs_to u t ≡ true → v ≡ u
  unfolding record_slot
  of_number v n t (inl p) own = go (ltb n 32) (subst (λ (x : Slot). belongs_to u x ≡ true) p own)
    where
      go : (b : Bool) → belongs_to u (cond b (Private v n) (Spi n)) ≡ true → v ≡ u
      go true q = eqb-true v u q
      go false q = absurd (false≢true q)
  of_number v n t (inr p) own = eqb-true v u (subst (λ (x : Slot). belongs_to u x ≡ true) p own)

  of_stack : (v : ℕ) (t : Slot) → StackOf v t → belongs_to u t ≡ true → v ≡ u
  of_stack v = each_stack v (λ t. belongs_to u t ≡ true → v ≡ u) (eqb-true v u) (λ i. eqb-true v u)

  touches_at : (m : Move) (t : Slot) → Touches m t → belongs_to u t ≡ true → At u m
  touches_at (Changed v n c) t p own = of_number v n t (inl p) own
  touches_at (Sourced v n on byte) t p own = of_number v n t p own
  touches_at (Kept v k x) t p own = eqb-true v u (subst (λ (y : Slot). belongs_to u y ≡ true) p own)
  touches_at (Switched value) t p own = absurd (false≢true (subst (λ (y : Slot). belongs_to u y ≡ true) p own))
  touches_at (Given v e) t (inl p) own = of_number v e.intid.0 t p own
  touches_at (Given v e) t (inr p) own = of_stack v t p own
  touches_at (Popped v) t p own = of_stack v t p own

-- an SGI that a call sends, in its record's slot and its source set's
rung_slot_lem : (c : Call) (u n : ℕ) → n < 16 → rings_at c u n ≡ true → (t : Slot) → Of u n t → rung_slot c t ≡ true
unfolding record_slot
rung_slot_lem c u n sgi e t (inl p) = subst (λ (x : Slot). rung_slot c x ≡ true) (sym p) (simp (lt-ltb n 32 (omega (arith, sgi))) e)
rung_slot_lem c u n sgi e t (inr p) = subst (λ (x : Slot). rung_slot c x ≡ true) (sym p) e

-- the moves of an access by v, at a slot of another's
module _ (shape : Shape) (v u : ℕ) (apart : v ≡ u → ⊥) (t : Slot) (own : belongs_to u t ≡ true) (m : Move) (touches : Touches m t) where
  at : At u m
  at = touches_at u m t touches own

  read_away : ReadMade v m → ⊥
  read_away = go m at
    where
      go : (m : Move) → At u m → ReadMade v m → ⊥
      go (Changed w n c) p made = made
      go (Sourced w n on byte) p made = made
      go (Kept w k x) p made = made
      go (Switched value) p made = made
      go (Given w e) p made = apart (sym made ∙ p)
      go (Popped w) p made = made

  write_away : WriteMade v m → ⊥
  write_away = go m at
    where
      go : (m : Move) → At u m → WriteMade v m → ⊥
      go (Changed w n c) p made = apart (sym made.0 ∙ p)
      go (Sourced w n on byte) p made = made
      go (Kept w k x) p made = apart (sym made ∙ p)
      go (Switched value) p made = made
      go (Given w e) p made = made
      go (Popped w) p made = apart (sym made ∙ p)

  byte_at : (register : ByteRegister) (n byte : ℕ) → At u (byte_move shape register v n byte) → v ≡ u
  byte_at Ipriorityr n byte p = p
  byte_at Itargetsr n byte p = p
  byte_at Cpendsgir n byte p = p
  byte_at Spendsgir n byte p = p

  module _ (width : AccessWidth) (value : ℕ) where
    -- an SGI that is sent is not at this slot
    abbrev Free : Bool → Type 0
    Free sgir = (w n : ℕ) → n < 16 → (sgir && sgir_sends v value w n) ≡ true → Of w n t → ⊥

    class_away : (c : Class) (first : ℕ) → Free (eqb (class_number c) (class_number Sgir)) → ClassMade shape v c first width value m → ⊥
    class_away Ctlr first free made = subst (At u) made at
    class_away Typer first free made = made
    class_away Iidr first free made = made
    class_away Sgir first free made = free made.to (value % 16) (omega arith) (simp (eq-eqb (value % 16) (value % 16) refl) made.named) (subst (λ (x : Move). Touches x t) made.is touches)
    class_away (Bits register) first free made = apart (subst (At u) made.is at)
    class_away (Bytes register) first free made = apart (byte_at register (first + made.at) (field_at 8 made.at value) (subst (At u) made.is at))
    class_away Other first free made = made

    place_away : (a : DistributorAccess) → Free (sgir_at a) → PlaceMade shape v a width value m → ⊥
    place_away (distributor.Refused r) free made = made
    place_away distributor.PrivateWidth free made = made
    place_away (distributor.At place) free made = class_away place.class place.first.0 free made

made_away : (shape : Shape) (v u : ℕ) → (u ≡ v → ⊥) → (t : Slot) → belongs_to u t ≡ true → (c : Call) → access_by v c ≡ true → rung_slot c t ≡ false → (m : Move) → Made shape c m → Touches m t → ⊥
made_away shape v u apart t own c by free m made touches =
    go (deed c) by (λ w n sgi rings of. true≢false (sym (rung_slot_lem c w n sgi rings t of) ∙ free)) made
  where
    other : (w : ℕ) → eqb w v ≡ true → w ≡ u → ⊥
    other w e p = apart (sym p ∙ eqb-true w v e)

    go : (d : Deed) → acts_as v d ≡ true → ((w n : ℕ) → n < 16 → rings_by d w n ≡ true → Of w n t → ⊥) → DeedMade shape d m → ⊥
    go (Starts count limit) e free made = made
    go (Acts (Looks by)) e free made = made
    go (Acts (ReadsRegister w a)) e free made = read_away shape w u (other w e) t own m touches made
    go (Acts (WritesRegister w a value)) e free made = write_away shape w u (other w e) t own m touches made
    go (Acts (WritesPlace w a width value)) e free made = place_away shape w u (other w e) t own m touches width value a free made
    go (Acts (Signals w n signal)) e free made = false≢true e

-- the slot of a record, and what goes with it when it is given
is_record_lem : (v n : ℕ) (t : Slot) → t ≡ record_slot v n → is_record_of v n t ≡ true
unfolding record_slot
is_record_lem v n t p = subst (λ (x : Slot). is_record_of v n x ≡ true) (sym p) (go (ltb n 32))
  where
    go : (b : Bool) → is_record_of v n (cond b (Private v n) (Spi n)) ≡ true
    go true = simp (eq-eqb v v refl, eq-eqb n n refl)
    go false = simp (eq-eqb n n refl)

taken_slot : (v n : ℕ) (t : Slot) → (t ≡ Sources v n) ⊎ StackOf v t → taken_with v n t ≡ true
taken_slot v n t (inl p) = subst (λ (x : Slot). taken_with v n x ≡ true) (sym p) (simp (eq-eqb v v refl, eq-eqb n n refl))
taken_slot v n t (inr p) = each_stack v (λ x. taken_with v n x ≡ true) (eq-eqb v v refl) (λ i. eq-eqb v v refl) t p

given_slot_lem : (v n : ℕ) (t : Slot) → Of v n t ⊎ StackOf v t → given_slot v n t ≡ true
given_slot_lem v n t (inl (inl p)) = simp (is_record_lem v n t p)
given_slot_lem v n t (inl (inr p)) = simp (taken_slot v n t (inl p), or-true)
given_slot_lem v n t (inr p) = simp (taken_slot v n t (inr p), or-true)

module _ (shape : Shape) (s : List ℕ) (h : validated s ≡ Some shape) where
  sound : service.Sound shape s
  sound = validated_sound shape s h

  -- An access by the vCPU v, to either frame, read or write, changes no private record, source set, interface value or stack of another vCPU u,
  -- save the record and the source set of an SGI that it sends to u by SGIR.
  pub anothers_own_stays : (c : Call) (v u : ℕ) → access_by v c ≡ true → (u ≡ v → ⊥) → (t : Slot) → Exists shape t → belongs_to u t ≡ true → rung_slot c t ≡ false → Stays shape t c s
  anothers_own_stays c v u by apart t x own free =
      chain_others t x (λ m q made o. made_away shape v u apart t own c by free m made) (call_chain shape s h c (is_act (acts_as v) (λ count limit. refl) c by)) sound

  -- A device's input changes at most one record, that of its number as its vCPU meets it, and nothing else.
  pub an_input_changes_its_record_alone : (signal : Signal) (v n : ℕ) (t : Slot) → Exists shape t → is_record_of v n t ≡ false → Stays shape t (input_call signal v n) s
  an_input_changes_its_record_alone signal v n t x free = go signal
    where
      changes : (c : Change) (m : Move) → m ≡ Changed v n c → Touches m t → ⊥
      changes c m made p = true≢false (sym (is_record_lem v n t (subst (λ (y : Move). Touches y t) made p)) ∙ free)

      go : (signal : Signal) → Stays shape t (input_call signal v n) s
      go (Level asserted) = chain_others t x (λ m q made o. changes (signal_change (Level asserted)) m made) (call_chain shape s h (SetLevel v n asserted) refl) sound
      go Edge = chain_others t x (λ m q made o. changes (signal_change Edge) m made) (call_chain shape s h (Pulse v n) refl) sound

  -- A message changes at most the record of the SPI that it names, and nothing else.
  pub a_message_changes_its_record_alone : (first count offset : ℕ) (width : AccessWidth) (value : ℕ) (t : Slot) → Exists shape t → is_record_of 0 (value % 2 ^ 32) t ≡ false
      → Stays shape t (WriteV2m first count offset width value) s
  a_message_changes_its_record_alone first count offset width value t x free =
      chain_others t x (λ m q made o. spares m (locate_v2m offset width) made) (call_chain shape s h (WriteV2m first count offset width value) refl) sound
    where
      n : ℕ
      n = value % 2 ^ 32

      window : Window
      window = window_of first count

      spares : (m : Move) (a : Result MessageRegister Refusal) → ActionMade shape (message_action window a n) m → Touches m t → ⊥
      spares m (Err r) made p = made
      spares m (Ok register) made p = go (rings_spi window register n) made
        where
          go : (b : Bool) → ActionMade shape (cond b (Signals 0 n Edge) (Looks None)) m → ⊥
          go true is = true≢false (sym (is_record_lem 0 n t (subst (λ (y : Move). Touches y t) is p)) ∙ free)
          go false is = is

-- a read gives an interrupt, or it changes nothing
module _ (shape : Shape) (s : List ℕ) (h : validated s ≡ Some shape) (P : Deed → Outcome → Type 0)
    (same : (d : Deed) (o : Outcome) → o.state ≡ s → P d o)
    (gives : (v : ℕ) (a : Result CpuInterfaceRegister Refusal) → acknowledges_at a ≡ true → (e : Candidate) → Giving shape v e s
    → P (Acts (ReadsRegister v a)) (gave (e.intid.0 + 1024 * source_of shape v e.intid.0 s) (moved shape (Given v e) s))) where
  each_read_call : (c : Call) → is_read c ≡ true → P (deed c) (called c s)
  each_read_call c reads =
      each_call shape s h (λ c d o. reads_only d ≡ true → P d o)
      (λ c d r may bar e. same d (refused r s) refl)
      (λ c by x e. same (Acts (Looks by)) (gave x s) refl)
      (λ c v register x no e. same (Acts (ReadsRegister v (Ok register))) (gave x s) refl)
      (λ c v register is looked full e.
      let d : Deed = Acts (ReadsRegister v (Ok register)) in
      each_acknowledge shape s (validated_sound shape s h) v looked (λ a r. P d (read_answer a s r))
      (same d (gave 1023 s) refl)
      (λ b exists p no_room. same d (refused FullStack s) refl)
      (gives v (Ok register) is))
      (λ c v register value looked e. absurd (false≢true e))
      (λ c v place width value at e. absurd (false≢true e))
      (λ c v n signal there past e. absurd (false≢true e))
      c (is_act reads_only (λ count limit. refl) c reads) reads

-- what is given has a number below the limit
module _ (shape : Shape) (s : List ℕ) (h : service.Sound shape s) (v : ℕ) (e : Candidate) (o : Giving shape v e s) where
  abbrev answer : ℕ
  answer = e.intid.0 + 1024 * source_of shape v e.intid.0 s

  answer_number : answer % 1024 ≡ e.intid.0
  answer_number = omega (arith, (givable shape s h v e o).numbered, h.state.limits.few_numbers)

  answer_some : not (eqb answer 1023) ≡ true
  answer_some = simp (ne_eqb answer 1023 (λ p. omega (arith, p, (givable shape s h v e o).numbered, h.state.limits.few_numbers)))

-- A read by v, of whichever register, changes nothing but the record that it gives, of an SGI its source set at v, and v's stack and depth.
module _ (shape : Shape) (s : List ℕ) (h : validated s ≡ Some shape) where
  pub a_read_changes_only_what_it_gives : (c : Call) (v : ℕ) → is_read c ≡ true → access_by v c ≡ true → (t : Slot) → Exists shape t → given_slot v ((called c s).value % 1024) t ≡ false → Stays shape t c s
  a_read_changes_only_what_it_gives c v reads by t x free =
      each_read_call shape s h Spares (λ d o p by free. ap (word_at shape t) p) gives c reads by free
    where
      Spares : Deed → Outcome → Type 0
      Spares d o = acts_as v d ≡ true → given_slot v (o.value % 1024) t ≡ false → word_at shape t o.state ≡ word_at shape t s

      gives : (w : ℕ) (a : Result CpuInterfaceRegister Refusal) → acknowledges_at a ≡ true → (e : Candidate) → Giving shape w e s
          → Spares (Acts (ReadsRegister w a)) (gave (e.intid.0 + 1024 * source_of shape w e.intid.0 s) (moved shape (Given w e) s))
      gives w a is e o by free =
          let lent = validated_sound shape s h in
          move_others shape s lent (Given w e) o t x
          (λ p. true≢false (sym (subst (λ (k : ℕ). given_slot k e.intid.0 t ≡ true) (eqb-true w v by) (given_slot_lem w e.intid.0 t p)) ∙ (rw (answer_number shape s lent w e o) at free)))

-- No read changes anything, to any words at all, but one of IAR or AIAR that gave a number.
pub a_read_changes_nothing : (c : Call) (s : List ℕ) → is_read c ≡ true → hands_out c (called c s) ≡ false → (called c s).state ≡ s
a_read_changes_nothing c s reads =
    any_words s (λ b o. is_read b ≡ true → hands_out b o ≡ false → o.state ≡ s) (λ b by_6 e free. refl)
    (λ shape h b other e.
    each_read_call shape s h (λ d o. (acknowledges_by d && (eqb o.refusal 0 && not (eqb o.value 1023))) ≡ false → o.state ≡ s) (λ d o p free. p)
    (λ v a is d o free. absurd (true≢false (sym (answer_some shape s (validated_sound shape s h) v d o) ∙ (rw is at free)))) b e)
    c (is_act reads_only (λ count limit. refl) c reads) reads
