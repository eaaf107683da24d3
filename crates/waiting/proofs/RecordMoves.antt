-- What holds of the record of a PPI or SPI, whatever it is, and which moves keep it: a change of another record, a change of its own that spares it, the
-- giving of another interrupt, or of this one where that spares it. Assumes nothing.
use mathlib.Core.Path.{◌≡◌, refl, sym, ap, subst, ◌∙◌}
use mathlib.Core.Bool.{Bool, true, false, not, ◌||◌}
use mathlib.Core.List.{List}
use mathlib.Core.Logic.{◌⊎◌, inl, inr}
use Prim.Native.Nat.{ℕ, ◌≤◌, ◌<◌}
use native.Mathlib.Omega.{arith}
use lib.Dec.{eqb, ltb}
use borrow.Author.Tests.{eq-eqb, eqb-true, ltb-true, lt-ltb}
use Rattle.interrupt.specs.declared.record.InterruptRecord.{InterruptRecord}
use Rattle.word.specs.Word.{record_of}
use Rattle.word.proofs.Cases.{same_or}
use Rattle.register.specs.declared.frame.AccessWidth.{AccessWidth}
use Rattle.register.specs.declared.ranges.BitRegister.{BitRegister}
use Rattle.register.specs.declared.ranges.BitRegister.TheVariants.{Igroupr, Isenabler, Icenabler, Ispendr, Icpendr, Isactiver, Icactiver, Icfgr}
use Rattle.register.specs.declared.ranges.ByteRegister.TheVariants.{Ipriorityr, Itargetsr, Cpendsgir, Spendsgir}
use Rattle.register.specs.declared.ranges.Class.{Class}
use Rattle.register.specs.declared.ranges.Class.TheVariants.{Ctlr, Typer, Iidr, Sgir, Bits, Bytes, Other}
use Rattle.state.specs.declared.layout.Shape.{Shape}
use Rattle.state.specs.Layout.{Slot, DistributorControl, Interface, Sources}
use Rattle.state.specs.Words.{word_at, record_slot, RecordThere, record_at}
use Rattle.state.proofs.Accessors.{record_exists, same_or_other, records_apart}
use Rattle.state.proofs.Numbers.{Of, one_vcpu}
use Rattle.state.proofs.SlotKinds.{record_apart}
use Rattle.select.specs.declared.Candidate.{Candidate}
use Rattle.acknowledge.specs.Acknowledge.{given_record}
use Rattle.delivery.proofs.Given.{given_record_lem}
use Rattle.lawful.specs.Lawful.{Controls}
use Rattle.moves.specs.Moves.{Change, SetEnabled, SetPending, SetActive, CancelInflight, SetTrigger, SetPriority, SetCpuTargetMask, SetLevel, Pulse, DeactivateInflight, Complete, ClearDeliveryState, becomes, Move, Changed, Sourced, Kept, Switched, Given, Popped, moved, Changing, Giving, Open}
use Rattle.moves.proofs.Controllers.{changed_record}
use Rattle.moves.proofs.Frames.{record_off_stack}
use Rattle.moves.proofs.Slots.{Touches, givable, move_others}
use Rattle.moves.proofs.Sounds.{lawful_sound}
use Rattle.history.specs.Made.{BitMade, ClassMade, Ends, WriteMade}
use Rattle.waiting.specs.Waiting.{meets}

module _ (v n : ℕ) where
  -- a slot that is met by another vCPU is an SPI's
  pub record Met (u m : ℕ) : Type 0 where
    pub number : m ≡ n
    pub meeting : meets v n u ≡ true

  pub met : (u m : ℕ) → record_slot v n ≡ record_slot u m → Met u m
  met u m p = record { number = number; meeting = go (ltb n 32) refl }
    where
      number : m ≡ n
      number = same_or m n (λ q. q) (λ d. absurd (records_apart v u n m (λ q. d (sym q)) p))

      go : (b : Bool) → ltb n 32 ≡ b → (not b || eqb u v) ≡ true
      go false e = refl
      go true e = eq-eqb u v (one_vcpu u v n (record_slot v n) (ltb-true n 32 e) (inl (subst (λ (k : ℕ). record_slot v n ≡ record_slot u k) number p)) (inl refl))

  -- and who meets it has this slot
  pub met_slot : (u : ℕ) → meets v n u ≡ true → record_slot v n ≡ record_slot u n
  unfolding record_slot
  met_slot u e = go (ltb n 32) refl e
    where
      go : (b : Bool) → ltb n 32 ≡ b → (not b || eqb u v) ≡ true → record_slot v n ≡ record_slot u n
      go false high q = simp high refl
      go true low q = rw (eqb-true u v q) refl

  pub met_record : (shape : Shape) (u : ℕ) → meets v n u ≡ true → (s : List ℕ) → record_at shape u n s ≡ record_at shape v n s
  met_record shape u e s = ap (λ (t : Slot). record_of (word_at shape t s)) (sym (met_slot u e))

  pub met_there : {shape : Shape} (u : ℕ) → meets v n u ≡ true → RecordThere shape v n → RecordThere shape u n
  met_there u e there = record { numbered = there.numbered; banked = λ low. rw (eqb-true u v (rw (lt-ltb n 32 low) at e)) (there.banked low) }

-- what may hold of a record, which changes spare it, and whether the giving of the interrupt does
pub record Lasting : Type 1 where
  pub holds : InterruptRecord → Bool
  pub Spared : Change → InterruptRecord → Type 0
  pub Givable : Type 0
  pub change_keeps : (c : Change) (r : InterruptRecord) → Spared c r → holds r ≡ true → holds (becomes c r) ≡ true
  pub giving_keeps : Givable → (u : ℕ) (r : InterruptRecord) → holds r ≡ true → holds (given_record u r) ≡ true

module _ (l : Lasting) (shape : Shape) (v n : ℕ) where
  abbrev pub Spares : Move → List ℕ → Type 0
  Spares (Changed u m c) s = record_slot v n ≡ record_slot u m → l.Spared c (record_at shape v n s)
  Spares (Sourced u m on byte) s = Unit
  Spares (Kept u k x) s = Unit
  Spares (Switched value) s = Unit
  Spares (Given u e) s = record_slot v n ≡ record_slot u e.intid.0 → l.Givable
  Spares (Popped u) s = Unit

  abbrev pub holding : List ℕ → Bool
  holding s = l.holds (record_at shape v n s)

  module _ (there : RecordThere shape v n) (no_sgi : 16 ≤ n) (s : List ℕ) (h : Controls shape s) (now : holding s ≡ true) where
    untouched : (m : Move) → Open shape m s → (Touches m (record_slot v n) → ⊥) → holding (moved shape m s) ≡ true
    untouched m o away = ap (λ (w : ℕ). l.holds (record_of w)) (move_others shape s (lawful_sound h.lawful) m o (record_slot v n) (record_exists shape v n there) away) ∙ now

    -- its own record after, as the vCPU u meets it
    own : (u m : ℕ) (r : List ℕ) (f : InterruptRecord → InterruptRecord) → record_slot v n ≡ record_slot u m → record_at shape u m r ≡ f (record_at shape u m s)
        → l.holds (f (record_at shape v n s)) ≡ true → holding r ≡ true
    own u m r f p is e = ap (λ (t : Slot). l.holds (record_of (word_at shape t r))) p ∙ ap l.holds is ∙ ap (λ (t : Slot). l.holds (f (record_of (word_at shape t s)))) (sym p) ∙ e

    changed_kept : (u m : ℕ) (c : Change) → Changing shape u m c s → Spares (Changed u m c) s → holding (moved shape (Changed u m c) s) ≡ true
    changed_kept u m c o spares =
        same_or_other shape s (record_slot v n) (record_slot u m) (record_exists shape v n there) (record_exists shape u m o.there)
        (λ p. own u m (moved shape (Changed u m c) s) (becomes c) p (changed_record shape s h.lawful u m c o) (l.change_keeps c (record_at shape v n s) (spares p) now))
        (λ away. untouched (Changed u m c) o away)

    given_kept : (u : ℕ) (e : Candidate) → Giving shape u e s → Spares (Given u e) s → holding (moved shape (Given u e) s) ≡ true
    given_kept u e o spares =
        let lent = givable shape s (lawful_sound h.lawful) u e o in
        same_or_other shape s (record_slot v n) (record_slot u e.intid.0) (record_exists shape v n there) (record_exists shape u e.intid.0 (record { numbered = lent.numbered; banked = λ low. o.exists }))
        (λ p.
        own u e.intid.0 (moved shape (Given u e) s) (given_record u) p (given_record_lem shape u e s lent (rw (met v n u e.intid.0 p).number no_sgi))
        (l.giving_keeps (spares p) u (record_at shape v n s) now))
        (λ away. untouched (Given u e) o (apart away))
      where
        apart : (record_slot v n ≡ record_slot u e.intid.0 → ⊥) → Touches (Given u e) (record_slot v n) → ⊥
        apart away (inl (inl p)) = away p
        apart away (inl (inr p)) = record_apart v n (Sources u e.intid.0) refl p
        apart away (inr p) = record_off_stack u v n p

    sourced_apart : (u m : ℕ) → m < 16 → Of u m (record_slot v n) → ⊥
    sourced_apart u m sgi (inl p) = records_apart v u n m (λ q. omega (arith, q, sgi, no_sgi)) p
    sourced_apart u m sgi (inr p) = record_apart v n (Sources u m) refl p

    pub move_keeps : (m : Move) → Open shape m s → Spares m s → holding (moved shape m s) ≡ true
    move_keeps (Changed u m c) o spares = changed_kept u m c o spares
    move_keeps (Sourced u m on byte) o spares = untouched (Sourced u m on byte) o (sourced_apart u m o.sgi)
    move_keeps (Kept u k x) o spares = untouched (Kept u k x) o (record_apart v n (Interface u k) refl)
    move_keeps (Switched value) o spares = untouched (Switched value) o (record_apart v n DistributorControl refl)
    move_keeps (Given u e) o spares = given_kept u e o spares
    move_keeps (Popped u) o spares = untouched (Popped u) o (record_off_stack u v n)

  -- what an EOIR or DIR ends is retired or completed
  each_end : (P : Change → Type 0) → P DeactivateInflight → P Complete → (c : Change) → Ends c → P c
  each_end P retired completed (SetEnabled e) ends = absurd ends
  each_end P retired completed (SetPending p) ends = absurd ends
  each_end P retired completed (SetActive a) ends = absurd ends
  each_end P retired completed CancelInflight ends = absurd ends
  each_end P retired completed (SetTrigger t) ends = absurd ends
  each_end P retired completed (SetPriority q) ends = absurd ends
  each_end P retired completed (SetCpuTargetMask b) ends = absurd ends
  each_end P retired completed (SetLevel a) ends = absurd ends
  each_end P retired completed Pulse ends = absurd ends
  each_end P retired completed DeactivateInflight ends = retired
  each_end P retired completed Complete ends = completed
  each_end P retired completed ClearDeliveryState ends = absurd ends

  pub write_spares : ((r : InterruptRecord) → l.Spared DeactivateInflight r) → ((r : InterruptRecord) → l.Spared Complete r)
      → (u : ℕ) (m : Move) → WriteMade u m → (s : List ℕ) → Spares m s
  write_spares retired completed u (Changed w k c) made s =
      λ p. each_end (λ d. l.Spared d (record_at shape v n s)) (retired (record_at shape v n s)) (completed (record_at shape v n s)) c made.1
  write_spares retired completed u (Sourced w k on byte) made s = tt
  write_spares retired completed u (Kept w k x) made s = tt
  write_spares retired completed u (Switched value) made s = tt
  write_spares retired completed u (Given w e) made s = absurd made
  write_spares retired completed u (Popped w) made s = tt

  -- what a write to the Distributor makes of a record, beside what ICPENDR and ICFGR do
  pub record Unharmed (r : InterruptRecord) : Type 0 where
    pub enabled : (e : Bool) → l.Spared (SetEnabled e) r
    pub pended : l.Spared (SetPending true) r
    pub activated : (a : Bool) → l.Spared (SetActive a) r
    pub cancelled : l.Spared CancelInflight r
    pub prioritized : (q : ℕ) → l.Spared (SetPriority q) r
    pub targeted : (b : ℕ) → l.Spared (SetCpuTargetMask b) r

  module _ (s : List ℕ) (h : Unharmed (record_at shape v n s)) (u : ℕ) (width : AccessWidth) (first value : ℕ) (m : Move) where
    deactivated : (c : Change) → (c ≡ SetActive false) ⊎ (c ≡ CancelInflight) → l.Spared c (record_at shape v n s)
    deactivated c (inl makes) = rw makes (h.activated false)
    deactivated c (inr makes) = rw makes h.cancelled

    bit_spares : (register : BitRegister) → (register ≡ Icpendr → BitMade Icpendr u first value m → Spares m s) → (register ≡ Icfgr → BitMade Icfgr u first value m → Spares m s)
        → BitMade register u first value m → Spares m s
    bit_spares Igroupr cleared configured made = absurd made.makes
    bit_spares Isenabler cleared configured made = rw (made.is, made.makes) (λ p. h.enabled true)
    bit_spares Icenabler cleared configured made = rw (made.is, made.makes) (λ p. h.enabled false)
    bit_spares Ispendr cleared configured made = rw (made.is, made.makes) (λ p. h.pended)
    bit_spares Icpendr cleared configured made = cleared refl made
    bit_spares Isactiver cleared configured made = rw (made.is, made.makes) (λ p. h.activated true)
    bit_spares Icactiver cleared configured made = rw made.is (λ p. deactivated made.change made.makes)
    bit_spares Icfgr cleared configured made = configured refl made

    pub class_spares : (c : Class) → (c ≡ Bits Icpendr → BitMade Icpendr u first value m → Spares m s) → (c ≡ Bits Icfgr → BitMade Icfgr u first value m → Spares m s)
        → ClassMade shape u c first width value m → Spares m s
    class_spares Ctlr cleared configured made = rw made tt
    class_spares Typer cleared configured made = absurd made
    class_spares Iidr cleared configured made = absurd made
    class_spares Sgir cleared configured made = rw made.is tt
    class_spares (Bits register) cleared configured made = bit_spares register (λ p. cleared (ap Bits p)) (λ p. configured (ap Bits p)) made
    class_spares (Bytes Ipriorityr) cleared configured made = rw made.is (λ p. h.prioritized _)
    class_spares (Bytes Itargetsr) cleared configured made = rw made.is (λ p. h.targeted _)
    class_spares (Bytes Cpendsgir) cleared configured made = rw made.is tt
    class_spares (Bytes Spendsgir) cleared configured made = rw made.is tt
    class_spares Other cleared configured made = absurd made
