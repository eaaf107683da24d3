-- Document 02, Six: two writes to the Distributor, by one vCPU at the same place, are one; where records only become readier or only less ready their wake
-- sets together are its wake set. Assumes nothing.
use Rattle.std.specs.Prelude.{Option, Some, None}
use mathlib.Core.Path.{◌≡◌, refl, sym, ap, subst, ◌∙◌}
use mathlib.Core.Bool.{Bool, true, false, not, cond, true≢false}
use mathlib.Core.List.{List}
use Prim.Native.Nat.{ℕ, ◌+◌, ◌%◌, ◌^◌, ◌<◌}
use lib.Bits.{bit_or, or_zero_r}
use borrow.Author.Tests.{ne_eqb}
use Rattle.register.specs.declared.frame.AccessWidth.{AccessWidth}
use Rattle.register.specs.declared.frame.Refusal.{Refusal}
use Rattle.register.specs.declared.frame.Refusal.TheVariants.{Vcpu, BrokenState}
use Rattle.register.specs.declared.ranges.ByteRegister.{ByteRegister}
use Rattle.register.specs.declared.ranges.ByteRegister.TheVariants.{Ipriorityr, Itargetsr, Cpendsgir, Spendsgir}
use Rattle.register.specs.declared.ranges.Class.{Class}
use Rattle.register.specs.declared.ranges.Class.TheVariants.{Ctlr, Typer, Iidr, Sgir, Bits, Bytes, Other}
use Rattle.register.specs.declared.distributor.Place.{Place}
use Rattle.register.specs.declared.distributor.DistributorAccess.TheVariants.{At}
use Rattle.register.specs.Distributor.{locate_distributor}
use Rattle.register.specs.Frame.{bytes}
use Rattle.state.specs.declared.layout.Shape.{Shape}
use Rattle.state.specs.Lent.{validated}
use Rattle.state.specs.Words.{sources_at, Exact}
use Rattle.state.proofs.Validated.{held_validated}
use Rattle.service.specs.Service.{Sound}
use Rattle.service.proofs.Soundness.{validated_sound}
use Rattle.wake.specs.Wake.{wake_set}
use Rattle.places.specs.Places.{write_place_looks_up, write_place, PlaceWritten}
use Rattle.places.proofs.Fits.{byte_run}
use Rattle.places.proofs.Sounds.{place_depths, place_sound}
use Rattle.answer.specs.Answer.{Outcome, refused, went, absent}
use Rattle.answer.proofs.Present.{present}
use Rattle.distributor_frame.specs.DistributorFrame.{write_v2_distributor}
use Rattle.lawful.specs.Lawful.{Orderly}
use Rattle.history.specs.History.{WriteDistributor}
use Rattle.history.proofs.Calls.{call_valid}
use Rattle.merging.specs.Merging.{Described, PlacedAs, write_there, OneState, OneWakeSet, WakesNoOther, as_one, MayMerge, Supposes, wakes_add, wakes_nobody}
use Rattle.merging.proofs.Bytes.{ByteNeeds}
use Rattle.merging.proofs.Rings.{first_sends, second_sends}
use Rattle.merging.proofs.Rising.{Way, Rising, wakes_within, wakes_add_lem, fallen_wakes_nobody}
use Rattle.merging.proofs.Writes.{mod_as_one, mod_may_merge, ClassNeeds, class_raises, place_as_one, place_way, place_leaves}

-- the vCPU is looked up for all of the three writes or for none
looks_alike : (c : Class) (own : Bool) (x y : ℕ) → MayMerge c x y → (write_place_looks_up c own x ≡ write_place_looks_up c own (as_one c x y)) × (write_place_looks_up c own y ≡ write_place_looks_up c own (as_one c x y))
looks_alike Ctlr own x y may = (refl, refl)
looks_alike Typer own x y may = (refl, refl)
looks_alike Iidr own x y may = (refl, refl)
looks_alike Sgir own x y may = (first_sends x y may, second_sends x y may)
looks_alike (Bits register) own x y may = (refl, refl)
looks_alike (Bytes register) own x y may = (refl, refl)
looks_alike Other own x y may = (refl, refl)

module _ (v offset : ℕ) (width : AccessWidth) (place : Place) (located : locate_distributor offset width ≡ At place) where
  abbrev write : ℕ → List ℕ → Outcome
  write value s = write_there v offset width value s

  abbrev looks : ℕ → Bool
  looks x = write_place_looks_up place.class place.private x

  -- what a write comes to: 6, 3, or the place is written
  pub broken : (value : ℕ) (s : List ℕ) → validated s ≡ None → write value s ≡ refused BrokenState s
  unfolding write_v2_distributor
  broken value s h = simp h

  pub written : (value : ℕ) (s : List ℕ) (shape : Shape) → validated s ≡ Some shape → (l : Bool) → looks (value % 2 ^ 32) ≡ l
      → write value s ≡ cond (absent l shape v) (refused Vcpu s) (went shape 1023 s (write_place shape v place width (value % 2 ^ 32) s))
  unfolding write_v2_distributor
  written value s shape h l e = simp (h, located, e)

  module _ (shape : Shape) (s : List ℕ) (h : validated s ≡ Some shape) where
    pub place_at_lem : (x : ℕ) (l : Bool) → looks x ≡ l → absent l shape v ≡ false → PlaceWritten shape v place width x s
    place_at_lem x l e there =
        record { state = (validated_sound shape s h).state; located = record { offset = offset; at = located }; looked = λ q. present l shape v there (sym e ∙ q) }

    -- the words after it are a state of the same shape
    pub after_valid : (value : ℕ) (r : List ℕ) → (write value s).state ≡ r → validated r ≡ Some shape
    after_valid value r e = subst (λ (t : List ℕ). validated t ≡ Some shape) e (call_valid shape s h (WriteDistributor v offset width value) refl)

  -- one write alone, where nothing is made readier
  module _ (shape : Shape) (s : List ℕ) (h : validated s ≡ Some shape) (exact : Exact shape s) (a : ℕ) where
    pub none_woken : wakes_add place.class ≡ true → wakes_nobody place.class ≡ true
        → (PlaceWritten shape v place width (a % 2 ^ 32) s → ClassNeeds shape v place.class place.first.0 width s) → (write a s).wake ≡ 0
    none_woken adds nobody need = ap (λ (o : Outcome). o.wake) (written a s shape h (looks (a % 2 ^ 32)) refl) ∙ go (absent (looks (a % 2 ^ 32)) shape v) refl
      where
        r : List ℕ
        r = write_place shape v place width (a % 2 ^ 32) s

        go : (q : Bool) → absent (looks (a % 2 ^ 32)) shape v ≡ q → (cond q (refused Vcpu s) (went shape 1023 s r)).wake ≡ 0
        go true e = refl
        go false e =
            let at = place_at_lem shape s h (a % 2 ^ 32) (looks (a % 2 ^ 32)) refl e in
            let sound = validated_sound shape s h in
            let way = place_way shape v place width (a % 2 ^ 32) s at adds (need at) exact in
            fallen_wakes_nobody shape s r sound (place_sound shape v place width (a % 2 ^ 32) s sound at) exact way.1.1 (subst (λ (q : Bool). Way (not q) (Rising shape) s r) nobody way.0)

  module _ (a b : ℕ) (may : MayMerge place.class a b) where
    abbrev x : ℕ
    x = a % 2 ^ 32

    abbrev y : ℕ
    y = b % 2 ^ 32

    abbrev c : ℕ
    c = as_one place.class a b

    -- of the low 32 bits
    low_may : MayMerge place.class x y
    low_may = mod_may_merge place.class a b may

    low_one : c % 2 ^ 32 ≡ as_one place.class x y
    low_one = mod_as_one place.class a b

    first_looks : looks x ≡ looks (c % 2 ^ 32)
    first_looks = (looks_alike place.class place.private x y low_may).0 ∙ ap looks (sym low_one)

    second_looks : looks y ≡ looks (c % 2 ^ 32)
    second_looks = (looks_alike place.class place.private x y low_may).1 ∙ ap looks (sym low_one)

    -- refused, all three
    module _ (refusal : Refusal) (s : List ℕ) (ea : write a s ≡ refused refusal s) (eb : write b s ≡ refused refusal s) (ec : write c s ≡ refused refusal s) where
      refused_state : OneState write a b c s
      refused_state = record {
        state = ap (λ (o : Outcome). (write b o.state).state) ea ∙ ap (λ (o : Outcome). o.state) (eb ∙ sym ec);
        first_refusal = ap (λ (o : Outcome). o.refusal) (ea ∙ sym ec);
        second_refusal = ap (λ (o : Outcome). (write b o.state).refusal) ea ∙ ap (λ (o : Outcome). o.refusal) (eb ∙ sym ec);
      }

      refused_wakes : OneWakeSet write a b c s
      refused_wakes =
          ap (λ (o : Outcome). bit_or o.wake (write b o.state).wake) ea ∙ ap (λ (o : Outcome). bit_or 0 o.wake) eb ∙ sym (ap (λ (o : Outcome). o.wake) ec)

      refused_no_other : WakesNoOther write a b c s
      refused_no_other = ap (bit_or both) (ap (λ (o : Outcome). o.wake) ec) ∙ or_zero_r both
        where
          both : ℕ
          both = bit_or (write a s).wake (write b (write a s).state).wake

    -- accepted, all three
    module _ (shape : Shape) (s : List ℕ) (h : validated s ≡ Some shape) (there : absent (looks (c % 2 ^ 32)) shape v ≡ false) where
      abbrev first : List ℕ
      first = write_place shape v place width x s

      abbrev second : List ℕ
      second = write_place shape v place width y first

      wrote : (value : ℕ) (r : List ℕ) → validated r ≡ Some shape → looks (value % 2 ^ 32) ≡ looks (c % 2 ^ 32) → write value r ≡ went shape 1023 r (write_place shape v place width (value % 2 ^ 32) r)
      wrote value r k e = written value r shape k (looks (c % 2 ^ 32)) e ∙ simp there

      first_valid : validated first ≡ Some shape
      first_valid = after_valid shape s h a first (ap (λ (o : Outcome). o.state) (wrote a s h first_looks))

      at_first : PlaceWritten shape v place width x s
      at_first = place_at_lem shape s h x (looks (c % 2 ^ 32)) first_looks there

      at_second : PlaceWritten shape v place width y first
      at_second = place_at_lem shape first first_valid y (looks (c % 2 ^ 32)) second_looks there

      module _ (need : ClassNeeds shape v place.class place.first.0 width s) where
        one : second ≡ write_place shape v place width (c % 2 ^ 32) s
        one = place_as_one shape v place width x s at_first y low_may need ∙ ap (λ (z : ℕ). write_place shape v place width z s) (sym low_one)

        accepted_state : OneState write a b c s
        accepted_state = record {
          state =
              ap (λ (o : Outcome). (write b o.state).state) (wrote a s h first_looks) ∙ ap (λ (o : Outcome). o.state) (wrote b first first_valid second_looks)
              ∙ one ∙ sym (ap (λ (o : Outcome). o.state) (wrote c s h refl));
          first_refusal = ap (λ (o : Outcome). o.refusal) (wrote a s h first_looks) ∙ sym (ap (λ (o : Outcome). o.refusal) (wrote c s h refl));
          second_refusal =
              ap (λ (o : Outcome). (write b o.state).refusal) (wrote a s h first_looks) ∙ ap (λ (o : Outcome). o.refusal) (wrote b first first_valid second_looks)
              ∙ sym (ap (λ (o : Outcome). o.refusal) (wrote c s h refl));
        }

        both_wake : bit_or (write a s).wake (write b (write a s).state).wake ≡ bit_or (wake_set shape s first) (wake_set shape first second)
        both_wake =
            ap (λ (o : Outcome). bit_or o.wake (write b o.state).wake) (wrote a s h first_looks)
            ∙ ap (λ (o : Outcome). bit_or (wake_set shape s first) o.wake) (wrote b first first_valid second_looks)

        one_wakes : (write c s).wake ≡ wake_set shape s second
        one_wakes = ap (λ (o : Outcome). o.wake) (wrote c s h refl) ∙ ap (wake_set shape s) (sym one)

        accepted_no_other : WakesNoOther write a b c s
        accepted_no_other =
            (λ i. bit_or (both_wake i) (one_wakes i))
            ∙ wakes_within shape (validated_sound shape s h).state.limits s first second (place_depths shape v place width y first at_second).depth ∙ sym both_wake

        accepted_wakes : wakes_add place.class ≡ true → Exact shape s → OneWakeSet write a b c s
        accepted_wakes adds exact =
            let sound : Sound shape first = validated_sound shape first first_valid in
            let up = place_way shape v place width x s at_first adds need exact in
            let on = place_way shape v place width y first at_second adds (place_leaves shape v place width x s at_first need) up.1.1 in
            both_wake
            ∙ wakes_add_lem shape s first second (validated_sound shape s h) sound (place_sound shape v place width y first sound at_second) exact up.1.1 on.1.1 (class_raises place.class) up.0 on.0
            ∙ sym one_wakes

    module _ (s : List ℕ) where
      abbrev Needed : Shape → Type 0
      Needed shape = PlaceWritten shape v place width x s → ClassNeeds shape v place.class place.first.0 width s

      -- what holds where all three are refused, and where they are accepted
      module _ (P : Type 0) (refuses : (r : Refusal) → write a s ≡ refused r s → write b s ≡ refused r s → write c s ≡ refused r s → P) where
        by_look_up : (shape : Shape) → validated s ≡ Some shape → Needed shape
            → ((there : absent (looks (c % 2 ^ 32)) shape v ≡ false) → ClassNeeds shape v place.class place.first.0 width s → P) → P
        by_look_up shape h need accepts = by (absent (looks (c % 2 ^ 32)) shape v) refl
          where
            by : (q : Bool) → absent (looks (c % 2 ^ 32)) shape v ≡ q → P
            by true e =
                refuses Vcpu (written a s shape h (looks (c % 2 ^ 32)) first_looks ∙ simp e) (written b s shape h (looks (c % 2 ^ 32)) second_looks ∙ simp e) (written c s shape h (looks (c % 2 ^ 32)) refl ∙ simp e)
            by false e = accepts e (need (at_first shape s h e))

        in_any_words : ((shape : Shape) → validated s ≡ Some shape → Needed shape)
            → ((shape : Shape) (h : validated s ≡ Some shape) (there : absent (looks (c % 2 ^ 32)) shape v ≡ false) → ClassNeeds shape v place.class place.first.0 width s → P) → P
        in_any_words need accepts = go (validated s) refl
          where
            go : (held : Option Shape) → validated s ≡ held → P
            go None h = refuses BrokenState (broken a s h) (broken b s h) (broken c s h)
            go (Some shape) h = by_look_up shape h (need shape h) (accepts shape h)

      pub state_as_one : ((shape : Shape) → validated s ≡ Some shape → Needed shape) → OneState write a b c s
      state_as_one need = in_any_words (OneState write a b c s) (λ r. refused_state r s) need (λ shape h there. accepted_state shape s h there)

      pub no_other_as_one : ((shape : Shape) → validated s ≡ Some shape → Needed shape) → WakesNoOther write a b c s
      no_other_as_one need = in_any_words (WakesNoOther write a b c s) (λ r. refused_no_other r s) need (λ shape h there. accepted_no_other shape s h there)

      pub wakes_as_one : wakes_add place.class ≡ true → (shape : Shape) → validated s ≡ Some shape → Exact shape s → Needed shape → OneWakeSet write a b c s
      wakes_as_one adds shape h exact need = by_look_up (OneWakeSet write a b c s) (λ r. refused_wakes r s) shape h need (λ there needed. accepted_wakes shape s h there needed adds exact)

-- what CPENDSGIR needs is demand 3's: an SGI is pending where a source is set
module _ (shape : Shape) (v : ℕ) (place : Place) (w : AccessWidth) (x : ℕ) (s : List ℕ) (at : PlaceWritten shape v place w x s) where
  byte_needed : (register : ByteRegister) → place.class ≡ Bytes register → Orderly shape s → (i : ℕ) → i < bytes w → ByteNeeds shape register v (place.first.0 + i) s
  byte_needed Ipriorityr e orderly i h = tt
  byte_needed Itargetsr e orderly i h = tt
  byte_needed Cpendsgir e orderly i h =
      let there = (byte_run shape v place w s at.state at.located Cpendsgir e (λ q. at.looked (simp e q))).there i h in
      let n = place.first.0 + i in
      λ some. orderly.sourced v n there.0 there.1 ∙ ap not (ne_eqb (sources_at shape v n s) 0 some)
  byte_needed Spendsgir e orderly i h = tt

  class_needed : (c : Class) → place.class ≡ c → Orderly shape s → ClassNeeds shape v c place.first.0 w s
  class_needed Ctlr e orderly = tt
  class_needed Typer e orderly = tt
  class_needed Iidr e orderly = tt
  class_needed Sgir e orderly = tt
  class_needed (Bits register) e orderly = tt
  class_needed (Bytes register) e orderly = byte_needed register e orderly
  class_needed Other e orderly = tt

  -- where nothing is supposed of the words, nothing is needed
  supposed : (c : Class) → place.class ≡ c → Supposes c s → validated s ≡ Some shape → ClassNeeds shape v c place.first.0 w s
  supposed Ctlr e d h = tt
  supposed Typer e d h = tt
  supposed Iidr e d h = tt
  supposed Sgir e d h = tt
  supposed (Bits register) e d h = tt
  supposed (Bytes Ipriorityr) e d h = λ i b. tt
  supposed (Bytes Itargetsr) e d h = λ i b. tt
  supposed (Bytes Cpendsgir) e d h =
      let of_s : Described s = d in
      let both : Some shape ≡ Some of_s.shape = sym h ∙ held_validated s of_s.shape of_s.holds in
      let same : shape ≡ of_s.shape = cc in
      byte_needed Cpendsgir e (subst (λ (k : Shape). Orderly k s) (sym same) of_s.orderly)
  supposed (Bytes Spendsgir) e d h = λ i b. tt
  supposed Other e d h = tt

-- any two writes by one vCPU at one place are one write; in any words at all, and at CPENDSGIR from any state that demand 3 describes
pub two_writes_are_one : (v offset : ℕ) (width : AccessWidth) (class : Class) → PlacedAs offset width class → (a b : ℕ) → MayMerge class a b → (s : List ℕ) → Supposes class s
    → OneState (write_there v offset width) a b (as_one class a b) s
two_writes_are_one v offset width class at a b may s d =
    subst (λ (k : Class). MayMerge k a b → Supposes k s → OneState (write_there v offset width) a b (as_one k a b) s) at.is
    (λ m e. state_as_one v offset width at.place at.located a b m s (λ shape h written. supposed shape v at.place width (a % 2 ^ 32) s written at.place.class refl e h)) may d

-- it wakes nobody whom neither of the two wakes
pub one_write_wakes_no_other : (v offset : ℕ) (width : AccessWidth) (class : Class) → PlacedAs offset width class → (a b : ℕ) → MayMerge class a b → (s : List ℕ) → Supposes class s
    → WakesNoOther (write_there v offset width) a b (as_one class a b) s
one_write_wakes_no_other v offset width class at a b may s d =
    subst (λ (k : Class). MayMerge k a b → Supposes k s → WakesNoOther (write_there v offset width) a b (as_one k a b) s) at.is
    (λ m e. no_other_as_one v offset width at.place at.located a b m s (λ shape h written. supposed shape v at.place width (a % 2 ^ 32) s written at.place.class refl e h)) may d

-- and their wake sets together are its wake set, from any state that demand 3 describes, but where what is written replaces priority, target or CTLR
pub wake_sets_add_up : (v offset : ℕ) (width : AccessWidth) (class : Class) → PlacedAs offset width class → wakes_add class ≡ true → (a b : ℕ) → MayMerge class a b → (s : List ℕ) → Described s
    → OneWakeSet (write_there v offset width) a b (as_one class a b) s
wake_sets_add_up v offset width class at adds a b may s d =
    subst (λ (k : Class). wakes_add k ≡ true → MayMerge k a b → OneWakeSet (write_there v offset width) a b (as_one k a b) s) at.is
    (λ q m. wakes_as_one v offset width at.place at.located a b m s q d.shape (held_validated s d.shape d.holds) d.orderly.summary
    (λ written. class_needed d.shape v at.place width (a % 2 ^ 32) s written at.place.class refl d.orderly)) adds may

nobody_adds : (c : Class) → wakes_nobody c ≡ true → wakes_add c ≡ true
nobody_adds Ctlr e = absurd (true≢false (sym e))
nobody_adds Typer e = refl
nobody_adds Iidr e = refl
nobody_adds Sgir e = refl
nobody_adds (Bits register) e = refl
nobody_adds (Bytes Ipriorityr) e = absurd (true≢false (sym e))
nobody_adds (Bytes Itargetsr) e = absurd (true≢false (sym e))
nobody_adds (Bytes Cpendsgir) e = refl
nobody_adds (Bytes Spendsgir) e = refl
nobody_adds Other e = refl

-- ICENABLER, ICPENDR, ISACTIVER, ICFGR and CPENDSGIR wake nobody, nor do places that ignore writes
pub nobody_is_woken : (v offset : ℕ) (width : AccessWidth) (class : Class) → PlacedAs offset width class → wakes_nobody class ≡ true → (a : ℕ) (s : List ℕ) → Described s
    → (write_there v offset width a s).wake ≡ 0
nobody_is_woken v offset width class at nobody a s d =
    let none = ap wakes_nobody at.is ∙ nobody in
    none_woken v offset width at.place at.located d.shape s (held_validated s d.shape d.holds) d.orderly.summary a (nobody_adds at.place.class none) none
    (λ written. class_needed d.shape v at.place width (a % 2 ^ 32) s written at.place.class refl d.orderly)
