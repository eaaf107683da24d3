-- Any two writes at bit registers or byte arrays, by any vCPUs and of any widths, that have no interrupt's number in common give the same state in either
-- order; in any words at all. Assumes nothing.
use Rattle.std.specs.Prelude.{Option, Some, None}
use mathlib.Core.Path.{◌≡◌, refl, sym, ap, ◌∙◌}
use mathlib.Core.Bool.{Bool, true, false, cond, true≢false}
use mathlib.Core.List.{List}
use mathlib.Core.Logic.{inl, inr}
use Prim.Native.Nat.{ℕ, ◌+◌, ◌-◌, ◌%◌, ◌^◌, ◌≤◌, ◌<◌}
use native.Mathlib.Nat.{mul-one}
use native.Mathlib.Omega.{arith}
use Rattle.register.specs.declared.frame.AccessWidth.{AccessWidth}
use Rattle.register.specs.declared.frame.Refusal.{Refusal}
use Rattle.register.specs.declared.ranges.ByteRegister.{ByteRegister}
use Rattle.register.specs.declared.ranges.Class.{Class}
use Rattle.register.specs.declared.ranges.Class.TheVariants.{Ctlr, Typer, Iidr, Sgir, Bits, Bytes, Other}
use Rattle.register.specs.declared.ranges.RegisterRange.{RegisterRange}
use Rattle.register.specs.declared.distributor.Place.{Place}
use Rattle.register.specs.declared.distributor.DistributorAccess.{DistributorAccess}
use Rattle.register.specs.declared.distributor.DistributorAccess.TheVariants.{Refused, PrivateWidth, At}
use Rattle.register.specs.Distributor.{numbers_per_byte, first_number, place_at, plain, locate_distributor}
use Rattle.register.specs.Frame.{refusal_number, bytes}
use Rattle.register.specs.Ranges.{range_at, class_at, range_of}
use Rattle.register.proofs.Map.{range_starts, range_of_class}
use Rattle.register.proofs.Ways.{is_single, each_access}
use Rattle.word.specs.Fields.{field_at}
use Rattle.state.specs.declared.layout.Shape.{Shape}
use Rattle.state.specs.Layout.{Slot}
use Rattle.state.specs.Lent.{validated}
use Rattle.state.specs.Loop.{up_to}
use Rattle.state.proofs.Accessors.{records_apart, record_no_sources}
use Rattle.state.proofs.Numbers.{Of}
use Rattle.state.proofs.Own.{Own, apart_comm, runs_comm}
use Rattle.bits.specs.Bits.{field_bits, write_number, write_bits}
use Rattle.bits.proofs.Registers.{field_own}
use Rattle.distributor.proofs.Registers.{run_own}
use Rattle.distributor.specs.Bytes.{write_byte, write_bytes}
use Rattle.places.specs.Places.{write_place_looks_up, write_class, write_place, PlaceWritten}
use Rattle.places.proofs.Fits.{bit_word_lem, byte_run}
use Rattle.answer.specs.Answer.{Outcome, absent}
use Rattle.merging.specs.Merging.{PlacedAs, write_there, EitherOrder, NoCommonByte, numbers_in, NoCommonNumber, has_numbers}
use Rattle.merging.proofs.Calls.{broken, written, place_at_lem, after_valid}

-- slots of two numbers, of whichever vCPUs, are two
pub numbers_two : (v u n m : ℕ) (t : Slot) → (n ≡ m → ⊥) → Of v n t → Of u m t → ⊥
numbers_two v u n m t d (inl p) (inl q) = records_apart v u n m d (sym p ∙ q)
numbers_two v u n m t d (inl p) (inr q) = record_no_sources v n u m (sym p ∙ q)
numbers_two v u n m t d (inr p) (inl q) = record_no_sources u m v n (sym q ∙ p)
numbers_two v u n m t d (inr p) (inr q) = d (cc)

-- a write at a place that has numbers, number by number
abbrev step_of : Shape → ℕ → Class → ℕ → ℕ → ℕ → List ℕ → List ℕ
step_of shape v Ctlr first x i s = s
step_of shape v Typer first x i s = s
step_of shape v Iidr first x i s = s
step_of shape v Sgir first x i s = s
step_of shape v (Bits register) first x i s = write_number shape register v (first + i) (field_at (field_bits register) i x) s
step_of shape v (Bytes register) first x i s = write_byte shape register v (first + i) (field_at 8 i x) s
step_of shape v Other first x i s = s

by_steps : (shape : Shape) (v : ℕ) (c : Class) (first : ℕ) (w : AccessWidth) (x : ℕ) (s : List ℕ) → has_numbers c ≡ true
    → write_class shape v c first w x s ≡ up_to (step_of shape v c first x) (numbers_in c w) s
unfolding write_bits write_bytes
by_steps shape v Ctlr first w x s has = absurd (true≢false (sym has))
by_steps shape v Typer first w x s has = absurd (true≢false (sym has))
by_steps shape v Iidr first w x s has = absurd (true≢false (sym has))
by_steps shape v Sgir first w x s has = absurd (true≢false (sym has))
by_steps shape v (Bits register) first w x s has = refl
by_steps shape v (Bytes register) first w x s has = refl
by_steps shape v Other first w x s has = absurd (true≢false (sym has))

module _ (shape : Shape) (v : ℕ) (place : Place) (w : AccessWidth) (x : ℕ) (s : List ℕ) (at : PlaceWritten shape v place w x s) where
  own_by : (c : Class) → place.class ≡ c → has_numbers c ≡ true → (i : ℕ) → i < numbers_in c w → Own shape (Of v (place.first.0 + i)) (step_of shape v c place.first.0 x i)
  own_by Ctlr e has i h = absurd (true≢false (sym has))
  own_by Typer e has i h = absurd (true≢false (sym has))
  own_by Iidr e has i h = absurd (true≢false (sym has))
  own_by Sgir e has i h = absurd (true≢false (sym has))
  own_by (Bits register) e has i h = field_own shape register v place.first.0 x s (bit_word_lem shape v place w s at.state at.located register e (λ q. at.looked (simp e q))) i
  own_by (Bytes register) e has i h = run_own shape register v place.first.0 (bytes w) x s (byte_run shape v place w s at.state at.located register e (λ q. at.looked (simp e q))) i h
  own_by Other e has i h = absurd (true≢false (sym has))

  step_own : has_numbers place.class ≡ true → (i : ℕ) → i < numbers_in place.class w → Own shape (Of v (place.first.0 + i)) (step_of shape v place.class place.first.0 x i)
  step_own has i h = own_by place.class refl has i h

-- two places without a common number
module _ (shape : Shape) (v u : ℕ) (p q : Place) (w w' : AccessWidth) (x y : ℕ) (s : List ℕ)
    (at : PlaceWritten shape v p w x s) (at' : PlaceWritten shape u q w' y s) (has : has_numbers p.class ≡ true) (has' : has_numbers q.class ≡ true) (apart : NoCommonNumber p w q w') where
  unlike : (i j : ℕ) → i < numbers_in p.class w → j < numbers_in q.class w' → p.first.0 + i ≡ q.first.0 + j → ⊥
  unlike i j b c e = go apart
    where
      go : NoCommonNumber p w q w' → ⊥
      go (inl k) = omega (arith, k, b, e)
      go (inr k) = omega (arith, k, c, e)

  places_comm : write_place shape u q w' y (write_place shape v p w x s) ≡ write_place shape v p w x (write_place shape u q w' y s)
  places_comm =
      by_steps shape u q.class q.first.0 w' y (write_place shape v p w x s) has'
      ∙ ap (up_to g m) (by_steps shape v p.class p.first.0 w x s has)
      ∙ runs_comm shape f g n m (λ i b. (of i b).local.room) (λ j c. (og j c).local.room)
      (λ i j b c r h. apart_comm shape (Of v (p.first.0 + i)) (Of u (q.first.0 + j)) (f i) (g j) (of i b) (og j c) (λ t. numbers_two v u (p.first.0 + i) (q.first.0 + j) t (unlike i j b c)) r h) s at.state
      ∙ sym (by_steps shape v p.class p.first.0 w x (write_place shape u q w' y s) has ∙ ap (up_to f n) (by_steps shape u q.class q.first.0 w' y s has'))
    where
      f : ℕ → List ℕ → List ℕ
      f i = step_of shape v p.class p.first.0 x i

      g : ℕ → List ℕ → List ℕ
      g j = step_of shape u q.class q.first.0 y j

      n : ℕ
      n = numbers_in p.class w

      m : ℕ
      m = numbers_in q.class w'

      of : (i : ℕ) → i < n → Own shape (Of v (p.first.0 + i)) (f i)
      of i b = step_own shape v p w x s at has i b

      og : (j : ℕ) → j < m → Own shape (Of u (q.first.0 + j)) (g j)
      og j c = step_own shape u q w' y s at' has' j c

-- the two calls
module _ (v u o o' : ℕ) (w w' : AccessWidth) (p q : Place) (located : locate_distributor o w ≡ At p) (located' : locate_distributor o' w' ≡ At q) (a b : ℕ)
    (has : has_numbers p.class ≡ true) (has' : has_numbers q.class ≡ true) (apart : NoCommonNumber p w q w') where
  abbrev x : ℕ
  x = a % 2 ^ 32

  abbrev y : ℕ
  y = b % 2 ^ 32

  abbrev one : List ℕ → Outcome
  one s = write_there v o w a s

  abbrev other : List ℕ → Outcome
  other s = write_there u o' w' b s

  -- the state after each: as found where 3 refuses it
  abbrev left : Shape → Bool → List ℕ → List ℕ
  left shape gone s = cond gone s (write_place shape v p w x s)

  abbrev right : Shape → Bool → List ℕ → List ℕ
  right shape gone s = cond gone s (write_place shape u q w' y s)

  module _ (shape : Shape) where
    abbrev gone : Bool
    gone = absent (write_place_looks_up p.class p.private x) shape v

    abbrev gone' : Bool
    gone' = absent (write_place_looks_up q.class q.private y) shape u

    state_if : (k : Bool) (s r : List ℕ) (t : Outcome) (f : Outcome) → t.state ≡ s → f.state ≡ r → (cond k t f).state ≡ cond k s r
    state_if true s r t f e d = e
    state_if false s r t f e d = d

    left_is : (s : List ℕ) → validated s ≡ Some shape → (one s).state ≡ left shape gone s
    left_is s h = ap (λ (t : Outcome). t.state) (written v o w p located a s shape h (write_place_looks_up p.class p.private x) refl) ∙ state_if gone s (write_place shape v p w x s) _ _ refl refl

    right_is : (s : List ℕ) → validated s ≡ Some shape → (other s).state ≡ right shape gone' s
    right_is s h = ap (λ (t : Outcome). t.state) (written u o' w' q located' b s shape h (write_place_looks_up q.class q.private y) refl) ∙ state_if gone' s (write_place shape u q w' y s) _ _ refl refl

    module _ (s : List ℕ) (h : validated s ≡ Some shape) where
      either : (j k : Bool) → gone ≡ j → gone' ≡ k → right shape k (left shape j s) ≡ left shape j (right shape k s)
      either true true e d = refl
      either true false e d = refl
      either false true e d = refl
      either false false e d =
          places_comm shape v u p q w w' x y s (place_at_lem v o w p located shape s h x (write_place_looks_up p.class p.private x) refl e)
          (place_at_lem u o' w' q located' shape s h y (write_place_looks_up q.class q.private y) refl d) has has' apart

      sound_order : EitherOrder one other s
      sound_order =
          ap (λ (r : List ℕ). (other r).state) (left_is s h) ∙ right_is (left shape gone s) (after_valid v o w p located shape s h a (left shape gone s) (left_is s h))
          ∙ either gone gone' refl refl
          ∙ sym (ap (λ (r : List ℕ). (one r).state) (right_is s h) ∙ left_is (right shape gone' s) (after_valid u o' w' q located' shape s h b (right shape gone' s) (right_is s h)))

  order : (s : List ℕ) → EitherOrder one other s
  order s = go (validated s) refl
    where
      go : (held : Option Shape) → validated s ≡ held → EitherOrder one other s
      go None h =
          let l : (one s).state ≡ s = ap (λ (t : Outcome). t.state) (broken v o w p located a s h) in
          let r : (other s).state ≡ s = ap (λ (t : Outcome). t.state) (broken u o' w' q located' b s h) in
          ap (λ (k : List ℕ). (other k).state) l ∙ r ∙ sym (ap (λ (k : List ℕ). (one k).state) r ∙ l)
      go (Some shape) h = sound_order shape s h

-- any two writes at bit registers or byte arrays that have no number in common
pub writes_in_either_order : (v u o o' : ℕ) (w w' : AccessWidth) (class class' : Class) (at : PlacedAs o w class) (at' : PlacedAs o' w' class') → has_numbers class ≡ true → has_numbers class' ≡ true
    → NoCommonNumber at.place w at'.place w' → (a b : ℕ) (s : List ℕ) → EitherOrder (write_there v o w a) (write_there u o' w' b) s
writes_in_either_order v u o o' w w' class class' at at' has has' apart a b s =
    order v u o o' w w' at.place at'.place at.located at'.located a b (ap has_numbers at.is ∙ has) (ap has_numbers at'.is ∙ has') apart s

-- a byte array's first number is how far into it the offset lies
module _ (o : ℕ) (w : AccessWidth) (register : ByteRegister) where
  abbrev Offset : DistributorAccess → Type 0
  Offset access = (p : Place) → access ≡ At p → p.class ≡ Bytes register → p.first.0 + (range_of (Bytes register)).first ≡ o

  at_number : class_at o ≡ Bytes register → (place_at o).first.0 + (range_of (Bytes register)).first ≡ o
  unfolding place_at first_number
  at_number e =
      let start : (range_at o).first ≡ (range_of (Bytes register)).first = ap (λ (r : RegisterRange). r.first) (sym (range_of_class o)) ∙ ap (λ (c : Class). (range_of c).first) e in
      let before = range_starts o in
      let one : numbers_per_byte (class_at o) ≡ 1 = ap numbers_per_byte e in
      rw (one, mul-one (o - (range_at o).first)) (omega (arith, start, before))

  class_there : class_at o ≡ (place_at o).class
  unfolding place_at
  class_there = refl

  array_offset : (at : PlacedAs o w (Bytes register)) → at.place.first.0 + (range_of (Bytes register)).first ≡ o
  array_offset at = each_access o w Offset refuses looks_up_lem alone (λ r c a d. placed) (λ r c a d. placed) at.place at.located at.is
    where
      refuses : (r : Refusal) → refusal_number r ≤ 2 → Offset (Refused r)
      refuses r k p e is = let z : ◌≡◌ {A = ℕ} 0 1 = cc in absurd (omega arith)

      looks_up_lem : Offset PrivateWidth
      looks_up_lem p e is = let z : ◌≡◌ {A = ℕ} 0 1 = cc in absurd (omega arith)

      alone : (c : Class) → is_single c ≡ true → Offset (At (plain c))
      alone c single p e is = let class : c ≡ Bytes register = cc in absurd (true≢false (sym single ∙ ap is_single class))

      placed : (p : Place) → At (place_at o) ≡ At p → p.class ≡ Bytes register → p.first.0 + (range_of (Bytes register)).first ≡ o
      placed p e is =
          let same : place_at o ≡ p = cc in
          ap (λ (k : Place). k.first.0 + (range_of (Bytes register)).first) (sym same) ∙ at_number (class_there ∙ ap (λ (k : Place). k.class) same ∙ is)

-- a byte array's, by their bytes
pub bytes_in_either_order : (v u o o' : ℕ) (w w' : AccessWidth) (register : ByteRegister) → PlacedAs o w (Bytes register) → PlacedAs o' w' (Bytes register) → NoCommonByte o w o' w'
    → (a b : ℕ) (s : List ℕ) → EitherOrder (write_there v o w a) (write_there u o' w' b) s
bytes_in_either_order v u o o' w w' register at at' apart a b s =
    writes_in_either_order v u o o' w w' (Bytes register) (Bytes register) at at' refl refl (numbers apart) a b s
  where
    here : at.place.first.0 + (range_of (Bytes register)).first ≡ o
    here = array_offset o w register at

    there : at'.place.first.0 + (range_of (Bytes register)).first ≡ o'
    there = array_offset o' w' register at'

    numbers : NoCommonByte o w o' w' → NoCommonNumber at.place w at'.place w'
    numbers (inl k) = inl (rw at.is (omega (arith, k, here, there)))
    numbers (inr k) = inr (rw at'.is (omega (arith, k, here, there)))
