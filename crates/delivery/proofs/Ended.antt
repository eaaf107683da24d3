-- EOIR: if the number is the newest, the stack below is restored, and with EOI mode off its record deactivated; if not, nothing changes. No
-- other record and no other stack does. Assumes nothing.
use mathlib.Core.Path.{◌≡◌, refl, ap, ◌∙◌}
use mathlib.Core.Bool.{Bool, true, false, cond, ◌&&◌}
use mathlib.Core.List.{List, ◌∷◌}
use Prim.Native.Nat.{ℕ, ◌-◌, ◌≤◌, ◌<◌}
use native.Mathlib.Omega.{arith}
use lib.Dec.{ltb}
use borrow.Author.Tests.{ltb-true}
use Rattle.word.specs.Word.{record_of}
use Rattle.state.specs.declared.layout.Shape.{Shape}
use Rattle.state.specs.declared.layout.InterfaceValue.TheVariants.{Depth}
use Rattle.state.specs.declared.words.Entry.{Entry}
use Rattle.state.specs.Layout.{Slot, Interface, Stack, Exists, Room, stack_capacity}
use Rattle.state.specs.Words.{word_at, record_slot, RecordThere, record_at}
use Rattle.state.proofs.Accessors.{record_exists}
use Rattle.state.proofs.SlotKinds.{kinds_apart, record_apart, apart_record}
use Rattle.service.specs.Service.{depth_at, stack_at, is_newest, popped, dropped, Served}
use Rattle.service.proofs.Stacks.{stack_same, newest_some, popped_room, popped_others, popped_depth, popped_stack}
use Rattle.end.specs.End.{served_here, eoi_mode, deactivated, retired, ended, end_retired}
use Rattle.delivery.specs.Delivery.{deactivate}
use Rattle.delivery.proofs.Deactivation.{deactivated_others, deactivated_stacks, deactivated_record}

module _ (shape : Shape) (v n : ℕ) (s : List ℕ) (h : Served shape v s) where
  -- a number that is not the newest
  pub ended_unchanged : is_newest n (stack_at shape v s) ≡ false → ended shape v n s ≡ s
  unfolding ended dropped
  ended_unchanged p = simp p

  pub ended_none : is_newest n (stack_at shape v s) ≡ false → end_retired shape v n s ≡ 1023
  unfolding end_retired
  ended_none p = simp p

  module _ (newest : is_newest n (stack_at shape v s) ≡ true) where
    some : 0 < depth_at shape v s
    some = newest_some shape v s n newest

    -- with EOI mode on it only pops
    pub ended_popped : eoi_mode shape v s ≡ true → ended shape v n s ≡ popped shape v s
    unfolding ended dropped
    ended_popped p = simp (newest, p)

    pub ended_deactivated : eoi_mode shape v s ≡ false → ended shape v n s ≡ deactivated shape v n (popped shape v s)
    unfolding ended dropped
    ended_deactivated p = simp (newest, p)

    -- either way
    module _ (P : List ℕ → Type 0) (pop : P (popped shape v s)) (off : P (deactivated shape v n (popped shape v s))) where
      ended_cases : P (ended shape v n s)
      ended_cases = go (eoi_mode shape v s) refl
        where
          go : (b : Bool) → eoi_mode shape v s ≡ b → P (ended shape v n s)
          go true e = rw (ended_popped e) pop
          go false e = rw (ended_deactivated e) off

    room : Room shape (popped shape v s)
    room = popped_room shape v s h some

    pub ended_others : (t : Slot) → Exists shape t → (t ≡ record_slot v n → ⊥) → (t ≡ Interface v Depth → ⊥) → (t ≡ Stack v (depth_at shape v s - 1) → ⊥) → word_at shape t (ended shape v n s) ≡ word_at shape t s
    ended_others t x no_record no_depth no-entry =
        let pop = popped_others shape v s h some t x no_depth no-entry in
        ended_cases (λ r. word_at shape t r ≡ word_at shape t s) pop (deactivated_others shape v n (popped shape v s) room h.exists t x no_record ∙ pop)

    -- the stack below
    pub ended_stack : (e : Entry) (es : List Entry) → stack_at shape v s ≡ e ∷ es → stack_at shape v (ended shape v n s) ≡ es
    ended_stack e es p =
        let pop = popped_stack shape v s h some e es p in
        let deep : depth_at shape v s ≤ stack_capacity = h.deep in
        let deep₁ : depth_at shape v (popped shape v s) ≤ stack_capacity = rw (popped_depth shape v s h some) (omega arith) in
        ended_cases (λ r. stack_at shape v r ≡ es) pop (deactivated_stacks shape v n (popped shape v s) room h.exists v h.exists deep₁ ∙ pop)

    pub ended_stacks : (u : ℕ) → u < shape.count → (u ≡ v → ⊥) → depth_at shape u s ≤ stack_capacity → stack_at shape u (ended shape v n s) ≡ stack_at shape u s
    ended_stacks u x apart deep =
        stack_same shape u s (ended shape v n s) deep
        (ended_others (Interface u Depth) x (apart_record (Interface u Depth) v n refl) (λ p. apart (cc)) (kinds_apart (Interface u Depth) (Stack v (depth_at shape v s - 1)) refl))
        (λ i b. ended_others (Stack u i) (x, b) (apart_record (Stack u i) v n refl) (kinds_apart (Stack u i) (Interface v Depth) refl) (λ p. apart (cc)))

    -- no record but its own
    pub ended_records : (u m : ℕ) → RecordThere shape u m → (record_slot u m ≡ record_slot v n → ⊥) → record_at shape u m (ended shape v n s) ≡ record_at shape u m s
    ended_records u m x apart =
        ap record_of
        (ended_others (record_slot u m) (record_exists shape u m x) apart
        (record_apart u m (Interface v Depth) refl)
        (record_apart u m (Stack v (depth_at shape v s - 1)) refl))

    -- its own, as it stood before the pop
    old_word : n < shape.limit → word_at shape (record_slot v n) (popped shape v s) ≡ word_at shape (record_slot v n) s
    old_word b =
        let x : RecordThere shape v n = record { numbered = b; banked = λ c. h.exists } in
        popped_others shape v s h some (record_slot v n) (record_exists shape v n x)
        (record_apart v n (Interface v Depth) refl)
        (record_apart v n (Stack v (depth_at shape v s - 1)) refl)

    pub ended_record : eoi_mode shape v s ≡ false → n < shape.limit → record_at shape v n (ended shape v n s) ≡ deactivate v (record_at shape v n s)
    ended_record off b =
        ap (record_at shape v n) (ended_deactivated off)
        ∙ deactivated_record shape v n (popped shape v s) room h.exists b
        ∙ ap (λ (w : ℕ). deactivate v (record_of w)) (old_word b)

    -- and so is what it retires
    pub ended_retired : eoi_mode shape v s ≡ false → end_retired shape v n s ≡ retired shape v n s
    unfolding end_retired dropped retired
    ended_retired off = simp (newest, off) (go (ltb n shape.limit) refl)
      where
        go : (b : Bool) → ltb n shape.limit ≡ b → cond (b && served_here v (record_at shape v n (popped shape v s))) n 1023 ≡ cond (b && served_here v (record_at shape v n s)) n 1023
        go true e = ap (λ (w : ℕ). cond (served_here v (record_of w)) n 1023) (old_word (ltb-true n shape.limit e))
        go false e = refl

  -- what stays true if nothing changes, under a pop, and under Deactivate after it, stays true under EOIR
  pub ended_keeps : (P : List ℕ → Type 0) → P s → (0 < depth_at shape v s → P (popped shape v s)) → (0 < depth_at shape v s → P (popped shape v s) → P (deactivated shape v n (popped shape v s))) → P (ended shape v n s)
  ended_keeps P same pop off = go (is_newest n (stack_at shape v s)) refl
    where
      go : (b : Bool) → is_newest n (stack_at shape v s) ≡ b → P (ended shape v n s)
      go true p = let some = newest_some shape v s n p in ended_cases p P (pop some) (off some (pop some))
      go false p = rw (ended_unchanged p) same
