-- A push puts the new entry on the old stack, and a pop gives back the stack below; neither touches another slot. Assumes nothing.
use mathlib.Core.Path.{◌≡◌, refl, sym, ap, ◌∙◌}
use mathlib.Core.Bool.{true, true≢false}
use mathlib.Core.List.{List, [], ◌∷◌}
use Prim.Native.Nat.{ℕ, zero, suc, ◌+◌, ◌-◌, ◌≤◌, ◌<◌}
use native.Mathlib.Numerals.{add-one}
use native.Mathlib.Omega.{arith}
use Rattle.state.specs.declared.layout.Shape.{Shape}
use Rattle.state.specs.declared.layout.InterfaceValue.TheVariants.{Depth}
use Rattle.state.specs.declared.words.Entry.{Entry}
use Rattle.state.specs.Layout.{Slot, Interface, Stack, Exists, Room, stack_capacity}
use Rattle.state.specs.Words.{word_at, entry_of, entry_word, entry_at, with_interface, without_entry}
use Rattle.state.proofs.Ready.{PutKeeps, Anywhere, room_kept}
use Rattle.state.proofs.Accessors.{put_room, put_same, put_other, entry_same}
use Rattle.state.proofs.SlotKinds.{kinds_apart}
use Rattle.service.specs.Service.{depth_at, stack_to, stack_at, is_newest, pushed, popped, Served}

-- the stack by its depth
module _ (shape : Shape) (v : ℕ) (s : List ℕ) where
  pub stack_empty : depth_at shape v s ≡ 0 → stack_at shape v s ≡ []
  unfolding stack_to
  stack_empty p = rw p

  pub stack_newest : (d : ℕ) → depth_at shape v s ≡ suc d → stack_at shape v s ≡ entry_at shape v d s ∷ stack_to shape v s d
  unfolding stack_to
  stack_newest d p = rw p

  pub stack_top : 0 < depth_at shape v s → stack_at shape v s ≡ entry_at shape v (depth_at shape v s - 1) s ∷ stack_to shape v s (depth_at shape v s - 1)
  stack_top h = stack_newest (depth_at shape v s - 1) (omega arith)

  pub newest_some : (n : ℕ) → is_newest n (stack_at shape v s) ≡ true → 0 < depth_at shape v s
  newest_some n p = go (depth_at shape v s) refl
    where
      go : (d : ℕ) → depth_at shape v s ≡ d → 0 < d
      go zero q = absurd (true≢false (sym p ∙ ap (is_newest n) (stack_empty q)))
      go (suc d) q = omega arith

-- states with the same entries have the same stack
same_to : (shape : Shape) (v : ℕ) (s r : List ℕ) (n : ℕ) → ((i : ℕ) → i < n → word_at shape (Stack v i) r ≡ word_at shape (Stack v i) s) → stack_to shape v r n ≡ stack_to shape v s n
unfolding stack_to
same_to shape v s r zero same = refl
same_to shape v s r (suc n) same = λ j. entry_of (same n (omega arith) j) ∷ same_to shape v s r n (λ i b. same i (omega arith)) j

pub stack_same : (shape : Shape) (v : ℕ) (s r : List ℕ) → depth_at shape v s ≤ stack_capacity → word_at shape (Interface v Depth) r ≡ word_at shape (Interface v Depth) s
    → ((i : ℕ) → i < stack_capacity → word_at shape (Stack v i) r ≡ word_at shape (Stack v i) s) → stack_at shape v r ≡ stack_at shape v s
stack_same shape v s r deep depth same = ap (stack_to shape v r) depth ∙ same_to shape v s r (depth_at shape v s) (λ i b. same i (omega arith))

-- a push
module _ (shape : Shape) (v : ℕ) (e : Entry) (s : List ℕ) (h : Served shape v s) (room : depth_at shape v s < stack_capacity) where
  pub pushed_keeps : (Mine : Slot → Type 0) → Mine (Interface v Depth) → Mine (Stack v (depth_at shape v s)) → (P : List ℕ → Type 0) → PutKeeps shape Mine P → P s → P (pushed shape v e s)
  unfolding pushed
  pushed_keeps Mine depth entry P keeps p =
      keeps (Stack v (depth_at shape v s)) (entry_word e) (with_interface shape v Depth (depth_at shape v s + 1) s) (h.exists, room) entry
      (keeps (Interface v Depth) (depth_at shape v s + 1) s h.exists depth p)

  pub pushed_room : Room shape (pushed shape v e s)
  pushed_room = pushed_keeps Anywhere tt tt (Room shape) (room_kept shape Anywhere) h.state

  pub pushed_others : (t : Slot) → Exists shape t → (t ≡ Interface v Depth → ⊥) → (t ≡ Stack v (depth_at shape v s) → ⊥) → word_at shape t (pushed shape v e s) ≡ word_at shape t s
  unfolding pushed
  pushed_others t x no_depth no-entry =
      put_other shape (with_interface shape v Depth (depth_at shape v s + 1) s) t (Stack v (depth_at shape v s)) (entry_word e) x (h.exists, room) no-entry
      ∙ put_other shape s t (Interface v Depth) (depth_at shape v s + 1) x h.exists no_depth

  pub pushed_depth : depth_at shape v (pushed shape v e s) ≡ depth_at shape v s + 1
  unfolding pushed
  pushed_depth =
      put_other shape (with_interface shape v Depth (depth_at shape v s + 1) s) (Interface v Depth) (Stack v (depth_at shape v s)) (entry_word e) h.exists (h.exists, room)
      (kinds_apart (Interface v Depth) (Stack v (depth_at shape v s)) refl)
      ∙ put_same shape s (Interface v Depth) (depth_at shape v s + 1) h.state h.exists

  pub pushed_stack : e.intid.0 < 1024 → e.priority.0 < 256 → stack_at shape v (pushed shape v e s) ≡ e ∷ stack_at shape v s
  unfolding pushed
  pushed_stack a b =
      let d : ℕ = depth_at shape v s in
      let below = with_interface shape v Depth (d + 1) s in
      stack_newest shape v (pushed shape v e s) d (pushed_depth ∙ add-one d)
      ∙ (λ j. entry_same shape below v d e (put_room shape s (Interface v Depth) (d + 1) h.state) (h.exists, room) a b j ∷ rest j)
    where
      rest : stack_to shape v (pushed shape v e s) (depth_at shape v s) ≡ stack_at shape v s
      rest = same_to shape v s (pushed shape v e s) (depth_at shape v s)
          (λ i b. pushed_others (Stack v i) (h.exists, omega arith) (kinds_apart (Stack v i) (Interface v Depth) refl) (λ p. let q : i ≡ depth_at shape v s = cc in omega arith))

-- a pop
below : List Entry → List Entry
below [] = []
below (e ∷ es) = es

module _ (shape : Shape) (v : ℕ) (s : List ℕ) (h : Served shape v s) (some : 0 < depth_at shape v s) where
  pub popped_keeps : (Mine : Slot → Type 0) → Mine (Interface v Depth) → Mine (Stack v (depth_at shape v s - 1)) → (P : List ℕ → Type 0) → PutKeeps shape Mine P → P s → P (popped shape v s)
  unfolding popped
  popped_keeps Mine depth entry P keeps p =
      let deep : depth_at shape v s ≤ stack_capacity = h.deep in
      keeps (Interface v Depth) (depth_at shape v s - 1) (without_entry shape v (depth_at shape v s - 1) s) h.exists depth
      (keeps (Stack v (depth_at shape v s - 1)) 0 s (h.exists, omega arith) entry p)

  pub popped_room : Room shape (popped shape v s)
  popped_room = popped_keeps Anywhere tt tt (Room shape) (room_kept shape Anywhere) h.state

  pub popped_others : (t : Slot) → Exists shape t → (t ≡ Interface v Depth → ⊥) → (t ≡ Stack v (depth_at shape v s - 1) → ⊥) → word_at shape t (popped shape v s) ≡ word_at shape t s
  unfolding popped
  popped_others t x no_depth no-entry =
      let d : ℕ = depth_at shape v s - 1 in
      let deep : depth_at shape v s ≤ stack_capacity = h.deep in
      put_other shape (without_entry shape v d s) t (Interface v Depth) d x h.exists no_depth
      ∙ put_other shape s t (Stack v d) 0 x (h.exists, omega arith) no-entry

  pub popped_depth : depth_at shape v (popped shape v s) ≡ depth_at shape v s - 1
  unfolding popped
  popped_depth =
      let d : ℕ = depth_at shape v s - 1 in
      put_same shape (without_entry shape v d s) (Interface v Depth) d (put_room shape s (Stack v d) 0 h.state) h.exists

  pub popped_served : Served shape v (popped shape v s)
  popped_served = let deep : depth_at shape v s ≤ stack_capacity = h.deep in record { state = popped_room; exists = h.exists; deep = rw popped_depth (omega arith) }

  popped_rest : stack_at shape v (popped shape v s) ≡ stack_to shape v s (depth_at shape v s - 1)
  popped_rest =
      let d : ℕ = depth_at shape v s - 1 in
      let deep : depth_at shape v s ≤ stack_capacity = h.deep in
      ap (stack_to shape v (popped shape v s)) popped_depth
      ∙ same_to shape v s (popped shape v s) d
      (λ i b. popped_others (Stack v i) (h.exists, omega arith) (kinds_apart (Stack v i) (Interface v Depth) refl) (λ p. let q : i ≡ d = cc in omega arith))

  pub popped_stack : (e : Entry) (es : List Entry) → stack_at shape v s ≡ e ∷ es → stack_at shape v (popped shape v s) ≡ es
  unfolding below
  popped_stack e es p = popped_rest ∙ ap below (sym (stack_top shape v s some) ∙ p)
