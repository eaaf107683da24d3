-- The slots of an interrupt's number, as one vCPU meets them: its record, and of an SGI its source set. Every register's write is a chain of
-- steps on one number each (`Steps`). Assumes nothing.
use mathlib.Core.Path.{◌≡◌, refl, sym, ◌∙◌, subst}
use mathlib.Core.Bool.{Bool, true, false, cond}
use mathlib.Core.List.{List}
use mathlib.Core.Logic.{◌⊎◌, inl, inr}
use Prim.Native.Nat.{ℕ, ◌+◌, ◌<◌}
use native.Mathlib.Omega.{arith}
use borrow.Author.Tests.{lt-ltb}
use Rattle.word.proofs.Cases.{same_or}
use Rattle.state.specs.declared.layout.Shape.{Shape}
use Rattle.state.specs.Layout.{Slot, Sources, Private, Exists, Room}
use Rattle.state.specs.Loop.{up_to}
use Rattle.state.specs.Words.{word_at, put, record_slot}
use Rattle.state.proofs.Accessors.{put_room, put_same, put_other, same_or_other, records_apart, record_no_sources}
use Rattle.state.proofs.Steps.{View, LocalIn, slots, Agree, Local, steps_own, steps_others}

abbrev pub Of : ℕ → ℕ → Slot → Type 0
Of v n t = (t ≡ record_slot v n) ⊎ (t ≡ Sources v n)

-- a slot has one number
pub one_number : (v n m : ℕ) (t : Slot) → Of v n t → Of v m t → (n ≡ m → ⊥) → ⊥
one_number v n m t (inl p) (inl q) d = records_apart v v n m d (sym p ∙ q)
one_number v n m t (inl p) (inr q) d = record_no_sources v n v m (sym p ∙ q)
one_number v n m t (inr p) (inl q) d = record_no_sources v m v n (sym q ∙ p)
one_number v n m t (inr p) (inr q) d = d (cc)

-- below 32 a slot has one vCPU
pub one_vcpu : (v u n : ℕ) (t : Slot) → n < 32 → Of v n t → Of u n t → v ≡ u
unfolding record_slot
one_vcpu v u n t h = simp (lt-ltb n 32 h) go
  where
    go : (t ≡ Private v n) ⊎ (t ≡ Sources v n) → (t ≡ Private u n) ⊎ (t ≡ Sources u n) → v ≡ u
    go (inl p) (inl q) = cc
    go (inl p) (inr q) = cc
    go (inr p) (inl q) = cc
    go (inr p) (inr q) = cc

-- two steps, or one of two
pub then_local : {view : View} {Mine : view.Thing → Type 0} {f g : List ℕ → List ℕ} → LocalIn view Mine f → LocalIn view Mine g → LocalIn view Mine (λ s. g (f s))
then_local {f = f} lf lg = record {
  room = λ s h. lg.room (f s) (lf.room s h);
  others = λ s h t e away. lg.others (f s) (lf.room s h) t e away ∙ lf.others s h t e away;
  own = λ s r hs hr a. lg.own (f s) (f r) (lf.room s hs) (lf.room r hr) (lf.own s r hs hr a);
}

pub if_local : {view : View} {Mine : view.Thing → Type 0} {f : List ℕ → List ℕ} (b : Bool) → (b ≡ true → LocalIn view Mine f) → LocalIn view Mine (λ s. cond b (f s) s)
if_local true l = l refl
if_local false l = record { room = λ s h. h; others = λ s h t e away. refl; own = λ s r hs hr a. a }

pub unless_local : {view : View} {Mine : view.Thing → Type 0} {f : List ℕ → List ℕ} (b : Bool) → LocalIn view Mine f → LocalIn view Mine (λ s. cond b s (f s))
unless_local true l = record { room = λ s h. h; others = λ s h t e away. refl; own = λ s r hs hr a. a }
unless_local false l = l

-- a word put at a slot of the number, made from the words of its slots
pub put_local : (shape : Shape) (Mine : Slot → Type 0) (u : Slot) (w : List ℕ → ℕ) → Exists shape u → Mine u
    → ((s r : List ℕ) → Agree shape Mine s r → w s ≡ w r) → Local shape Mine (λ s. put shape u (w s) s)
put_local shape Mine u w eu mu same = record {
  room = λ s h. put_room shape s u (w s) h;
  others = λ s h t e away. put_other shape s t u (w s) e eu (λ p. away (subst Mine (sym p) mu));
  own = λ s r hs hr a. record {
    agree = λ t e m. same_or_other shape s t u e eu
        (λ p. rw p (put_same shape s u (w s) hs eu ∙ same s r a ∙ sym (put_same shape r u (w r) hr eu)))
        (λ away. put_other shape s t u (w s) e eu away ∙ a.agree t e m ∙ sym (put_other shape r t u (w r) e eu away));
  };
}

-- the numbers from `first` up have slots of their own
pub numbers_apart : (v first i j : ℕ) (t : Slot) → Of v (first + i) t → Of v (first + j) t → i ≡ j
numbers_apart v first i j t a b = same_or i j (λ e. e) (λ d. absurd (one_number v (first + i) (first + j) t a b (λ p. d (omega arith))))

-- steps on the numbers from `first` up: each does to its number what it alone would do, and no other slot changes
module _ (shape : Shape) (v first n : ℕ) (f : ℕ → List ℕ → List ℕ) (s : List ℕ) (steps : (i : ℕ) → i < n → Local shape (Of v (first + i)) (f i)) where
  pub run_written : Room shape s → (i : ℕ) → i < n → Agree shape (Of v (first + i)) (up_to f n s) (f i s)
  run_written h i b = steps_own (slots shape) (λ j. Of v (first + j)) f (numbers_apart v first) n s steps h i b

  pub run_others : Room shape s → (t : Slot) → Exists shape t → ((i : ℕ) → i < n → Of v (first + i) t → ⊥) → word_at shape t (up_to f n s) ≡ word_at shape t s
  run_others h t e away = steps_others (slots shape) (λ j. Of v (first + j)) f n s steps h t e away
