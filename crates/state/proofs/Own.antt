-- Steps that have slots of their own: whoever leaves these alone may come before such a step or after it, words and summary alike. So two steps
-- without a common slot may change places, and so may two runs of them; and a run after a run is one run where each step after its like is one step.
-- In any words that hold a state. Assumes nothing.
use mathlib.Core.Path.{◌≡◌, refl, sym, ap, subst, ◌∙◌}
use mathlib.Core.Bool.{Bool, true, false, cond}
use mathlib.Core.List.{List}
use mathlib.Core.Logic.{inl}
use Prim.Native.Nat.{ℕ, zero, suc, ◌<◌}
use native.Mathlib.Omega.{arith}
use Rattle.interrupt.specs.declared.record.InterruptRecord.{InterruptRecord}
use Rattle.word.specs.Word.{record_of, word_of}
use Rattle.state.specs.declared.layout.Shape.{Shape}
use Rattle.state.specs.Layout.{Slot, Exists, Room}
use Rattle.state.specs.Loop.{up_to}
use Rattle.state.specs.Words.{word_at, put, record_slot, record_at, changed}
use Rattle.state.proofs.Accessors.{put_room, put_other}
use Rattle.state.proofs.Numbers.{Of, then_local, if_local, unless_local, put_local}
use Rattle.state.proofs.Ready.{put_comm}
use Rattle.state.proofs.Steps.{slots, Agree, Local, steps_room, before_last}

-- a step that leaves some slots alone: it keeps their words, and these may be written before it or after
pub record Leaves (shape : Shape) (Mine : Slot → Type 0) (f : List ℕ → List ℕ) : Type 0 where
  pub room : (s : List ℕ) → Room shape s → Room shape (f s)
  pub stays : (s : List ℕ) → Room shape s → (t : Slot) → Exists shape t → Mine t → word_at shape t (f s) ≡ word_at shape t s
  pub around : (s : List ℕ) → Room shape s → (t : Slot) (w : ℕ) → Exists shape t → Mine t → put shape t w (f s) ≡ f (put shape t w s)

-- a step with slots of its own
pub record Own (shape : Shape) (Mine : Slot → Type 0) (g : List ℕ → List ℕ) : Type 0 where
  pub local : Local shape Mine g
  pub through : (f : List ℕ → List ℕ) → Leaves shape Mine f → (s : List ℕ) → Room shape s → g (f s) ≡ f (g s)

-- what steps are made of: a word put at a slot of its own; one step and then another; a step or none
module _ (shape : Shape) (Mine : Slot → Type 0) where
  pub put_own : (u : Slot) (w : List ℕ → ℕ) → Exists shape u → Mine u → ((s r : List ℕ) → Agree shape Mine s r → w s ≡ w r) → Own shape Mine (λ s. put shape u (w s) s)
  put_own u w eu mu same = record {
    local = put_local shape Mine u w eu mu same;
    through = λ f l s h. ap (λ (x : ℕ). put shape u x (f s)) (same (f s) s (record { agree = λ t e m. l.stays s h t e m })) ∙ l.around s h u (w s) eu mu;
  }

  pub then_own : {f g : List ℕ → List ℕ} → Own shape Mine f → Own shape Mine g → Own shape Mine (λ s. g (f s))
  then_own {f} {g} of og = record {
    local = then_local of.local og.local;
    through = λ k l s h. ap g (of.through k l s h) ∙ og.through k l (f s) (of.local.room s h);
  }

  pub if_own : {f : List ℕ → List ℕ} (b : Bool) → (b ≡ true → Own shape Mine f) → Own shape Mine (λ s. cond b (f s) s)
  if_own true o = o refl
  if_own false o = record { local = if_local false (λ e. (o e).local); through = λ k l s h. refl }

  pub unless_own : {f : List ℕ → List ℕ} (b : Bool) → Own shape Mine f → Own shape Mine (λ s. cond b s (f s))
  unless_own true o = record { local = unless_local true o.local; through = λ k l s h. refl }
  unless_own false o = o

pub changed_own : (shape : Shape) (v n : ℕ) (f : InterruptRecord → InterruptRecord) → Exists shape (record_slot v n) → Own shape (Of v n) (changed shape v n f)
changed_own shape v n f e =
    put_own shape (Of v n) (record_slot v n) (λ s. word_of (f (record_at shape v n s))) e (inl refl)
    (λ s r a. ap (λ (w : ℕ). word_of (f (record_of w))) (a.agree (record_slot v n) e (inl refl)))

-- two steps without a common slot
module _ (shape : Shape) (Mine Yours : Slot → Type 0) (f g : List ℕ → List ℕ) (of : Own shape Mine f) (og : Own shape Yours g) (apart : (t : Slot) → Mine t → Yours t → ⊥) where
  other_put : (t : Slot) (w : ℕ) → Exists shape t → Yours t → Leaves shape Mine (put shape t w)
  other_put t w e y = record {
    room = λ s h. put_room shape s t w h;
    stays = λ s h u eu m. put_other shape s u t w eu e (λ p. apart u m (subst Yours (sym p) y));
    around = λ s h u x eu m. put_comm shape s h t u w x e eu (λ p. apart t (subst Mine (sym p) m) y);
  }

  leaves : Leaves shape Yours f
  leaves = record {
    room = of.local.room;
    stays = λ s h t e y. of.local.others s h t e (λ m. apart t m y);
    around = λ s h t w e y. sym (of.through (put shape t w) (other_put t w e y) s h);
  }

  pub apart_comm : (s : List ℕ) → Room shape s → g (f s) ≡ f (g s)
  apart_comm s h = og.through f leaves s h

-- a step that may change places with each step of a run may do so with the run
pub up_through : (shape : Shape) (f : ℕ → List ℕ → List ℕ) (g : List ℕ → List ℕ) (n : ℕ) → ((i : ℕ) → i < n → (s : List ℕ) → Room shape s → Room shape (f i s))
    → ((i : ℕ) → i < n → (s : List ℕ) → Room shape s → g (f i s) ≡ f i (g s)) → (s : List ℕ) → Room shape s → (g (up_to f n s) ≡ up_to f n (g s)) × Room shape (up_to f n s)
unfolding up_to
up_through shape f g zero room comm s h = (refl, h)
up_through shape f g (suc n) room comm s h =
    let before = up_through shape f g n (λ i b. room i (omega arith)) (λ i b. comm i (omega arith)) s h in
    (comm n (omega arith) (up_to f n s) before.1 ∙ ap (f n) before.0, room n (omega arith) (up_to f n s) before.1)

-- and so may two runs
pub runs_comm : (shape : Shape) (f g : ℕ → List ℕ → List ℕ) (n m : ℕ) → ((i : ℕ) → i < n → (s : List ℕ) → Room shape s → Room shape (f i s))
    → ((j : ℕ) → j < m → (s : List ℕ) → Room shape s → Room shape (g j s))
    → ((i j : ℕ) → i < n → j < m → (s : List ℕ) → Room shape s → g j (f i s) ≡ f i (g j s)) → (s : List ℕ) → Room shape s → up_to g m (up_to f n s) ≡ up_to f n (up_to g m s)
runs_comm shape f g n m fr gr comm s h =
    (up_through shape f (up_to g m) n fr (λ i b r k. sym (up_through shape g (f i) m gr (λ j c q l. sym (comm i j b c q l)) r k).0) s h).0

-- a run of f and then one of g on the same slots is a run of k, where at each place the two steps are the one; what the start has at these slots may be
-- counted on
module _ (shape : Shape) (Mine : ℕ → Slot → Type 0) (apart : (i j : ℕ) (t : Slot) → Mine i t → Mine j t → i ≡ j) (f g k : ℕ → List ℕ → List ℕ) (s : List ℕ) (h : Room shape s) where
  pub runs_merge : (n : ℕ) → ((i : ℕ) → i < n → Own shape (Mine i) (f i)) → ((i : ℕ) → i < n → Own shape (Mine i) (g i)) → ((i : ℕ) → i < n → Own shape (Mine i) (k i))
      → ((i : ℕ) → i < n → (r : List ℕ) → Room shape r → Agree shape (Mine i) r s → g i (f i r) ≡ k i r) → up_to g n (up_to f n s) ≡ up_to k n s
  unfolding up_to
  runs_merge zero of og ok same = refl
  runs_merge (suc n) of og ok same =
      ap (g n) (sym (up_through shape g (f n) n (λ j c. (og j (omega arith)).local.room) past (up_to f n s) (steps_room (slots shape) Mine f n s (λ i b. (of i (omega arith)).local) h)).0)
      ∙ ap (λ (r : List ℕ). g n (f n r)) (runs_merge n (λ i b. of i (omega arith)) (λ i b. og i (omega arith)) (λ i b. ok i (omega arith)) (λ i b. same i (omega arith)))
      ∙ same n (omega arith) (up_to k n s) (steps_room (slots shape) Mine k n s (λ i b. (ok i (omega arith)).local) h)
      (before_last (slots shape) Mine k apart n s (λ i b. (ok i (omega arith)).local) h)
    where
      past : (j : ℕ) → j < n → (r : List ℕ) → Room shape r → f n (g j r) ≡ g j (f n r)
      past j c r l =
          apart_comm shape (Mine j) (Mine n) (g j) (f n) (og j (omega arith)) (of n (omega arith)) (λ t mj mn. let p : j ≡ n = apart j n t mj mn in omega arith) r l
