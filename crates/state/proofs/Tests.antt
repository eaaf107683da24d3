-- Tests taken together. Assumes nothing.
use Rattle.std.specs.Prelude.{cond, Some, None}
use Rattle.std.specs.Bool.{then_some}
use mathlib.Core.Path.{◌≡◌, refl, sym, ◌∙◌}
use mathlib.Core.Bool.{Bool, true, false, not, ◌&&◌, true≢false, false≢true}
use Prim.Native.Nat.{ℕ, zero, suc, ◌≤◌, ◌<◌}
use native.Mathlib.Nat.{not-suc-le-zero}
use native.Mathlib.Omega.{arith}
use lib.Dec.{ltb}
use borrow.Author.Tests.{ltb-false}
use Rattle.word.proofs.Cases.{last_or}
use Rattle.state.specs.Loop.{every_below}

pub left_true : (a b : Bool) → (a && b) ≡ true → a ≡ true
left_true true b e = refl
left_true false b e = absurd (false≢true e)

pub right_true : (a b : Bool) → (a && b) ≡ true → b ≡ true
right_true true b e = e
right_true false b e = absurd (false≢true e)

-- a number that is not below k
pub not_below : (n k : ℕ) → not (ltb n k) ≡ true → k ≤ n
not_below n k = go (ltb n k) refl
  where
    go : (b : Bool) → ltb n k ≡ b → not b ≡ true → k ≤ n
    go true p e = absurd (false≢true e)
    go false p e = ltb-false n k p

-- all pass: each does; one fails: not all pass
pub every_at : (f : ℕ → Bool) (n i : ℕ) → every_below f n ≡ true → i < n → f i ≡ true
unfolding every_below
every_at f zero i e h = absurd (not-suc-le-zero h)
every_at f (suc n) i e h =
    last_or i n h (λ p. rw p (right_true (every_below f n) (f n) e)) (λ below. every_at f n i (left_true (every_below f n) (f n) e) below)

pub every_fails : (f : ℕ → Bool) (n i : ℕ) → f i ≡ false → i < n → every_below f n ≡ false
every_fails f n i e h = go (every_below f n) refl
  where
    go : (b : Bool) → every_below f n ≡ b → b ≡ false
    go true p = absurd (true≢false (sym (every_at f n i p h) ∙ e))
    go false p = refl

pub every_true : (f : ℕ → Bool) (n : ℕ) → ((i : ℕ) → i < n → f i ≡ true) → every_below f n ≡ true
unfolding every_below
every_true f zero h = refl
every_true f (suc n) h = simp (every_true f n (λ i b. h i (omega arith)), h n (omega arith))

-- a value where a test passes, by cases of the test
pub then_some_cond : {T : Type 0} (b : Bool) (x : T) → then_some b x ≡ cond b (Some x) None
then_some_cond true x = refl
then_some_cond false x = refl
