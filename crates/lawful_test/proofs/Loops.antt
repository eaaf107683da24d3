-- A loop that tests one number after another and leaves at the first that fails. Assumes nothing.
use mathlib.Core.Path.{◌≡◌, refl, sym, ap, ◌∙◌}
use mathlib.Core.Bool.{Bool, true, false, not, ◌&&◌, and-true}
use Prim.Native.Nat.{ℕ, zero, suc, ◌+◌, ◌-◌, ◌<◌}
use native.Mathlib.Nat.{zero-add, add-zero, add-suc}
use native.Mathlib.Numerals.{add-one}
use native.Mathlib.Omega.{arith}
use borrow.Author.Tests.{not-true, not-false}
use denote.Param.Members.{Mut}
use Rattle.std.specs.declared.ops.Range.{Range}
use Rattle.std.specs.Fn.{Called}
use Rattle.std.specs.Iterator.{ChecksAll}
use Rattle.std.specs.List.{list_all, range_with_len}
use Rattle.std.proofs.Common.{add_assoc}
use Rattle.std.proofs.iter.Yields.{nat_range_steps}
use Rattle.std.proofs.lemmas.Iterator.{YieldsList-from_range}
use Rattle.std.proofs.lemmas.Iterator.Search.{all_from_yields_List}
use Rattle.state.specs.Loop.{every_below}
use Rattle.state.proofs.Tests.{every_fails}

and_assoc : (a b c : Bool) → ((a && b) && c) ≡ (a && (b && c))
and_assoc true b c = refl
and_assoc false b c = refl

module _ (f : ℕ → Bool) (i : ℕ) (tested : Bool) (same : tested ≡ f i) where
  pub goes_on : every_below f i ≡ true → not tested ≡ false → every_below f (i + 1) ≡ true
  unfolding every_below
  goes_on so_far e = rw add-one (simp (so_far, sym same ∙ not-false tested e))

  pub leaves : (n : ℕ) → i < n → not tested ≡ true → false ≡ every_below f n
  leaves n b e = sym (every_fails f n i (sym same ∙ not-true tested e) b)

-- a and then b of them
pub every_plus : (f : ℕ → Bool) (a b : ℕ) → every_below f (a + b) ≡ (every_below f a && every_below (λ k. f (a + k)) b)
unfolding every_below
every_plus f a zero = rw (add-zero, and-true)
every_plus f a (suc b) = rw (add-suc, every_plus f a b) (and_assoc (every_below f a) _ (f (a + b)))

every_same : (f g : ℕ → Bool) (n : ℕ) → ((i : ℕ) → f i ≡ g i) → every_below f n ≡ every_below g n
unfolding every_below
every_same f g zero same = refl
every_same f g (suc n) same = rw (every_same f g n same, same n)

-- a vCPU's own: the SGIs and the PPIs
pub every_own : (f : ℕ → Bool) → every_below (λ k. f (0 + k)) 32 ≡ (every_below f 16 && every_below (λ k. f (16 + k)) 16)
every_own f = every_same (λ k. f (0 + k)) f 32 (λ i. rw zero-add) ∙ every_plus f 16 16

all_from : (f : ℕ → Bool) (a n : ℕ) → list_all f (range_with_len a n) ≡ every_below (λ k. f (a + k)) n
unfolding every_below
all_from f a zero = refl
all_from f a (suc n) =
    let rest = all_from f (a + 1) n ∙ every_same (λ k. f (a + 1 + k)) (λ k. f (a + (1 + k))) n (λ k. ap f (add_assoc a 1 k)) in
    let e : 1 + n ≡ suc n = omega arith in
    rw rest (rw add-zero at (sym (every_plus (λ k. f (a + k)) 1 n)) ∙ ap (every_below (λ k. f (a + k))) e)

-- `all` over the n numbers from a up, with a closure that answers as f does
module _ {F : Type 0} {g : Mut F (ℕ × Unit {0}) Bool} {s u : Range ℕ} {test : F} {r : Bool} (f : ℕ → Bool) (said : (x : ℕ) (b : Bool) (q : F) → Called g test (x, tt) b q → (q ≡ test) × (b ≡ f x)) where
  pub all_numbers : (a b n : ℕ) → ChecksAll nat_range_steps g s test r u → s ≡ record { start = a; end = b } → b - a ≡ n → r ≡ every_below (λ k. f (a + k)) n
  all_numbers a b n ran run many = all_from_yields_List f u test r ran (YieldsList-from_range a b n run many) said ∙ all_from f a n

  pub all_below : (n : ℕ) → ChecksAll nat_range_steps g s test r u → s ≡ record { start = 0; end = n } → r ≡ every_below f n
  all_below n ran run = all_numbers 0 n n ran run (omega arith) ∙ every_same (λ k. f (0 + k)) f n (λ k. rw zero-add)
