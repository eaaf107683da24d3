-- The lowest source: a set bit, and none below it is set. Assumes nothing.
use mathlib.Core.Path.{◌≡◌, refl, sym, ◌∙◌}
use mathlib.Core.Bool.{Bool, true, false, cond, true≢false}
use Prim.Native.Nat.{ℕ, zero, suc, ◌+◌, ◌/◌, ◌%◌, ◌^◌, ◌≤◌, ◌<◌}
use native.Mathlib.Omega.{arith}
use mir.Syntax.{w8}
use lib.Dec.{eqb}
use borrow.Author.Tests.{eq-eqb, eqb-true}
use Rattle.std.specs.Int.{trailing_zeros}
use Rattle.std.proofs.lemmas.Nat.Bits.{bit_at-trailing_zeros}
use Rattle.word.proofs.Cases.{same_or}
use Rattle.acknowledge.specs.Acknowledge.{lowest_from, lowest_source}

-- bit i of x
abbrev bit : ℕ → ℕ → Bool
bit i x = eqb (x / 2 ^ i % 2) 1

-- what is found is set, and no set bit is below it
module _ (x j : ℕ) (one : bit j x ≡ true) where
  found : (k i : ℕ) → i ≤ j → j < i + k → (bit (lowest_from k i x) x ≡ true) × (lowest_from k i x ≤ j)
  unfolding lowest_from
  found zero i a b = absurd (too_far a b)
    where
      too_far : i ≤ j → j < i + 0 → ⊥
      too_far a b = omega arith
  found (suc k) i a b = go (bit i x) refl (λ c. found k (suc i) c (omega arith))
    where
      go : (q : Bool) → bit i x ≡ q → (suc i ≤ j → (bit (lowest_from k (suc i) x) x ≡ true) × (lowest_from k (suc i) x ≤ j))
          → (bit (cond q i (lowest_from k (suc i) x)) x ≡ true) × (cond q i (lowest_from k (suc i) x) ≤ j)
      go true p later = (p, a)
      go false p later = later (same_or i j (λ e. absurd (true≢false (sym one ∙ rw (← e) p))) (λ d. omega arith))

  pub lowest_is : j < 8 → (bit (lowest_source x) x ≡ true) × (lowest_source x ≤ j)
  lowest_is h = found 8 0 (omega arith) (omega arith)

-- so it is the count of the zeros below the lowest 1
pub lowest_counted : (x : ℕ) → 0 < x → x < 2 ^ 8 → (trailing_zeros w8 x ≡ lowest_source x) × (trailing_zeros w8 x < 8)
lowest_counted x some small = (same_or j low (λ e. e) (λ apart. absurd (no_lower (omega (arith, is.1)))), counted.0)
  where
    j : ℕ
    j = trailing_zeros w8 x

    low : ℕ
    low = lowest_source x

    counted : (j < 8) × (x / 2 ^ j % 2 ≡ 1) × ((i : ℕ) → i < j → x / 2 ^ i % 2 ≡ 0)
    counted = bit_at-trailing_zeros w8 x some small

    is : (bit low x ≡ true) × (low ≤ j)
    is = lowest_is x j (eq-eqb (x / 2 ^ j % 2) 1 counted.1) counted.0

    no_lower : low < j → ⊥
    no_lower h = let one : x / 2 ^ low % 2 ≡ 1 = eqb-true (x / 2 ^ low % 2) 1 is.0 in omega (arith, counted.2 low h)
