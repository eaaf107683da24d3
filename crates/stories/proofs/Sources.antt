-- Two source bits of eight: the lower is taken first, then the higher, then none is left. Computed for all pairs. Assumes nothing.
use mathlib.Core.Path.{◌≡◌, refl}
use mathlib.Core.Bool.{Bool, true, false, ◌&&◌, ◌||◌}
use Prim.Native.Nat.{ℕ, ◌^◌, ◌<◌}
use lib.Bits.{bit_or}
use lib.Dec.{eqb}
use borrow.Author.Tests.{eqb-true, ne_eqb}
use Rattle.state.specs.Loop.{every_below}
use Rattle.state.proofs.Tests.{left_true, right_true, every_at}
use Rattle.sgi.specs.Sgi.{merged_sources}
use Rattle.acknowledge.specs.Acknowledge.{lowest_from, lowest_source}
use Rattle.stories.specs.Stories.{lower, higher}

-- the set after both have rung
abbrev pub pair : ℕ → ℕ → ℕ
pair x y = bit_or (bit_or 0 (2 ^ x)) (2 ^ y)

abbrev lower_first : ℕ → ℕ → Bool
lower_first x y = eqb (lowest_source (pair x y)) (lower x y)

abbrev higher_left : ℕ → ℕ → Bool
higher_left x y = eqb (merged_sources false (pair x y) (2 ^ lower x y)) (2 ^ higher x y)

abbrev taken : ℕ → ℕ → Bool
taken x y = eqb x y || (lower_first x y && higher_left x y)

abbrev found : ℕ → Bool
found h = eqb (lowest_source (2 ^ h)) h

abbrev emptied : ℕ → Bool
emptied h = eqb (merged_sources false (2 ^ h) (2 ^ h)) 0

abbrev last : ℕ → Bool
last h = found h && emptied h

all_taken : every_below (λ x. every_below (taken x) 8) 8 ≡ true
unfolding every_below lowest_from
all_taken = refl

all_last : every_below last 8 ≡ true
unfolding every_below lowest_from
all_last = refl

module _ (x y : ℕ) (a : x < 8) (b : y < 8) (apart : x ≡ y → ⊥) where
  both : (lower_first x y && higher_left x y) ≡ true
  both = simp (ne_eqb x y apart) at (every_at (taken x) 8 y (every_at (λ i. every_below (taken i) 8) 8 x all_taken a) b)

  pub lower_first_lem : lowest_source (pair x y) ≡ lower x y
  lower_first_lem = eqb-true (lowest_source (pair x y)) (lower x y) (left_true (lower_first x y) (higher_left x y) both)

  pub higher_left_lem : merged_sources false (pair x y) (2 ^ lower x y) ≡ 2 ^ higher x y
  higher_left_lem = eqb-true (merged_sources false (pair x y) (2 ^ lower x y)) (2 ^ higher x y) (right_true (lower_first x y) (higher_left x y) both)

module _ (h : ℕ) (b : h < 8) where
  pub only_source : lowest_source (2 ^ h) ≡ h
  only_source = eqb-true (lowest_source (2 ^ h)) h (left_true (found h) (emptied h) (every_at last 8 h all_last b))

  pub none_left : merged_sources false (2 ^ h) (2 ^ h) ≡ 0
  none_left = eqb-true (merged_sources false (2 ^ h) (2 ^ h)) 0 (right_true (found h) (emptied h) (every_at last 8 h all_last b))
