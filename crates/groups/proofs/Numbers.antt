-- The bytes of a number and of numbers: how they go by the number, and how many they are. Assumes nothing.
use mathlib.Core.Path.{◌≡◌, refl, sym, ap, ◌∙◌}
use mathlib.Core.Bool.{Bool, true, false, cond}
use mathlib.Core.List.{List, [], ◌∷◌, ◌++◌, append_assoc, append-nil}
use Prim.Native.Nat.{ℕ, zero, suc, ◌+◌, ◌*◌, ◌/◌, ◌%◌, ◌^◌, ◌≤◌, ◌<◌}
use native.Mathlib.Nat.{pow-suc}
use native.Mathlib.Omega.{arith}
use lib.Dec.{ltb}
use lib.ListN.{length, length-append}
use borrow.Author.Tests.{lt-ltb, le-ltb, ltb-true, ltb-false}
use Rattle.groups.specs.Groups.{groups_within, groups, spelled}

-- any bound from n up gives the same
any_bound : (k j n : ℕ) → n ≤ k → n ≤ j → groups_within k n ≡ groups_within j n
unfolding groups_within
any_bound zero zero n h g = refl
any_bound zero (suc j) n h g = simp (lt-ltb n 128 (omega arith))
any_bound (suc k) zero n h g = simp (lt-ltb n 128 (omega arith))
any_bound (suc k) (suc j) n h g = go (ltb n 128) refl (any_bound k j (n / 128))
  where
    go : (b : Bool) → ltb n 128 ≡ b → (n / 128 ≤ k → n / 128 ≤ j → groups_within k (n / 128) ≡ groups_within j (n / 128))
        → cond b (n ∷ []) ((128 + n % 128) ∷ groups_within k (n / 128)) ≡ cond b (n ∷ []) ((128 + n % 128) ∷ groups_within j (n / 128))
    go true p rest = refl
    go false p rest = let big = ltb-false n 128 p in ap (λ (x : List ℕ). (128 + n % 128) ∷ x) (rest (omega arith) (omega arith))

pub groups_short : (n : ℕ) → n < 128 → groups n ≡ n ∷ []
unfolding groups groups_within
groups_short zero h = refl
groups_short (suc n) h = simp (lt-ltb (suc n) 128 h)

pub groups_long : (n : ℕ) → 128 ≤ n → groups n ≡ (128 + n % 128) ∷ groups (n / 128)
unfolding groups groups_within
groups_long zero h = absurd (omega arith)
groups_long (suc n) h = simp (le-ltb (suc n) 128 h) (ap (λ (x : List ℕ). (128 + suc n % 128) ∷ x) (any_bound n (suc n / 128) (suc n / 128) (omega arith) (omega arith)))

pub groups_two : (n : ℕ) → 128 ≤ n → n < 16384 → groups n ≡ (128 + n % 128) ∷ n / 128 ∷ []
groups_two n h small = groups_long n h ∙ rw (groups_short (n / 128) (omega arith))

-- a group below a number that is not 0
pub groups_below : (g m : ℕ) → g < 128 → (m ≡ 0 → ⊥) → groups (g + 128 * m) ≡ (128 + g) ∷ groups m
groups_below g m h p =
    let q : (g + 128 * m) % 128 ≡ g = omega arith in
    let r : (g + 128 * m) / 128 ≡ m = omega arith in
    groups_long (g + 128 * m) (omega arith) ∙ rw (q, r)

-- what is above the lowest group has a group less
pub shorter : (n k : ℕ) → n < 128 ^ suc k → n / 128 < 128 ^ k
shorter n k h = let e : 128 ^ suc k ≡ 128 ^ k * 128 = pow-suc 128 k in omega arith

by_size : (A : Type 0) (n : ℕ) → (n < 128 → A) → (128 ≤ n → A) → A
by_size A n short long = go (ltb n 128) refl
  where
    go : (b : Bool) → ltb n 128 ≡ b → A
    go true p = short (ltb-true n 128 p)
    go false p = long (ltb-false n 128 p)

pub groups_some : (n : ℕ) → 0 < length (groups n)
groups_some n = by_size _ n (λ h. rw (groups_short n h) (omega arith)) (λ h. rw (groups_long n h) (omega arith))

pub groups_one : (n : ℕ) → n < 128 → length (groups n) ≡ 1
groups_one n h = rw (groups_short n h)

-- the numbers of the format have at most two groups
pub groups_few : (n : ℕ) → n < 16384 → length (groups n) ≤ 2
groups_few n h = by_size _ n (λ short. rw (groups_short n short) (omega arith)) (λ long. rw (groups_two n long h) (omega arith))

pub spelled_one : (n : ℕ) → spelled (n ∷ []) ≡ groups n
unfolding spelled
spelled_one n = append-nil (groups n)

pub spelled_append : (xs ys : List ℕ) → spelled (xs ++ ys) ≡ spelled xs ++ spelled ys
unfolding spelled
spelled_append [] ys = refl
spelled_append (x ∷ xs) ys = rw (spelled_append xs ys) (sym (append_assoc (groups x) (spelled xs) (spelled ys)))

abbrev pub AllSmall : List ℕ → Type 0
AllSmall [] = Unit {0}
AllSmall (n ∷ ns) = (n < 16384) × AllSmall ns

pub small_append : (xs ys : List ℕ) → AllSmall xs → AllSmall ys → AllSmall (xs ++ ys)
small_append [] ys h g = g
small_append (x ∷ xs) ys h g = (h.0, small_append xs ys h.1 g)

pub spelled_few : (ns : List ℕ) → AllSmall ns → length (spelled ns) ≤ 2 * length ns
unfolding spelled
spelled_few [] h = omega arith
spelled_few (n ∷ ns) h =
    let one = groups_few n h.0 in
    let rest = spelled_few ns h.1 in
    rw length-append (omega arith)
