-- What grouping keeps, under any binary point: it raises no priority, keeps their order, and leaves none odd. Assumes nothing.
use mathlib.Core.Path.{◌≡◌, refl, ap, sym, subst, ◌∙◌}
use mathlib.Core.Bool.{Bool, true, false}
use Prim.Native.Nat.{ℕ, zero, suc, ◌+◌, ◌*◌, ◌-◌, ◌/◌, ◌%◌, ◌^◌, ◌≤◌, ◌<◌}
use native.Mathlib.Nat.{one-mul, div-mul-le_self, div-div-eq-div-mul, mul_assoc, mul_comm, mul-le-mul_right, mul-mod_left, pow-suc}
use native.Mathlib.Numerals.{add-one}
use native.Mathlib.Omega.{arith}
use lib.Dec.{ltb}
use lib.Pow.{pow-add, pow_mono, shl_exact, shl-shr, shr_le, shr_mono}
use borrow.Author.Tests.{ltb-true, ltb-false}
use Rattle.acknowledge.specs.Acknowledge.{group_priority}
use Rattle.acknowledge.specs.Bound.{rounded_up}

module _ (b : ℕ) where
  pub group_at_most : (p : ℕ) → group_priority b p ≤ p
  unfolding group_priority
  group_at_most p = div-mul-le_self p (2 ^ (b + 1))

  pub group_in_order : (p q : ℕ) → p ≤ q → group_priority b p ≤ group_priority b q
  unfolding group_priority
  group_in_order p q h = mul-le-mul_right (2 ^ (b + 1)) (shr_mono (b + 1) h)

  pub group_even : (p : ℕ) → group_priority b p % 2 ≡ 0
  unfolding group_priority
  group_even p =
      let high = p / 2 ^ (b + 1) in
      ap (λ (m : ℕ). high * m % 2) (ap (λ (k : ℕ). 2 ^ k) (add-one b) ∙ pow-suc 2 b)
      ∙ ap (λ (x : ℕ). x % 2) (sym (mul_assoc high (2 ^ b) 2))
      ∙ mul-mod_left (high * 2 ^ b) 2

-- the shifts that form it lose nothing of a byte
pub group_shifted : (b p : ℕ) → b < 8 → p < 256 → p / 2 ^ (b + 1) * 2 ^ (b + 1) % 2 ^ 32 ≡ group_priority b p
unfolding group_priority
group_shifted b p few byte = shl_exact 8 (b + 1) 32 (omega (arith, shr_le p (b + 1), byte)) (omega arith)

-- by a smaller binary point it is as large or larger
pub group_coarser : (b c p : ℕ) → c ≤ b → group_priority b p ≤ group_priority c p
unfolding group_priority
group_coarser b c p less =
    let m : ℕ = 2 ^ (c + 1) in
    let n : ℕ = 2 ^ (b - c) in
    let whole : 2 ^ (b + 1) ≡ m * n = ap (λ (k : ℕ). 2 ^ k) (omega (arith, less)) ∙ pow-add 2 (c + 1) (b - c) in
    subst (λ (k : ℕ). p / k * k ≤ p / m * m) (sym whole)
    (subst (λ (k : ℕ). k ≤ p / m * m) (λ i. div-div-eq-div-mul p m n i * mul_comm n m i)
    (subst (λ (k : ℕ). k ≤ p / m * m) (mul_assoc (p / m / n) n m) (mul-le-mul_right m (div-mul-le_self (p / m) n))))

-- a priority of a smaller group lies below the larger group
pub group_below : (b p q : ℕ) → group_priority b p < group_priority b q → p < group_priority b q
group_below b p q less = go (ltb p (group_priority b q)) refl
  where
    again : group_priority b (group_priority b q) ≡ group_priority b q
    again = unfold group_priority in ap (λ (x : ℕ). x * 2 ^ (b + 1)) (shl-shr (q / 2 ^ (b + 1)) (b + 1))

    go : (c : Bool) → ltb p (group_priority b q) ≡ c → p < group_priority b q
    go true e = ltb-true p (group_priority b q) e
    go false e = absurd (omega (arith, less, again, group_in_order b (group_priority b q) p (ltb-false p (group_priority b q) e)))

-- what runs, rounded up: below it are just the priorities whose group is below what runs
same_test : (a b c d : ℕ) → (a < b → c < d) → (c < d → a < b) → ltb a b ≡ ltb c d
same_test a b c d there back = go (ltb a b) (ltb c d) refl refl
  where
    go : (x y : Bool) → ltb a b ≡ x → ltb c d ≡ y → x ≡ y
    go true true p q = refl
    go false false p q = refl
    go true false p q = let h = there (ltb-true a b p) in let k = ltb-false c d q in absurd (omega arith)
    go false true p q = let h = back (ltb-true c d q) in let k = ltb-false a b p in absurd (omega arith)

pub bound_preempts : (b p r : ℕ) → b < 8 → ltb p (rounded_up b r) ≡ ltb (group_priority b p) r
unfolding rounded_up group_priority
bound_preempts zero p r h = same_test p ((r + 1) / 2 * 2) (p / 2 * 2) r (λ a. omega arith) (λ a. omega arith)
bound_preempts (suc zero) p r h = same_test p ((r + 3) / 4 * 4) (p / 4 * 4) r (λ a. omega arith) (λ a. omega arith)
bound_preempts (suc (suc zero)) p r h = same_test p ((r + 7) / 8 * 8) (p / 8 * 8) r (λ a. omega arith) (λ a. omega arith)
bound_preempts (suc (suc (suc zero))) p r h = same_test p ((r + 15) / 16 * 16) (p / 16 * 16) r (λ a. omega arith) (λ a. omega arith)
bound_preempts (suc (suc (suc (suc zero)))) p r h = same_test p ((r + 31) / 32 * 32) (p / 32 * 32) r (λ a. omega arith) (λ a. omega arith)
bound_preempts (suc (suc (suc (suc (suc zero))))) p r h = same_test p ((r + 63) / 64 * 64) (p / 64 * 64) r (λ a. omega arith) (λ a. omega arith)
bound_preempts (suc (suc (suc (suc (suc (suc zero)))))) p r h = same_test p ((r + 127) / 128 * 128) (p / 128 * 128) r (λ a. omega arith) (λ a. omega arith)
bound_preempts (suc (suc (suc (suc (suc (suc (suc zero))))))) p r h = same_test p ((r + 255) / 256 * 256) (p / 256 * 256) r (λ a. omega arith) (λ a. omega arith)
bound_preempts (suc (suc (suc (suc (suc (suc (suc (suc b)))))))) p r h = absurd (omega arith)

-- a group is of 2 to 256 priorities
group_size : (b : ℕ) → b < 8 → (2 ≤ 2 ^ (b + 1)) × (2 ^ (b + 1) ≤ 256)
group_size b h = (pow_mono {i = 1} {j = b + 1} (omega arith), pow_mono {i = b + 1} {j = 8} (omega arith))

pub bound_small : (b r : ℕ) → b < 8 → r < 256 → rounded_up b r < 1024
unfolding rounded_up
bound_small b r h k =
    let d = div-mul-le_self (r + (2 ^ (b + 1) - 1)) (2 ^ (b + 1)) in
    let m = group_size b h in
    omega (arith, d, m.1)

-- how the code makes it
pub one_group : (b : ℕ) → b < 8 → (1 * 2 ^ (b + 1)) % 2 ^ 32 ≡ 2 ^ (b + 1)
one_group b h = shl_exact {a = 1} 1 (b + 1) 32 (omega arith) (omega arith) ∙ one-mul (2 ^ (b + 1))

pub some_group : (b : ℕ) → b < 8 → 1 ≤ (1 * 2 ^ (b + 1)) % 2 ^ 32
some_group b h = let m = group_size b h in rw (one_group b h) (omega (arith, m.0))

pub rest_small : (b p : ℕ) → b < 8 → p < 256 → p + ((1 * 2 ^ (b + 1)) % 2 ^ 32 - 1) < 512
rest_small b p h k = let m = group_size b h in rw (one_group b h) (omega (arith, m.1))

pub rounded_shifted : (b p : ℕ) → b < 8 → p < 256 → (p + ((1 * 2 ^ (b + 1)) % 2 ^ 32 - 1)) / 2 ^ (b + 1) * 2 ^ (b + 1) % 2 ^ 32 ≡ rounded_up b p
unfolding rounded_up
rounded_shifted b p h k =
    let small : (p + (2 ^ (b + 1) - 1)) / 2 ^ (b + 1) < 2 ^ 9 = let m = group_size b h in omega (arith, shr_le (p + (2 ^ (b + 1) - 1)) (b + 1), m.1) in
    rw (one_group b h) (shl_exact 9 (b + 1) 32 small (omega arith))
