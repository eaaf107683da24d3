-- A walk that takes the lowest set bit and clears it, again and again, takes exactly the set bits, the lowest first. Assumes nothing.
use mathlib.Core.Path.{◌≡◌, refl, sym, ap, ap₂, ◌∙◌, subst}
use mathlib.Core.Bool.{Bool, true, false, cond}
use Prim.Native.Nat.{ℕ, zero, suc, ◌+◌, ◌*◌, ◌-◌, ◌/◌, ◌%◌, ◌^◌, ◌<◌}
use native.Mathlib.Nat.{zero-div, add-zero, add-mul, one-mul, mul-one, mul_assoc, pow-suc, not-suc-le-zero}
use native.Mathlib.Omega.{arith}
use lib.Bits.{bit_and, and_block, and_step, and_self, and_zero_l}
use lib.Count.{count_trailing_zeros, under}
use lib.Dec.{eqb}
use lib.Pow.{pow_pos, ones_lt, shl-shr, low}
use Rattle.word.specs.Word.{flag}
use Rattle.state.proofs.WordBits.{apart, below, elsewhere}
use Rattle.select.specs.Keys.{bits_walked}

-- x is an odd number, shifted by t, which is less than k
record Shifted (k x t : ℕ) : Type 0 where
  pub inside : t < k
  pub rest : ℕ
  pub whole : x ≡ (rest * 2 + 1) * 2 ^ t

lowest : (k x : ℕ) → 0 < x → x < 2 ^ k → Shifted k x (count_trailing_zeros k x)
unfolding count_trailing_zeros
lowest zero x p h = absurd (let q : x < 1 = h in omega arith)
lowest (suc k) x p h = go (x % 2) refl (λ a b. lowest k (x / 2) a b)
  where
    go : (r : ℕ) → x % 2 ≡ r → (0 < x / 2 → x / 2 < 2 ^ k → Shifted k (x / 2) (count_trailing_zeros k (x / 2))) → Shifted (suc k) x (under r (count_trailing_zeros k (x / 2)))
    go zero e ih =
        let d = pow-suc 2 k in
        let s = ih (omega arith) (omega arith) in
        let t = count_trailing_zeros k (x / 2) in
        let w : x ≡ x / 2 * 2 = omega arith in
        record {
          inside = let i = s.inside in omega arith;
          rest = s.rest;
          whole = w ∙ ap (λ (y : ℕ). y * 2) s.whole ∙ mul_assoc (s.rest * 2 + 1) (2 ^ t) 2 ∙ ap (λ (y : ℕ). (s.rest * 2 + 1) * y) (sym (pow-suc 2 t));
        }
    go (suc r) e ih = record {
      inside = omega arith;
      rest = x / 2;
      whole = let w : x ≡ x / 2 * 2 + 1 = omega arith in w ∙ sym (mul-one (x / 2 * 2 + 1));
    }

-- y is x without its lowest set bit, which is bit t of k
pub record Cleared (k x t y : ℕ) : Type 0 where
  pub inside : t < k
  pub set : flag t x ≡ true
  pub none : (i : ℕ) → i < t → flag i x ≡ false
  pub gone : flag t y ≡ false
  pub rest : (i : ℕ) → (i ≡ t → ⊥) → flag i x ≡ flag i y
  pub less : y < x

-- the last set digit of an odd number
odd_cleared : (q : ℕ) → bit_and (q * 2 + 1) (q * 2) ≡ q * 2
odd_cleared q =
    let a : (q * 2 + 1) / 2 ≡ q = omega arith in
    let b : q * 2 / 2 ≡ q = omega arith in
    let c : (q * 2 + 1) % 2 ≡ 1 = omega arith in
    let d : q * 2 % 2 ≡ 0 = omega arith in
    and_step (q * 2 + 1) (q * 2) ∙ rw (a, b, c, d, and_self) (add-zero (q * 2))

shifted_cleared : (q t : ℕ) → bit_and ((q * 2 + 1) * 2 ^ t) ((q * 2 + 1) * 2 ^ t - 1) ≡ q * 2 * 2 ^ t
shifted_cleared q t =
    let p = pow_pos t in
    let e = add-mul (q * 2) 1 (2 ^ t) ∙ ap (λ (n : ℕ). q * 2 * 2 ^ t + n) (one-mul (2 ^ t)) in
    let less : (q * 2 + 1) * 2 ^ t - 1 ≡ q * 2 * 2 ^ t + (2 ^ t - 1) = omega (arith, e, p) in
    ap₂ bit_and (sym (add-zero ((q * 2 + 1) * 2 ^ t))) less
    ∙ and_block t (q * 2 + 1) (q * 2) 0 (2 ^ t - 1) p (ones_lt t)
    ∙ ap₂ (λ (m n : ℕ). m * 2 ^ t + n) (odd_cleared q) (and_zero_l (2 ^ t - 1))
    ∙ add-zero (q * 2 * 2 ^ t)

no_rest : (a t : ℕ) → a * 2 ^ t % 2 ^ t ≡ 0
no_rest a t = ap (λ (n : ℕ). n % 2 ^ t) (sym (add-zero (a * 2 ^ t))) ∙ low a t (pow_pos t)

no_bit : (i : ℕ) → flag i 0 ≡ false
no_bit i = ap (λ (n : ℕ). eqb (n % 2) 1) (zero-div (2 ^ i))

cleared_at : (k q t : ℕ) → t < k → Cleared k ((q * 2 + 1) * 2 ^ t) t (q * 2 * 2 ^ t)
cleared_at k q t h =
    let odd : (q * 2 + 1) % 2 ≡ 1 = omega arith in
    let even : q * 2 % 2 ≡ 0 = omega arith in
    let half : (q * 2 + 1) / 2 ≡ q * 2 / 2 = omega arith in
    let high = shl-shr (q * 2 + 1) t in
    let high' = shl-shr (q * 2) t in
    let e = add-mul (q * 2) 1 (2 ^ t) ∙ ap (λ (n : ℕ). q * 2 * 2 ^ t + n) (one-mul (2 ^ t)) in
    record {
      inside = h;
      set = ap (λ (n : ℕ). eqb (n % 2) 1) high ∙ ap (λ (n : ℕ). eqb n 1) odd;
      none = λ i b. ap (λ (n : ℕ). eqb n 1) (below i t ((q * 2 + 1) * 2 ^ t) b) ∙ ap (λ (n : ℕ). flag i n) (no_rest (q * 2 + 1) t) ∙ no_bit i;
      gone = ap (λ (n : ℕ). eqb (n % 2) 1) high' ∙ ap (λ (n : ℕ). eqb n 1) even;
      rest = λ i d. elsewhere t ((q * 2 + 1) * 2 ^ t) (q * 2 * 2 ^ t) i (ap (λ (n : ℕ). n / 2) high ∙ half ∙ sym (ap (λ (n : ℕ). n / 2) high')) (no_rest (q * 2 + 1) t ∙ sym (no_rest (q * 2) t)) d;
      less = omega (arith, e, pow_pos t);
    }

-- x & (x - 1)
pub cleared : (k x : ℕ) → 0 < x → x < 2 ^ k → Cleared k x (count_trailing_zeros k x) (bit_and x (x - 1))
cleared k x p h =
    let s = lowest k x p h in
    let t = count_trailing_zeros k x in
    let y : bit_and x (x - 1) ≡ s.rest * 2 * 2 ^ t = ap (λ (n : ℕ). bit_and n (n - 1)) s.whole ∙ shifted_cleared s.rest t in
    let all : Cleared k ((s.rest * 2 + 1) * 2 ^ t) t (s.rest * 2 * 2 ^ t) = cleared_at k s.rest t s.inside in
    subst (λ (n : ℕ). Cleared k x t n) (sym y) (subst (λ (n : ℕ). Cleared k n t (s.rest * 2 * 2 ^ t)) (sym s.whole) all)

module _ (f : ℕ → ℕ → ℕ) where
  -- no set bit below k: nothing is taken
  none_bits_walked : (x a k : ℕ) → ((i : ℕ) → i < k → flag i x ≡ false) → bits_walked f x a k ≡ a
  unfolding bits_walked
  none_bits_walked x a zero h = refl
  none_bits_walked x a (suc k) h = ap (λ (b : Bool). cond b (f k (bits_walked f x a k)) (bits_walked f x a k)) (h k (omega arith)) ∙ none_bits_walked x a k (λ i b. h i (omega arith))

  -- the lowest first, then the rest
  lowest_first : (m x t y a : ℕ) → Cleared m x t y → (k : ℕ) → t < k → bits_walked f x a k ≡ bits_walked f y (f t a) k
  unfolding bits_walked
  lowest_first m x t y a c zero h = absurd (not-suc-le-zero h)
  lowest_first m x t y a c (suc k) h = apart t k now (λ b. later b (lowest_first m x t y a c k b)) (λ b. absurd (not_past b))
    where
      not_past : k < t → ⊥
      not_past b = omega arith

      none_of_y : (i : ℕ) → i < t → flag i y ≡ false
      none_of_y i b = sym (c.rest i (λ e. not_same e b)) ∙ c.none i b
        where
          not_same : i ≡ t → i < t → ⊥
          not_same e b = omega arith

      at : bits_walked f x a (suc t) ≡ bits_walked f y (f t a) (suc t)
      at =
          ap₂ (λ (b : Bool) (n : ℕ). cond b (f t n) n) c.set (none_bits_walked x a t c.none)
          ∙ sym (ap₂ (λ (b : Bool) (n : ℕ). cond b (f t n) n) c.gone (none_bits_walked y (f t a) t none_of_y))

      now : t ≡ k → bits_walked f x a (suc k) ≡ bits_walked f y (f t a) (suc k)
      now e = subst (λ (n : ℕ). bits_walked f x a (suc n) ≡ bits_walked f y (f t a) (suc n)) e at

      later : t < k → bits_walked f x a k ≡ bits_walked f y (f t a) k → bits_walked f x a (suc k) ≡ bits_walked f y (f t a) (suc k)
      later b ih = ap₂ (λ (b : Bool) (n : ℕ). cond b (f k n) n) (c.rest k (λ e. not_same e b)) ih
        where
          not_same : k ≡ t → t < k → ⊥
          not_same e b = omega arith

  -- a turn of the walk, and its end
  pub walk_turn : (x a : ℕ) → 0 < x → x < 2 ^ 32 → bits_walked f x a 32 ≡ bits_walked f (bit_and x (x - 1)) (f (count_trailing_zeros 32 x) a) 32
  walk_turn x a p h = let c = cleared 32 x p h in lowest_first 32 x (count_trailing_zeros 32 x) (bit_and x (x - 1)) a c 32 c.inside

  pub walk_end : (a : ℕ) → bits_walked f 0 a 32 ≡ a
  walk_end a = none_bits_walked 0 a 32 (λ i b. no_bit i)
