-- Fields of one width, for every width and number of fields: each is read back, the word fits their bits, and fields of 0 on top may be
-- left out. Assumes nothing.
use mathlib.Core.Path.{◌≡◌, refl, sym, ap, ◌∙◌}
use Prim.Native.Nat.{ℕ, zero, suc, ◌+◌, ◌*◌, ◌-◌, ◌/◌, ◌%◌, ◌^◌, ◌≤◌, ◌<◌}
use native.Mathlib.Nat.{not-suc-le-zero, mul-suc, mul-zero, zero-mul, one-mul, mul-le-mul_left, add_comm, add-zero, mod-eq_of_lt, lt_of_lt_of_le}
use native.Mathlib.Omega.{arith}
use lib.Arith.{digits_lt}
use lib.Pow.{pow_mono, pow-add, high, low, mod-mod-pow, shl_exact}
use Rattle.word.proofs.Cases.{last_or}
use Rattle.word.specs.Fields.{field, field_at, gathered}

-- a field below the bits of `hi` does not see them
field_low : (p w m hi : ℕ) {lo : ℕ} → w + p ≤ m → lo < 2 ^ m → field p w (hi * 2 ^ m + lo) ≡ field p w lo
field_low p w m hi {lo} h b =
    let x : ℕ = hi * 2 ^ m + lo in
    let split : m ≡ m - (w + p) + (w + p) = omega arith in
    let cut : x % 2 ^ (w + p) ≡ lo % 2 ^ (w + p) =
    sym (mod-mod-pow x (m - (w + p)) (w + p)) ∙ ap (λ (k : ℕ). x % 2 ^ k % 2 ^ (w + p)) (sym split) ∙ ap (λ (y : ℕ). y % 2 ^ (w + p)) (low hi m b) in
    sym (lib.Pow.field x w p) ∙ ap (λ (y : ℕ). y / 2 ^ p) cut ∙ lib.Pow.field lo w p

module _ (w : ℕ) (f : ℕ → ℕ) where
  module _ (narrow : (i : ℕ) → f i < 2 ^ w) where
    pub gathered_below : (n : ℕ) → gathered w f n < 2 ^ (w * n)
    unfolding gathered
    gathered_below zero = rw mul-zero (omega arith)
    gathered_below (suc n) = rw (mul-suc w n, add_comm (w * n) w, pow-add, add_comm (gathered w f n)) (digits_lt (narrow n) (gathered_below n))

    pub gathered_fits : (n m : ℕ) → w * n ≤ m → gathered w f n < 2 ^ m
    gathered_fits n m h = lt_of_lt_of_le (gathered_below n) (pow_mono h)

    -- every field is read back
    pub gathered_field : (n i : ℕ) → i < n → field_at w i (gathered w f n) ≡ f i
    unfolding gathered
    gathered_field zero i h = absurd (not-suc-le-zero h)
    gathered_field (suc n) i h =
        last_or i n h
        (λ e. rw (e, add_comm (gathered w f n), high (f n) (w * n) (gathered_below n)) (mod-eq_of_lt (narrow n)))
        (λ b.
        let c : w * suc i ≤ w * n = mul-le-mul_left w b in
        let r : w + w * i ≤ w * n = rw (mul-suc w i, add_comm (w * i) w) at c in
        rw add_comm (field_low (w * i) w (w * n) (f n) r (gathered_below n)) ∙ gathered_field n i b)

  -- fields of 0 on top may be left out
  pub gathered_idle : (n m : ℕ) → m ≤ n → ((i : ℕ) → m ≤ i → i < n → f i ≡ 0) → gathered w f n ≡ gathered w f m
  unfolding gathered
  gathered_idle zero m h idle = let e : m ≡ 0 = omega arith in rw e
  gathered_idle (suc n) m h idle =
      last_or m (suc n) (omega arith) (λ e. rw e)
      (λ b.
      let z : f n ≡ 0 = idle n (omega arith) (omega arith) in
      simp (z, zero-mul, add-zero) (gathered_idle n m (omega arith) (λ i a c. idle i a (omega arith))))

pub gathered_same : (w : ℕ) (f g : ℕ → ℕ) (n : ℕ) → ((i : ℕ) → i < n → f i ≡ g i) → gathered w f n ≡ gathered w g n
unfolding gathered
gathered_same w f g zero same = refl
gathered_same w f g (suc n) same = simp (gathered_same w f g n (λ i h. same i (omega arith)), same n (omega arith))

-- a 1 shifted inside its word
pub one_shifted : (k w : ℕ) → 1 + k ≤ w → 1 * 2 ^ k % 2 ^ w ≡ 2 ^ k
one_shifted k w h = shl_exact 1 k w (omega arith) h ∙ one-mul (2 ^ k)
