-- Bits of a word: one that is put is read back, no other changes, and words with the same bits are the same. Assumes nothing.
use mathlib.Core.Path.{◌≡◌, refl, sym, ap, ap₂, ◌∙◌, subst}
use mathlib.Core.Bool.{Bool, true, false, not, ◌&&◌}
use Prim.Native.Nat.{ℕ, zero, suc, ◌+◌, ◌*◌, ◌-◌, ◌/◌, ◌%◌, ◌^◌, ◌<◌}
use native.Mathlib.Nat.{div-one, pow-suc, one-mul, add-mul, add-zero, mod-lt}
use native.Mathlib.Omega.{arith}
use lib.Arith.{digits_lt, lt-one}
use lib.Bits.{bit_and, and_high}
use lib.Dec.{eqb, ltb}
use lib.Pow.{shr-shr, shr_lt, high, low, split, mod-mod-pow, pow-add, pow_pos, pow-lt, high_ones}
use borrow.Author.Tests.{eqb-true, eqb-false, eq-eqb, ne_eqb, ltb-true, ltb-false}
use Rattle.interrupt.specs.Record.{is_ready}
use Rattle.word.specs.Word.{bit_of, flag, record_of}
use Rattle.word.proofs.Cases.{same_or}
use Rattle.state.specs.Words.{with_bit}

-- a number is another, or below it, or past it
pub apart {ℓ} : {X : Type ℓ} (i k : ℕ) → (i ≡ k → X) → (i < k → X) → (k < i → X) → X
apart {X = X} i k same lower upper = same_or i k same (λ d. go d (ltb i k) refl)
  where
    go : (i ≡ k → ⊥) → (l : Bool) → ltb i k ≡ l → X
    go d true f = lower (ltb-true i k f)
    go d false f = upper (let g = ltb-false i k f in omega arith)

-- a bit above k is one of the digits above k; one below k is one of the rest
above : (i k w : ℕ) → k < i → w / 2 ^ i ≡ w / 2 ^ k / 2 / 2 ^ (i - k - 1)
above i k w h =
    let e : i ≡ k + 1 + (i - k - 1) = omega arith in
    ap (λ (x : ℕ). w / 2 ^ x) e ∙ sym (shr-shr w (k + 1) (i - k - 1)) ∙ ap (λ (x : ℕ). x / 2 ^ (i - k - 1)) (sym (shr-shr w k 1))

pub below : (i k w : ℕ) → i < k → w / 2 ^ i % 2 ≡ w % 2 ^ k / 2 ^ i % 2
below i k w h =
    let e : k ≡ k - i - 1 + 1 + i = omega arith in
    sym (ap (λ (x : ℕ). w % 2 ^ x / 2 ^ i % 2) e ∙ ap (λ (y : ℕ). y % 2) (lib.Pow.field w (k - i - 1 + 1) i) ∙ mod-mod-pow (w / 2 ^ i) (k - i - 1) 1)

-- words that differ at most in the bit k
pub elsewhere : (k x y i : ℕ) → x / 2 ^ k / 2 ≡ y / 2 ^ k / 2 → x % 2 ^ k ≡ y % 2 ^ k → (i ≡ k → ⊥) → flag i x ≡ flag i y
elsewhere k x y i p q d = apart i k (λ e. absurd (d e)) lower upper
  where
    lower : i < k → flag i x ≡ flag i y
    lower h = ap (λ (n : ℕ). eqb n 1) (below i k x h ∙ ap (λ (n : ℕ). n / 2 ^ i % 2) q ∙ sym (below i k y h))

    upper : k < i → flag i x ≡ flag i y
    upper h = ap (λ (n : ℕ). eqb (n % 2) 1) (above i k x h ∙ ap (λ (n : ℕ). n / 2 ^ (i - k - 1)) p ∙ sym (above i k y h))

bit_small : (b : Bool) → bit_of b < 2
bit_small true = omega arith
bit_small false = omega arith

bit_back : (b : Bool) → eqb (bit_of b) 1 ≡ b
bit_back true = refl
bit_back false = refl

rest_small : (k w : ℕ) → w % 2 ^ k < 2 ^ k
rest_small k w = mod-lt w (pow_pos k)

module _ (k : ℕ) (b : Bool) (w : ℕ) where
  bit_high : with_bit k b w / 2 ^ k ≡ w / 2 ^ k / 2 * 2 + bit_of b
  unfolding with_bit
  bit_high = high (w / 2 ^ k / 2 * 2 + bit_of b) k (rest_small k w)

  bit_low : with_bit k b w % 2 ^ k ≡ w % 2 ^ k
  unfolding with_bit
  bit_low = low (w / 2 ^ k / 2 * 2 + bit_of b) k (rest_small k w)

  half : (w / 2 ^ k / 2 * 2 + bit_of b) / 2 ≡ w / 2 ^ k / 2
  half = let s = bit_small b in omega arith

  pub bit_same : flag k (with_bit k b w) ≡ b
  bit_same =
      let s = bit_small b in
      let e : (w / 2 ^ k / 2 * 2 + bit_of b) % 2 ≡ bit_of b = omega arith in
      ap (λ (n : ℕ). eqb (n % 2) 1) bit_high ∙ ap (λ (n : ℕ). eqb n 1) e ∙ bit_back b

  pub bit_other : (i : ℕ) → (i ≡ k → ⊥) → flag i (with_bit k b w) ≡ flag i w
  bit_other i d = elsewhere k (with_bit k b w) w i (ap (λ (n : ℕ). n / 2) bit_high ∙ half) bit_low d

  -- the last put counts
  pub bit_again : (a : Bool) → with_bit k a (with_bit k b w) ≡ with_bit k a w
  unfolding with_bit
  bit_again a = ap₂ (λ (h l : ℕ). (h * 2 + bit_of a) * 2 ^ k + l) (ap (λ (n : ℕ). n / 2) bit_high ∙ half) bit_low

  -- a word of n bits stays one
  pub bit_fits : (n : ℕ) → k < n → w < 2 ^ n → with_bit k b w < 2 ^ n
  unfolding with_bit
  bit_fits n h f =
      let e : n ≡ suc (n - k - 1) + k = omega arith in
      subst (λ (m : ℕ). with_bit k b w < 2 ^ m) (sym e) (fits (n - k - 1) (subst (λ (m : ℕ). w < 2 ^ m) e f))
    where
      fits : (j : ℕ) → w < 2 ^ (suc j + k) → with_bit k b w < 2 ^ (suc j + k)
      fits j f =
          let s = bit_small b in
          let q = shr_lt (suc j) k f in
          let e = pow-suc 2 j in
          let m : w / 2 ^ k / 2 * 2 + bit_of b < 2 ^ suc j = omega arith in
          rw (pow-add 2 (suc j) k) (digits_lt m (rest_small k w))

-- words of n bits with the same bits are the same
pub by_bits : (n x y : ℕ) → x < 2 ^ n → y < 2 ^ n → ((i : ℕ) → i < n → flag i x ≡ flag i y) → x ≡ y
by_bits zero x y a b h = lt-one a ∙ sym (lt-one b)
by_bits (suc n) x y a b h =
    let p = pow-suc 2 n in
    let half : x / 2 ≡ y / 2 = by_bits n (x / 2) (y / 2) (omega arith) (omega arith) next in
    let last : x % 2 ≡ y % 2 = go (x % 2) (y % 2) (omega arith) (omega arith) (sym (ap (λ (m : ℕ). eqb (m % 2) 1) (div-one x)) ∙ h 0 (omega arith) ∙ ap (λ (m : ℕ). eqb (m % 2) 1) (div-one y)) in
    omega arith
  where
    next : (i : ℕ) → i < n → flag i (x / 2) ≡ flag i (y / 2)
    next i l = ap (λ (m : ℕ). eqb (m % 2) 1) (shr-shr x 1 i) ∙ h (1 + i) (omega arith) ∙ sym (ap (λ (m : ℕ). eqb (m % 2) 1) (shr-shr y 1 i))

    go : (m l : ℕ) → m < 2 → l < 2 → eqb m 1 ≡ eqb l 1 → m ≡ l
    go m l a b e = at (eqb l 1) refl e
      where
        at : (t : Bool) → eqb l 1 ≡ t → eqb m 1 ≡ eqb l 1 → m ≡ l
        at true q r = eqb-true m 1 (r ∙ q) ∙ sym (eqb-true l 1 q)
        at false q r = let c = eqb-false m 1 (r ∙ q) in let d = eqb-false l 1 q in omega arith

pub under_power : (w : ℕ) → w < 2 ^ w
under_power zero = omega arith
under_power (suc w) = let p = pow-suc 2 w in let h = under_power w in omega arith

-- two bits of one word, in either order
pub bit_comm : (i j : ℕ) (a b : Bool) (w : ℕ) → (i ≡ j → ⊥) → with_bit i a (with_bit j b w) ≡ with_bit j b (with_bit i a w)
bit_comm i j a b w d =
    by_bits n (with_bit i a (with_bit j b w)) (with_bit j b (with_bit i a w))
    (bit_fits i a (with_bit j b w) n (omega arith) (bit_fits j b w n (omega arith) wide))
    (bit_fits j b (with_bit i a w) n (omega arith) (bit_fits i a w n (omega arith) wide))
    (λ k l. same k)
  where
    n : ℕ
    n = w + i + j + 1

    wide : w < 2 ^ n
    wide = let p = under_power w in let q : 2 ^ w < 2 ^ n = pow-lt (omega arith) in omega arith

    same : (k : ℕ) → flag k (with_bit i a (with_bit j b w)) ≡ flag k (with_bit j b (with_bit i a w))
    same k =
        same_or k i
        (λ e. rw e (bit_same i a (with_bit j b w) ∙ sym (bit_same i a w) ∙ sym (bit_other j b (with_bit i a w) i d)))
        (λ x. bit_other i a (with_bit j b w) k x ∙ same_or k j
        (λ e. rw e (bit_same j b w ∙ sym (bit_same j b (with_bit i a w))))
        (λ y. bit_other j b w k y ∙ sym (bit_other i a w k x) ∙ sym (bit_other j b (with_bit i a w) k y)))

-- how the code goes about it: the bit of a word in its place, taken away and added
one_bit : (x k : ℕ) → bit_and x (2 ^ k) ≡ (x / 2 ^ k % 2) * 2 ^ k
one_bit x k = ap (bit_and x) (sym (high_ones 1 k ∙ one-mul (2 ^ k))) ∙ and_high x 1 k

module _ (k w : ℕ) where
  whole : w ≡ w / 2 ^ k / 2 * 2 * 2 ^ k + bit_and w (2 ^ k) + w % 2 ^ k
  whole =
      let e : w / 2 ^ k ≡ w / 2 ^ k / 2 * 2 + w / 2 ^ k % 2 = omega arith in
      sym (split w k)
      ∙ ap (λ (n : ℕ). n + w % 2 ^ k)
      (ap (λ (n : ℕ). n * 2 ^ k) e ∙ add-mul (w / 2 ^ k / 2 * 2) (w / 2 ^ k % 2) (2 ^ k) ∙ ap (λ (n : ℕ). w / 2 ^ k / 2 * 2 * 2 ^ k + n) (sym (one_bit w k)))

  pub bit_cleared : w - bit_and w (2 ^ k) ≡ with_bit k false w
  unfolding with_bit
  bit_cleared = rw (add-zero (w / 2 ^ k / 2 * 2)) (omega (arith, whole))

  pub bit_set : w - bit_and w (2 ^ k) + 2 ^ k ≡ with_bit k true w
  unfolding with_bit
  bit_set =
      let e = add-mul (w / 2 ^ k / 2 * 2) 1 (2 ^ k) ∙ ap (λ (n : ℕ). w / 2 ^ k / 2 * 2 * 2 ^ k + n) (one-mul (2 ^ k)) in
      omega (arith, whole, e)

-- of a record's word the lowest three bits say whether it is ready
pub ready_word_lem : (w : ℕ) → eqb (w % 8) 3 ≡ is_ready (record_of w)
unfolding record_of
ready_word_lem w = go (flag 0 w) (flag 1 w) (flag 2 w) refl refl refl
  where
    set : (i : ℕ) → flag i w ≡ true → w / 2 ^ i % 2 ≡ 1
    set i e = eqb-true (w / 2 ^ i % 2) 1 e

    clear : (i : ℕ) → flag i w ≡ false → w / 2 ^ i % 2 ≡ 0
    clear i e = let d = eqb-false (w / 2 ^ i % 2) 1 e in omega arith

    go : (a b c : Bool) → flag 0 w ≡ a → flag 1 w ≡ b → flag 2 w ≡ c → eqb (w % 8) 3 ≡ (a && b && not c)
    go true true false p q r = let x = set 0 p in let y = set 1 q in let z = clear 2 r in let d : w % 8 ≡ w / 4 % 2 * 4 + w / 2 % 2 * 2 + w % 2 = omega arith in eq-eqb (w % 8) 3 (omega arith)
    go true true true p q r = let z = set 2 r in ne_eqb (w % 8) 3 (λ e. omega arith)
    go true false c p q r = let y = clear 1 q in simp (ne_eqb (w % 8) 3 (λ e. omega arith))
    go false b c p q r = let x = clear 0 p in simp (ne_eqb (w % 8) 3 (λ e. omega arith))
