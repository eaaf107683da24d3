-- Word by word of the summary: the 32 numbers of a word after those of the words before it. Assumes nothing.
use mathlib.Core.Path.{◌≡◌, refl, sym, ap, ap₂, ◌∙◌}
use mathlib.Core.Bool.{Bool, true, false, cond}
use mathlib.Core.List.{List}
use Prim.Native.Nat.{ℕ, zero, suc, ◌+◌, ◌*◌, ◌-◌, ◌/◌, ◌%◌, ◌≤◌, ◌<◌}
use native.Mathlib.Nat.{add-suc, add-zero}
use native.Mathlib.Omega.{arith}
use lib.Dec.{ltb}
use lib.ListN.{get_or}
use borrow.Author.Tests.{lt-ltb, le-ltb, ltb-true}
use Rattle.word.specs.Word.{flag}
use Rattle.state.specs.declared.layout.Shape.{Shape}
use Rattle.state.specs.Layout.{summary_start, summary_words}
use Rattle.state.specs.Words.{ready_bit}
use Rattle.select.specs.declared.WordTest.{WordTest}
use Rattle.select.specs.Keys.{ready_word, least, with_word, least_key, bit_is_set, bits_walked, with_spi, with_summary_word}

module _ (shape : Shape) (test : WordTest) (offset : ℕ) (s : List ℕ) (start : ℕ) where
  abbrev ready : ℕ → Bool
  ready i = ready_bit shape (32 + i) s

  abbrev one : ℕ → ℕ → ℕ
  one i key = with_spi test offset shape.limit s (32 + i) key

  -- of the first i SPIs those that exist
  unfoldable pub least_of : ℕ → ℕ
  least_of zero = start
  least_of (suc i) = cond (ready i) (one i (least_of i)) (least_of i)

  -- all of them exist
  exist : (i : ℕ) → 32 + i ≤ shape.limit → least_of i ≡ least_key (bit_is_set shape s) test offset 32 s start i
  unfolding least_of least_key
  exist zero h = refl
  exist (suc i) h =
      ap₂ (λ (b : Bool) (k : ℕ). cond (ready i) (cond b (with_word test (32 + i) (get_or s (offset + (32 + i)) 0) k) k) k) (lt-ltb (32 + i) shape.limit (omega arith)) (exist i (omega arith))

  skip : (b : Bool) (k : ℕ) → cond b k k ≡ k
  skip true k = refl
  skip false k = refl

  -- past the limit there are none
  past : (j : ℕ) → 32 ≤ shape.limit → least_of (j + (shape.limit - 32)) ≡ least_key (bit_is_set shape s) test offset 32 s start (shape.limit - 32)
  unfolding least_of
  past zero h = let e : 0 + (shape.limit - 32) ≡ shape.limit - 32 = omega arith in ap least_of e ∙ exist (shape.limit - 32) (omega arith)
  past (suc j) h =
      let i = j + (shape.limit - 32) in
      let e : suc j + (shape.limit - 32) ≡ suc i = omega arith in
      ap least_of e
      ∙ ap (λ (b : Bool). cond (ready i) (cond b (with_word test (32 + i) (get_or s (offset + (32 + i)) 0) (least_of i)) (least_of i)) (least_of i)) (le-ltb (32 + i) shape.limit (omega arith))
      ∙ skip (ready i) (least_of i)
      ∙ past j h

  -- the bits of one word
  bit_of_word : (g j : ℕ) → j < 32 → ready (32 * g + j) ≡ flag j (get_or s (summary_start shape + g) 0)
  unfolding ready_bit
  bit_of_word g j h =
      let a : (32 + (32 * g + j) - 32) / 32 ≡ g = omega arith in
      let b : (32 + (32 * g + j)) % 32 ≡ j = omega arith in
      rw (a, b)

  in_word : (g j : ℕ) → j ≤ 32 → least_of (32 * g + j) ≡ bits_walked (λ i. with_spi test offset shape.limit s (32 + 32 * g + i)) (get_or s (summary_start shape + g) 0) (least_of (32 * g)) j
  unfolding least_of bits_walked
  in_word g zero h = rw (add-zero (32 * g))
  in_word g (suc j) h =
      let number : 32 + (32 * g + j) ≡ 32 + 32 * g + j = omega arith in
      ap least_of (add-suc (32 * g) j)
      ∙ ap₂ (λ (b : Bool) (k : ℕ). cond b (one (32 * g + j) k) k) (bit_of_word g j (omega arith)) (in_word g j (omega arith))
      ∙ rw number

  pub first_word : least_of 0 ≡ start
  unfolding least_of
  first_word = refl

  pub next_word : (g : ℕ) → with_summary_word test offset shape.limit s (32 + 32 * g) (get_or s (summary_start shape + g) 0) (least_of (32 * g)) ≡ least_of (32 * (g + 1))
  next_word g = let e : 32 * g + 32 ≡ 32 * (g + 1) = omega arith in sym (in_word g 32 (omega arith)) ∙ ap least_of e

  pub last_word : 32 ≤ shape.limit → least_of (32 * summary_words shape) ≡ least_key (bit_is_set shape s) test offset 32 s start (shape.limit - 32)
  last_word h =
      let e : 32 * summary_words shape ≡ 32 * summary_words shape - (shape.limit - 32) + (shape.limit - 32) = omega arith in
      ap least_of e ∙ past (32 * summary_words shape - (shape.limit - 32)) h

  -- a key only falls, so one that is low enough says that the last is
  falls : (i : ℕ) → least_of (suc i) ≤ least_of i
  unfolding least_of
  falls i = go (ready i) (ltb (32 + i) shape.limit) (ready_word test (get_or s (offset + (32 + i)) 0))
    where
      k : ℕ
      k = 1024 * (get_or s (offset + (32 + i)) 0 / 256 % 256) + (32 + i)

      smaller : (b : Bool) → ltb k (least_of i) ≡ b → cond b k (least_of i) ≤ least_of i
      smaller true e = let h = ltb-true k (least_of i) e in omega arith
      smaller false e = omega arith

      go : (a b c : Bool) → cond a (cond b (cond c (least k (least_of i)) (least_of i)) (least_of i)) (least_of i) ≤ least_of i
      go true true true = smaller (ltb k (least_of i)) refl
      go true true false = omega arith
      go true false c = omega arith
      go false b c = omega arith

  fall_to : (i j : ℕ) → least_of (i + j) ≤ least_of i
  fall_to i zero = rw (add-zero i) (omega arith)
  fall_to i (suc j) = let a = fall_to i j in let b = falls (i + j) in rw (add-suc i j) (omega arith)

  pub low_enough : (g enough : ℕ) → 32 ≤ shape.limit → g ≤ summary_words shape → least_of (32 * g) < enough → least_key (bit_is_set shape s) test offset 32 s start (shape.limit - 32) < enough
  low_enough g enough h b low =
      let e : 32 * summary_words shape ≡ 32 * g + (32 * summary_words shape - 32 * g) = omega arith in
      let f = fall_to (32 * g) (32 * summary_words shape - 32 * g) in
      let whole = last_word h in
      rw (← whole, e) (omega arith)
