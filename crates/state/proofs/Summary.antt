-- The summary's words: what a record's bit does to them, and that nothing else does. Assumes nothing.
use Rattle.std.specs.Prelude.{Option, None, Some}
use mathlib.Core.Path.{◌≡◌, refl, sym, ap, ◌∙◌}
use mathlib.Core.Bool.{Bool, true, false, true≢false}
use mathlib.Core.List.{List}
use Prim.Native.Nat.{ℕ, zero, suc, ◌+◌, ◌-◌, ◌%◌, ◌^◌, ◌≤◌, ◌<◌}
use native.Mathlib.Nat.{not-suc-le-zero}
use native.Mathlib.Omega.{arith}
use lib.ListN.{length, get_or, set, drop, length-set}
use lib.Seq.{get_or-set_same, get_or-set_other, set-set, set_comm, drop-set-lt}
use borrow.Author.Tests.{lt-ltb, le-leb}
use Rattle.interrupt.specs.Record.{is_ready}
use Rattle.word.specs.Word.{record_of}
use Rattle.word.proofs.Cases.{same_or, last_or}
use Rattle.state.specs.declared.layout.Shape.{Shape}
use Rattle.state.specs.Layout.{Slot, Count, Limit, DistributorControl, Interface, Sources, Private, Spi, Stack, summary_start, summary_words, summary_place, stack_start, size, place, in_summary, Exists, Room, spi_of}
use Rattle.state.specs.Loop.{up_to}
use Rattle.state.specs.Words.{word_at, with_bit, summary_at, ready_bit, with_ready_bit, without_summary, summed, spis_in}
use Rattle.state.proofs.Places.{summary_from, off_summary, bit_in_summary}
use Rattle.state.proofs.WordBits.{bit_same, bit_other, bit_again, bit_fits, bit_comm}

-- the SPI of a slot that exists, if it has one, exists
abbrev pub SpiThere : Shape → Option ℕ → Type 0
SpiThere shape None = Unit
SpiThere shape (Some n) = Exists shape (Spi n)

pub spi_there : (shape : Shape) (t : Slot) → Exists shape t → SpiThere shape (spi_of t)
spi_there shape Count e = tt
spi_there shape Limit e = tt
spi_there shape DistributorControl e = tt
spi_there shape (Interface v k) e = tt
spi_there shape (Sources v n) e = tt
spi_there shape (Private v n) e = tt
spi_there shape (Spi n) e = e
spi_there shape (Stack v i) e = tt

-- two bits in one word are two bits of it
bits_apart : (shape : Shape) (n m : ℕ) → Exists shape (Spi n) → Exists shape (Spi m) → (n ≡ m → ⊥) → summary_place shape n ≡ summary_place shape m → n % 32 ≡ m % 32 → ⊥
bits_apart shape n m en em d p q = d (omega arith)

module _ (shape : Shape) where
  not_there : (n k : ℕ) → Exists shape (Spi n) → in_summary shape k ≡ false → k ≡ summary_place shape n → ⊥
  not_there n k e off p = true≢false (sym (bit_in_summary shape n e) ∙ sym (ap (in_summary shape) p) ∙ off)

  pub summed_length : (o : Option ℕ) (w : ℕ) (s : List ℕ) → length (summed shape o w s) ≡ length s
  unfolding with_ready_bit
  summed_length None w s = refl
  summed_length (Some n) w s = length-set s (summary_place shape n) (with_bit (n % 32) (is_ready (record_of w)) (summary_at shape n s))

  -- words that are not in the summary stay
  pub summed_at : (o : Option ℕ) (w : ℕ) (s : List ℕ) (k : ℕ) → SpiThere shape o → in_summary shape k ≡ false → get_or (summed shape o w s) k 0 ≡ get_or s k 0
  unfolding with_ready_bit
  summed_at None w s k e off = refl
  summed_at (Some n) w s k e off = get_or-set_other s (summary_place shape n) k (with_bit (n % 32) (is_ready (record_of w)) (summary_at shape n s)) 0 (not_there n k e off)

  pub summed_past : (o : Option ℕ) (w : ℕ) (s : List ℕ) → SpiThere shape o → drop (size shape) (summed shape o w s) ≡ drop (size shape) s
  unfolding with_ready_bit
  summed_past None w s e = refl
  summed_past (Some n) w s e =
      let in-summary = summary_from shape (summary_place shape n) (bit_in_summary shape n e) in
      drop-set-lt (size shape) s (summary_place shape n) (with_bit (n % 32) (is_ready (record_of w)) (summary_at shape n s)) (omega arith)

  -- a word written elsewhere, before or after
  pub summed_set : (o : Option ℕ) (w : ℕ) (s : List ℕ) (k x : ℕ) → SpiThere shape o → in_summary shape k ≡ false → summed shape o w (set s k x) ≡ set (summed shape o w s) k x
  unfolding with_ready_bit
  summed_set None w s k x e off = refl
  summed_set (Some n) w s k x e off =
      ap (λ (y : ℕ). set (set s k x) (summary_place shape n) (with_bit (n % 32) (is_ready (record_of w)) y)) (get_or-set_other s k (summary_place shape n) x 0 (λ p. not_there n k e off (sym p)))
      ∙ set_comm s k (summary_place shape n) x (with_bit (n % 32) (is_ready (record_of w)) (summary_at shape n s)) (not_there n k e off)

  module _ (n : ℕ) (b : Bool) (s : List ℕ) (e : Exists shape (Spi n)) (long : stack_start shape ≤ length s) where
    inside : summary_place shape n < length s
    inside = let in-summary = summary_from shape (summary_place shape n) (bit_in_summary shape n e) in omega arith

    -- the bit that is put is read back, and no other changes
    pub ready_same : ready_bit shape n (with_ready_bit shape n b s) ≡ b
    unfolding ready_bit with_ready_bit
    ready_same = rw (get_or-set_same s (summary_place shape n) (with_bit (n % 32) b (summary_at shape n s)) 0 inside) (bit_same (n % 32) b (summary_at shape n s))

    pub ready_other : (m : ℕ) → Exists shape (Spi m) → (m ≡ n → ⊥) → ready_bit shape m (with_ready_bit shape n b s) ≡ ready_bit shape m s
    unfolding ready_bit with_ready_bit
    ready_other m em d =
        same_or (summary_place shape m) (summary_place shape n)
        (λ p. rw p (rw (get_or-set_same s (summary_place shape n) (with_bit (n % 32) b (summary_at shape n s)) 0 inside) (bit_other (n % 32) b (summary_at shape n s) (m % 32) (bits_apart shape m n em e d p))))
        (λ away. rw (get_or-set_other s (summary_place shape n) (summary_place shape m) (with_bit (n % 32) b (summary_at shape n s)) 0 away))

    -- the later of two counts
    pub ready_again : (a : Bool) → with_ready_bit shape n a (with_ready_bit shape n b s) ≡ with_ready_bit shape n a s
    unfolding with_ready_bit
    ready_again a =
        set-set s (summary_place shape n) (with_bit (n % 32) b (summary_at shape n s)) _
        ∙ ap (set s (summary_place shape n))
        (ap (with_bit (n % 32) a) (get_or-set_same s (summary_place shape n) (with_bit (n % 32) b (summary_at shape n s)) 0 inside) ∙ bit_again (n % 32) b (summary_at shape n s) a)

    -- bits that are of no SPI stay as they are
    pub ready_spared : (k : ℕ) → get_or s k 0 < 2 ^ spis_in shape k → get_or (with_ready_bit shape n b s) k 0 < 2 ^ spis_in shape k
    unfolding with_ready_bit
    ready_spared k h =
        same_or k (summary_place shape n)
        (λ p. rw p (rw (get_or-set_same s (summary_place shape n) (with_bit (n % 32) b (summary_at shape n s)) 0 inside) (bit_fits (n % 32) b (summary_at shape n s) (spis_in shape (summary_place shape n)) (omega arith) (rw p at h))))
        (λ away. rw (get_or-set_other s (summary_place shape n) k (with_bit (n % 32) b (summary_at shape n s)) 0 away) h)

  -- bits of two SPIs, in either order
  pub ready_comm : (n m : ℕ) (a b : Bool) (s : List ℕ) → Exists shape (Spi n) → Exists shape (Spi m) → (n ≡ m → ⊥) → stack_start shape ≤ length s
      → with_ready_bit shape n a (with_ready_bit shape m b s) ≡ with_ready_bit shape m b (with_ready_bit shape n a s)
  unfolding with_ready_bit
  ready_comm n m a b s en em d long = same_or p q one two
    where
      p : ℕ
      p = summary_place shape n

      q : ℕ
      q = summary_place shape m

      one : p ≡ q → with_ready_bit shape n a (with_ready_bit shape m b s) ≡ with_ready_bit shape m b (with_ready_bit shape n a s)
      one e = rw e (
          ap (λ (y : ℕ). set (set s q (with_bit (m % 32) b (get_or s q 0))) q (with_bit (n % 32) a y)) (get_or-set_same s q (with_bit (m % 32) b (get_or s q 0)) 0 (inside m b s em long))
          ∙ set-set s q _ _
          ∙ ap (set s q) (bit_comm (n % 32) (m % 32) a b (get_or s q 0) (bits_apart shape n m en em d e))
          ∙ sym (set-set s q (with_bit (n % 32) a (get_or s q 0)) _)
          ∙ sym (ap (λ (y : ℕ). set (set s q (with_bit (n % 32) a (get_or s q 0))) q (with_bit (m % 32) b y)) (get_or-set_same s q (with_bit (n % 32) a (get_or s q 0)) 0 (inside m b s em long)))
          )

      two : (p ≡ q → ⊥) → with_ready_bit shape n a (with_ready_bit shape m b s) ≡ with_ready_bit shape m b (with_ready_bit shape n a s)
      two away =
          ap (λ (y : ℕ). set (set s q (with_bit (m % 32) b (get_or s q 0))) p (with_bit (n % 32) a y)) (get_or-set_other s q p (with_bit (m % 32) b (get_or s q 0)) 0 away)
          ∙ set_comm s q p (with_bit (m % 32) b (get_or s q 0)) (with_bit (n % 32) a (get_or s p 0)) (λ e. away (sym e))
          ∙ sym (ap (λ (y : ℕ). set (set s p (with_bit (n % 32) a (get_or s p 0))) q (with_bit (m % 32) b y)) (get_or-set_other s p q (with_bit (n % 32) a (get_or s p 0)) 0 (λ e. away (sym e))))

-- cleared, every word of it is 0, and no other word changes
module _ (shape : Shape) (s : List ℕ) where
  abbrev cleared_to : ℕ → List ℕ
  cleared_to n = up_to (λ g r. set r (summary_start shape + g) 0) n s

  to_length : (n : ℕ) → length (cleared_to n) ≡ length s
  unfolding up_to
  to_length zero = refl
  to_length (suc n) = length-set (cleared_to n) (summary_start shape + n) 0 ∙ to_length n

  to_other : (n k : ℕ) → (summary_start shape ≤ k → k < summary_start shape + n → ⊥) → get_or (cleared_to n) k 0 ≡ get_or s k 0
  unfolding up_to
  to_other zero k off = refl
  to_other (suc n) k off =
      get_or-set_other (cleared_to n) (summary_start shape + n) k 0 0 (λ e. off (omega arith) (omega arith)) ∙ to_other n k (λ a b. off a (omega arith))

  to_zero : (n g : ℕ) → g < n → summary_start shape + n ≤ length s → get_or (cleared_to n) (summary_start shape + g) 0 ≡ 0
  unfolding up_to
  to_zero zero g b long = absurd (not-suc-le-zero b)
  to_zero (suc n) g b long =
      last_or g n b
      (λ e. rw e (get_or-set_same (cleared_to n) (summary_start shape + n) 0 0 (rw (to_length n) (omega arith))))
      (λ c. get_or-set_other (cleared_to n) (summary_start shape + n) (summary_start shape + g) 0 0 (λ e. omega arith) ∙ to_zero n g c (omega arith))

  to_past : (n m : ℕ) → summary_start shape + n ≤ m → drop m (cleared_to n) ≡ drop m s
  unfolding up_to
  to_past zero m h = refl
  to_past (suc n) m h = drop-set-lt m (cleared_to n) (summary_start shape + n) 0 (omega arith) ∙ to_past n m (omega arith)

  pub cleared_length : length (without_summary shape s) ≡ length s
  unfolding without_summary
  cleared_length = to_length (summary_words shape)

  pub cleared_room : Room shape s → Room shape (without_summary shape s)
  cleared_room h = record { limits = h.limits; room = rw cleared_length h.room }

  pub cleared_past_lem : drop (size shape) (without_summary shape s) ≡ drop (size shape) s
  unfolding without_summary
  cleared_past_lem = to_past (summary_words shape) (size shape) (omega arith)

  pub cleared_slot : (t : Slot) → Exists shape t → word_at shape t (without_summary shape s) ≡ word_at shape t s
  unfolding without_summary
  cleared_slot t e =
      to_other (summary_words shape) (place shape t)
      (λ a b. true≢false (sym (simp (le-leb (summary_start shape) (place shape t) a, lt-ltb (place shape t) (stack_start shape) b)) ∙ off_summary shape t e))

  pub cleared_summary : Room shape s → (k : ℕ) → in_summary shape k ≡ true → get_or (without_summary shape s) k 0 ≡ 0
  unfolding without_summary
  cleared_summary h k on =
      let from = summary_from shape k on in
      let e : summary_start shape + (k - summary_start shape) ≡ k = omega arith in
      let r = h.room in
      rw e at (to_zero (summary_words shape) (k - summary_start shape) (omega arith) (omega arith))
