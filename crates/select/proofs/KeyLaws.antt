-- The least key of all records is the best candidate's. Assumes nothing.
use Rattle.std.specs.Prelude.{Option, Some, None}
use mathlib.Core.Path.{◌≡◌, refl, sym, ap, ◌∙◌}
use mathlib.Core.Bool.{Bool, true, false, cond, ◌&&◌, and_comm}
use mathlib.Core.List.{List}
use mathlib.Core.Logic.{inl, inr}
use Prim.Native.Nat.{ℕ, zero, suc, ◌+◌, ◌*◌, ◌-◌, ◌/◌, ◌%◌, ◌≤◌, ◌<◌}
use native.Mathlib.Nat.{add-zero, zero-add, add-suc, le_refl, not-suc-le-zero}
use native.Mathlib.Omega.{arith}
use lib.Dec.{ltb}
use lib.ListN.{length, get_or}
use borrow.Author.Tests.{lt-ltb, le-ltb, ltb-true, ltb-false}
use Rattle.state.specs.declared.layout.Shape.{Shape}
use Rattle.state.specs.declared.layout.InterfaceValue.TheVariants.{PriorityMask}
use Rattle.state.specs.Layout.{Spi, place, spi_start, Limits}
use Rattle.state.specs.Words.{word_at, record_slot, record_at, ready_bit, interface_at}
use Rattle.state.proofs.Accessors.{record_run}
use Rattle.state.proofs.Tests.{left_true, right_true}
use Rattle.word.specs.Word.{record_of}
use Rattle.select.specs.declared.WordTest.{WordTest}
use Rattle.select.specs.declared.Candidate.{Candidate}
use Rattle.select.specs.Select.{offered, candidate, candidate_for, wins, better, best_among, best_below, best, ready_at, Looked}
use Rattle.select.specs.Keys.{private_bits, spi_bits, test_of, ready_word, key_of, selected_by, least, with_word, least_key, every_number, bit_is_set, LowEnough, urgent}
use Rattle.select.proofs.Ready.{private_word, spi_word}

-- a selection among the numbers below n, of a priority below the mask
abbrev Bounded : ℕ → ℕ → Option Candidate → Type 0
Bounded mask n None = Unit
Bounded mask n (Some e) = (e.intid.0 < n) × (e.priority.0 < mask)

one_more : (mask n : ℕ) (b : Option Candidate) → Bounded mask n b → Bounded mask (suc n) b
one_more mask n None h = tt
one_more mask n (Some e) h = (let a : e.intid.0 < n = h.0 in omega arith, h.1)

key_back : (mask n : ℕ) (b : Option Candidate) → n ≤ 1024 → Bounded mask n b → selected_by (1024 * mask) (key_of (1024 * mask) b) ≡ b
key_back mask n None h w = simp (le-ltb (1024 * mask) (1024 * mask) (le_refl (1024 * mask)))
key_back mask n (Some e) h w =
    let i : e.intid.0 < n = w.0 in
    let p : e.priority.0 < mask = w.1 in
    let k : 1024 * e.priority.0 + e.intid.0 < 1024 * mask = omega arith in
    let a : (1024 * e.priority.0 + e.intid.0) % 1024 ≡ e.intid.0 = omega arith in
    let b : (1024 * e.priority.0 + e.intid.0) / 1024 ≡ e.priority.0 = omega arith in
    simp (lt-ltb _ _ k, a, b)

-- below the mask and below a bound at once
pub bound_key : (mask bound n : ℕ) (b : Option Candidate) → n ≤ 1024 → Bounded mask n b → ltb (key_of (1024 * mask) b) (least (1024 * mask) (1024 * bound)) ≡ urgent bound b
bound_key mask bound n b h w = go (ltb (1024 * mask) (1024 * bound)) refl b w
  where
    go : (t : Bool) → ltb (1024 * mask) (1024 * bound) ≡ t → (b : Option Candidate) → Bounded mask n b → ltb (key_of (1024 * mask) b) (cond t (1024 * mask) (1024 * bound)) ≡ urgent bound b
    go true e None w = le-ltb (1024 * mask) (1024 * mask) (le_refl (1024 * mask))
    go false e None w = le-ltb (1024 * mask) (1024 * bound) (ltb-false _ _ e)
    go true e (Some c) w =
        let i : c.intid.0 < n = w.0 in
        let p : c.priority.0 < mask = w.1 in
        let m = ltb-true (1024 * mask) (1024 * bound) e in
        lt-ltb (1024 * c.priority.0 + c.intid.0) (1024 * mask) (omega arith) ∙ sym (lt-ltb c.priority.0 bound (omega arith))
    go false e (Some c) w = let i : c.intid.0 < n = w.0 in below (ltb c.priority.0 bound) refl i
      where
        below : (x : Bool) → ltb c.priority.0 bound ≡ x → c.intid.0 < n → ltb (1024 * c.priority.0 + c.intid.0) (1024 * bound) ≡ x
        below true q i = let a = ltb-true c.priority.0 bound q in lt-ltb (1024 * c.priority.0 + c.intid.0) (1024 * bound) (omega arith)
        below false q i = let a = ltb-false c.priority.0 bound q in le-ltb (1024 * c.priority.0 + c.intid.0) (1024 * bound) (omega arith)

-- a search that stopped early tells whether the least key is low enough, and one that may not stop gives it
pub low_same : (enough full r : ℕ) → LowEnough enough full r → ltb r enough ≡ ltb full enough
low_same enough full r (inl e) = rw e
low_same enough full r (inr w) = lt-ltb r enough w.0 ∙ sym (lt-ltb full enough w.1)

pub low_exact : (full r : ℕ) → LowEnough 0 full r → r ≡ full
low_exact full r (inl e) = e
low_exact full r (inr w) = absurd (not-suc-le-zero w.0)

-- what is at or past the mask changes nothing
past_mask : (mask n k : ℕ) (x : Option Candidate) → n ≤ 1024 → Bounded mask n x → 1024 * mask ≤ k → least k (key_of (1024 * mask) x) ≡ key_of (1024 * mask) x
past_mask mask n k None h w past = simp (le-ltb k (1024 * mask) past)
past_mask mask n k (Some e) h w past =
    let i : e.intid.0 < n = w.0 in
    let p : e.priority.0 < mask = w.1 in
    simp (le-ltb k (1024 * e.priority.0 + e.intid.0) (omega arith))

module _ (shape : Shape) (v : ℕ) (s : List ℕ) where
  abbrev mask : ℕ
  mask = interface_at shape v PriorityMask s

  abbrev priority : ℕ → ℕ
  priority n = (record_at shape v n s).priority.0

  abbrev ready_of : ℕ → Bool
  ready_of n = offered v n (record_at shape v n s) && ready_at shape v s n

  -- the key of the best of the numbers below n
  abbrev best_key : ℕ → ℕ
  best_key n = key_of (1024 * mask) (best_below shape v s n)

  -- passes, and is urgent
  candidate_is : (n : ℕ) → candidate shape v s n ≡ (ready_of n && ltb (priority n) mask)
  unfolding candidate
  candidate_is n = refl

  bounded : (n : ℕ) → Bounded mask n (best_below shape v s n)
  unfolding best_among
  bounded zero = tt
  bounded (suc n) = go (candidate shape v s n && wins (candidate_for shape v s n) (best_below shape v s n)) refl (bounded n)
    where
      go : (b : Bool) → (candidate shape v s n && wins (candidate_for shape v s n) (best_below shape v s n)) ≡ b → Bounded mask n (best_below shape v s n)
          → Bounded mask (suc n) (cond b (Some (candidate_for shape v s n)) (best_below shape v s n))
      go true p h =
          let chosen = sym (candidate_is n) ∙ left_true (candidate shape v s n) (wins (candidate_for shape v s n) (best_below shape v s n)) p in
          (omega arith, ltb-true (priority n) mask (right_true (ready_of n) (ltb (priority n) mask) chosen))
      go false p h = one_more mask n (best_below shape v s n) h

  -- one number more
  key_step : (n : ℕ) (fit : Bool) (x : Option Candidate) → n < 1020 → Bounded mask n x
      → cond fit (least (1024 * priority n + n) (key_of (1024 * mask) x)) (key_of (1024 * mask) x) ≡ key_of (1024 * mask) (better (fit && ltb (priority n) mask) (candidate_for shape v s n) x)
  key_step n false x h w = refl
  key_step n true x h w = go (ltb q mask) refl x w
    where
      q : ℕ
      q = priority n

      tie : (e : Candidate) (b : Bool) → e.intid.0 < n → ltb q e.priority.0 ≡ b
          → least (1024 * q + n) (1024 * e.priority.0 + e.intid.0) ≡ key_of (1024 * mask) (cond b (Some (candidate_for shape v s n)) (Some e))
      tie e true i p = let a = ltb-true q e.priority.0 p in simp (lt-ltb (1024 * q + n) (1024 * e.priority.0 + e.intid.0) (omega (arith, a)))
      tie e false i p = let a = ltb-false q e.priority.0 p in simp (le-ltb (1024 * q + n) (1024 * e.priority.0 + e.intid.0) (omega (arith, a, i)))

      go : (b : Bool) → ltb q mask ≡ b → (x : Option Candidate) → Bounded mask n x → least (1024 * q + n) (key_of (1024 * mask) x) ≡ key_of (1024 * mask) (better b (candidate_for shape v s n) x)
      go false p x w = let a = ltb-false q mask p in past_mask mask n (1024 * q + n) x (omega arith) w (omega (arith, a))
      go true p None w = let a = ltb-true q mask p in simp (lt-ltb (1024 * q + n) (1024 * mask) (omega (arith, a)))
      go true p (Some e) w = tie e (ltb q e.priority.0) w.0 refl

  one_more_best : (n : ℕ) → best_below shape v s (suc n) ≡ better (candidate shape v s n) (candidate_for shape v s n) (best_below shape v s n)
  unfolding best_among
  one_more_best n = refl

  module _ (asked : ℕ → Bool) (test : WordTest) (offset : ℕ) where
    -- the word at `offset + n` is the record of the number n, and to be asked and to pass the test is what it takes
    pub record Tested (n : ℕ) : Type 0 where
      pub stands : place shape (record_slot v n) ≡ offset + n
      pub passes : (asked n && ready_word test (word_at shape (record_slot v n) s)) ≡ ready_of n

    -- asked and tested in one
    asked_word : (n w so_far : ℕ) → cond (asked n) (with_word test n w so_far) so_far ≡ cond (asked n && ready_word test w) (least (1024 * (w / 256 % 256) + n) so_far) so_far
    asked_word n w so_far = go (asked n)
      where
        go : (b : Bool) → cond b (with_word test n w so_far) so_far ≡ cond (b && ready_word test w) (least (1024 * (w / 256 % 256) + n) so_far) so_far
        go true = refl
        go false = refl

    record_step : (n : ℕ) → n < 1020 → Tested n → cond (asked n) (with_word test n (get_or s (offset + n) 0) (best_key n)) (best_key n) ≡ best_key (suc n)
    unfolding record_of
    record_step n h t =
        let x = best_below shape v s n in
        ap (λ (k : ℕ). cond (asked n) (with_word test n (get_or s k 0) (best_key n)) (best_key n)) (sym t.stands)
        ∙ asked_word n (word_at shape (record_slot v n) s) (best_key n)
        ∙ rw t.passes (key_step n (ready_of n) x h (bounded n))
        ∙ ap (λ (b : Bool). key_of (1024 * mask) (better b (candidate_for shape v s n) x)) (sym (candidate_is n))
        ∙ ap (key_of (1024 * mask)) (sym (one_more_best n))

    -- a run of records, after the numbers before it
    pub key_run : (first i : ℕ) → first + i ≤ 1020 → ((j : ℕ) → j < i → Tested (first + j))
        → least_key asked test offset first s (best_key first) i ≡ best_key (first + i)
    unfolding least_key
    key_run first zero h tested = rw add-zero
    key_run first (suc i) h tested =
        ap (λ (x : ℕ). cond (asked (first + i)) (with_word test (first + i) (get_or s (offset + (first + i)) 0) x) x) (key_run first i (omega arith) (λ j b. tested j (omega arith)))
        ∙ record_step (first + i) (omega arith) (tested i (omega arith))
        ∙ ap best_key (sym (add-suc first i))

  pub private_inside : Looked shape v s → place shape (record_slot v 0) + 32 ≤ length s
  unfolding record_slot
  private_inside h = omega arith

  -- the private records, and after them the SPIs
  pub key_private : least_key every_number (test_of private_bits) (place shape (record_slot v 0)) 0 s (1024 * mask) 32 ≡ best_key 32
  unfolding best_among
  key_private = key_run every_number (test_of private_bits) (place shape (record_slot v 0)) 0 32 (omega arith) tested
    where
      tested : (j : ℕ) → j < 32 → Tested every_number (test_of private_bits) (place shape (record_slot v 0)) (0 + j)
      tested j b = record {
        stands = record_run shape v 0 j (λ p. omega arith) ∙ ap (λ (k : ℕ). place shape (record_slot v 0) + k) (sym (zero-add j));
        passes = rw (lt-ltb (0 + j) 32 (omega arith)) (private_word (word_at shape (record_slot v (0 + j)) s));
      }

  pub key_spis : Limits shape → v < 8 → least_key (bit_is_set shape s) (test_of (spi_bits v)) (spi_start shape - 32) 32 s (best_key 32) (shape.limit - 32) ≡ best_key shape.limit
  unfolding record_slot
  key_spis l few =
      let all : 32 + (shape.limit - 32) ≡ shape.limit = omega arith in
      key_run (bit_is_set shape s) (test_of (spi_bits v)) (spi_start shape - 32) 32 (shape.limit - 32) (omega arith) tested
      ∙ ap best_key all
    where
      not_lt_self : 32 < 32 → ⊥
      not_lt_self p = omega arith

      spi_first : (j : ℕ) → place shape (record_slot v 32) + j ≡ spi_start shape - 32 + (32 + j)
      spi_first j = omega arith

      tested : (j : ℕ) → j < shape.limit - 32 → Tested (bit_is_set shape s) (test_of (spi_bits v)) (spi_start shape - 32) (32 + j)
      tested j b = record {
        stands = record_run shape v 32 j (λ p. absurd (not_lt_self p)) ∙ spi_first j;
        passes = rw (le-ltb (32 + j) 32 (omega arith), spi_word v (word_at shape (Spi (32 + j)) s) few) (and_comm (ready_bit shape (32 + j) s) _);
      }

  pub urgent_best : Limits shape → (bound : ℕ) → ltb (best_key shape.limit) (least (1024 * mask) (1024 * bound)) ≡ urgent bound (best shape v s)
  urgent_best l bound = bound_key mask bound shape.limit (best shape v s) (omega arith) (bounded shape.limit)

  pub selected_best : Limits shape → selected_by (1024 * mask) (best_key shape.limit) ≡ best shape v s
  selected_best l = key_back mask shape.limit (best shape v s) (omega arith) (bounded shape.limit)
