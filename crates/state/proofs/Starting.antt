-- What setup's fill leaves: every slot as it starts, whatever stood there before; a state that passes the test and is as we write it;
-- words past it as they were. Assumes nothing.
use mathlib.Core.Path.{◌≡◌, refl, sym, ap, ◌∙◌}
use mathlib.Core.Bool.{true, false}
use mathlib.Core.List.{List}
use Prim.Native.Nat.{ℕ, zero, suc, ◌%◌, ◌^◌, ◌≤◌, ◌<◌}
use native.Mathlib.Nat.{not-suc-le-zero, zero-div}
use native.Mathlib.Omega.{arith}
use lib.ListN.{length, get_or, drop, length-set}
use lib.Dec.{eqb}
use lib.Pow.{pow_pos}
use lib.Seq.{get_or-set_same, get_or-set_other, drop-set-lt}
use borrow.Author.Tests.{le-ltb}
use Rattle.interrupt.specs.Record.{new_record, starting_record, is_ready}
use Rattle.word.specs.Word.{record_of, word_of}
use Rattle.word.proofs.Cases.{last_or}
use Rattle.word.proofs.RecordWord.{decode_encode}
use Rattle.state.specs.declared.layout.Shape.{Shape}
use Rattle.state.specs.declared.layout.InterfaceValue.TheVariants.{Depth}
use Rattle.state.specs.Layout.{Slot, Count, Limit, Interface, Spi, Stack, summary_place, in_summary, size, place, Exists, Room}
use Rattle.state.specs.Loop.{up_to}
use Rattle.state.specs.Words.{word_at, start_of, start_at, ready_bit, spis_in, Canonical, Exact}
use Rattle.state.specs.Lent.{HoldsState}
use Rattle.state.specs.Fresh.{started_at, fresh}
use Rattle.state.proofs.Places.{place_inside, slot_back, start_written, off_summary, summary_from, bit_in_summary, starting_in_range}

module _ (shape : Shape) (s : List ℕ) where
  started_length : (n : ℕ) → length (up_to (started_at shape) n s) ≡ length s
  unfolding up_to
  started_length zero = refl
  started_length (suc n) = length-set (up_to (started_at shape) n s) n (start_at shape n) ∙ started_length n

  started_at_lem : (n k : ℕ) → n ≤ length s → k < n → get_or (up_to (started_at shape) n s) k 0 ≡ start_at shape k
  unfolding up_to
  started_at_lem zero k h b = absurd (not-suc-le-zero b)
  started_at_lem (suc n) k h b =
      last_or k n b
      (λ e. rw e (get_or-set_same (up_to (started_at shape) n s) n (start_at shape n) 0 (rw (started_length n) h)))
      (λ c.
      get_or-set_other (up_to (started_at shape) n s) n k (start_at shape n) 0 (λ e. omega arith)
      ∙ started_at_lem n k (omega arith) c)

  started_past : (n m : ℕ) → n ≤ m → drop m (up_to (started_at shape) n s) ≡ drop m s
  unfolding up_to
  started_past zero m h = refl
  started_past (suc n) m h = drop-set-lt m (up_to (started_at shape) n s) n (start_at shape n) h ∙ started_past n m (omega arith)

  pub fresh_length : length (fresh shape s) ≡ length s
  unfolding fresh
  fresh_length = started_length (size shape)

  pub fresh_room : Room shape s → Room shape (fresh shape s)
  fresh_room h = record { limits = h.limits; room = rw fresh_length h.room }

  pub fresh_past : drop (size shape) (fresh shape s) ≡ drop (size shape) s
  unfolding fresh
  fresh_past = started_past (size shape) (size shape) (omega arith)

  -- nothing of the old words is left in the state
  pub fresh_at : (k : ℕ) → Room shape s → k < size shape → get_or (fresh shape s) k 0 ≡ start_at shape k
  unfolding fresh
  fresh_at k h b = started_at_lem (size shape) k h.room b

  pub fresh_word : (t : Slot) → Room shape s → Exists shape t → word_at shape t (fresh shape s) ≡ start_of shape t
  fresh_word t h e =
      fresh_at (place shape t) h (place_inside shape t h.limits e) ∙ rw (off_summary shape t e) (ap (start_of shape) (slot_back shape t e))

  -- no bit of the summary is set
  pub fresh_summary : (k : ℕ) → Room shape s → in_summary shape k ≡ true → get_or (fresh shape s) k 0 ≡ 0
  fresh_summary k h e = let b = summary_from shape k e in fresh_at k h (omega arith) ∙ rw e

  -- a fresh state passes the test of lent words
  pub fresh_held : Room shape s → HoldsState shape (fresh shape s)
  fresh_held h = record {
    stored = λ i. record { count = sym (fresh_word Count h tt) i; limit = sym (fresh_word Limit h tt) i };
    state = fresh_room h;
    depths = λ v b. rw (fresh_word (Interface v Depth) h b) (omega arith);
  }

-- .. and is as we write it
pub fresh_canonical : (shape : Shape) (s : List ℕ) → Room shape s → Canonical shape (fresh shape s)
fresh_canonical shape s h = record {
  written = λ t e. rw (fresh_word shape s t h e) (start_written shape t);
  cleared = λ v i b d l. fresh_word shape s (Stack v i) h (b, l);
  spared = λ k e. rw (fresh_summary shape s k h e) (pow_pos (spis_in shape k));
}

-- .. and its summary is exact: no SPI starts enabled
pub fresh_exact : (shape : Shape) (s : List ℕ) → Room shape s → Exact shape (fresh shape s)
unfolding ready_bit starting_record new_record
fresh_exact shape s h = record {
  exact = λ n e.
      rw (fresh_summary shape s (summary_place shape n) h (bit_in_summary shape n e)) (ap (λ (x : ℕ). eqb (x % 2) 1) (zero-div (2 ^ (n % 32))))
      ∙ sym (ap (λ (w : ℕ). is_ready (record_of w)) (fresh_word shape s (Spi n) h e) ∙ starts_quiet n e);
}
  where
    starts_quiet : (n : ℕ) → Exists shape (Spi n) → is_ready (record_of (word_of (starting_record (record { 0 = n })))) ≡ false
    starts_quiet n e = ap is_ready (decode_encode (starting_record (record { 0 = n })) (starting_in_range n)) ∙ simp (le-ltb n 16 (omega arith))
