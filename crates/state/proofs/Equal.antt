-- States as we write them are equal words where they mean the same: every place of a state has its slot, and a canonical word is the one
-- that is written for what it means. Assumes nothing.
use mathlib.Core.Path.{◌≡◌, refl, sym, ap, ap₂, subst, ◌∙◌}
use mathlib.Core.Bool.{Bool, true, false}
use mathlib.Core.List.{List}
use Prim.Native.Nat.{ℕ, ◌+◌, ◌*◌, ◌-◌, ◌%◌, ◌<◌}
use native.Mathlib.Omega.{arith}
use lib.ListN.{get_or, take}
use lib.Seq.{ext_get_or, get_or-take, length-take-le}
use Rattle.interrupt.specs.Record.{is_ready}
use Rattle.word.specs.Word.{flag, record_of, word_of, CanonicalRecord}
use Rattle.word.proofs.RecordWord.{encoded_canonical, decoded_in_range}
use Rattle.state.specs.declared.layout.Shape.{Shape}
use Rattle.state.specs.Layout.{Slot, Spi, first_spi, summary_start, summary_place, size, Exists, Room, in_summary, slot_at}
use Rattle.state.specs.Words.{word_at, rewritten, ready_bit, spis_in, Canonical, Exact}
use Rattle.state.proofs.Places.{every_place, summary_from}
use Rattle.state.proofs.WordBits.{by_bits}

-- of a record: 32 bits, and no mask where none is set; `encode_decode` in crates/word is the way back
pub canonical_record : (w : ℕ) → word_of (record_of w) ≡ w → CanonicalRecord w
canonical_record w e = subst CanonicalRecord e (encoded_canonical (record_of w) (decoded_in_range w))

-- canonical states with exact summaries that mean the same at every slot are the same words
pub canonical_equal : (shape : Shape) (s r : List ℕ) → Room shape s → Room shape r → Canonical shape s → Canonical shape r → Exact shape s → Exact shape r
    → ((t : Slot) → Exists shape t → rewritten t (word_at shape t s) ≡ rewritten t (word_at shape t r)) → take (size shape) s ≡ take (size shape) r
unfolding ready_bit
canonical_equal shape s r hs hr cs cr xs xr same =
    ext_get_or 0 (take (size shape) s) (take (size shape) r)
    (length-take-le (size shape) s hs.room ∙ sym (length-take-le (size shape) r hr.room))
    (λ k b. at k (rw (length-take-le (size shape) s hs.room) at b))
  where
    word : (t : Slot) → Exists shape t → word_at shape t s ≡ word_at shape t r
    word t e = sym (cs.written t e) ∙ same t e ∙ cr.written t e

    -- bit i of the summary's word at k is of this SPI
    spi_at : ℕ → ℕ → ℕ
    spi_at k i = first_spi + 32 * (k - summary_start shape) + i

    bit_at : (k i : ℕ) → in_summary shape k ≡ true → i < spis_in shape k → (Exists shape (Spi (spi_at k i))) × ((summary_place shape (spi_at k i) ≡ k) × (spi_at k i % 32 ≡ i))
    bit_at k i on b = let from = summary_from shape k on in ((omega arith, omega arith), (omega arith, omega arith))

    summary_bit : (k i : ℕ) → in_summary shape k ≡ true → i < spis_in shape k → flag i (get_or s k 0) ≡ flag i (get_or r k 0)
    summary_bit k i on b =
        let here = bit_at k i on b in
        let n = spi_at k i in
        ap₂ (λ (x y : ℕ). flag x (get_or s y 0)) (sym here.1.1) (sym here.1.0)
        ∙ xs.exact n here.0 ∙ ap (λ (w : ℕ). is_ready (record_of w)) (word (Spi n) here.0) ∙ sym (xr.exact n here.0)
        ∙ ap₂ (λ (x y : ℕ). flag x (get_or r y 0)) here.1.1 here.1.0

    placed : (k : ℕ) → k < size shape → (b : Bool) → in_summary shape k ≡ b → get_or s k 0 ≡ get_or r k 0
    placed k b true on = by_bits (spis_in shape k) (get_or s k 0) (get_or r k 0) (cs.spared k on) (cr.spared k on) (λ i l. summary_bit k i on l)
    placed k b false off =
        let p = every_place shape k hs.limits b off in
        ap (λ (j : ℕ). get_or s j 0) (sym p.stands) ∙ word (slot_at shape k) p.exists ∙ ap (λ (j : ℕ). get_or r j 0) p.stands

    at : (k : ℕ) → k < size shape → get_or (take (size shape) s) k 0 ≡ get_or (take (size shape) r) k 0
    at k b = get_or-take (size shape) s k 0 b ∙ placed k b (in_summary shape k) refl ∙ sym (get_or-take (size shape) r k 0 b)
