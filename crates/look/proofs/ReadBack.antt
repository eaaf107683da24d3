-- What a look at an interrupt tells: its record, whole; and in a state as we write it the very word that is stored. Assumes nothing.
use Rattle.std.specs.Prelude.{Some}
use mathlib.Core.Path.{◌≡◌, refl, sym, ap, ◌∙◌}
use mathlib.Core.Bool.{Bool, true, false, cond}
use mathlib.Core.List.{List}
use Prim.Native.Nat.{ℕ}
use lib.Dec.{ltb}
use borrow.Author.Tests.{ltb-true, lt-ltb}
use Rattle.word.specs.Word.{word_of, record_of}
use Rattle.word.proofs.RecordWord.{decode_encode, decoded_in_range}
use Rattle.state.specs.declared.layout.Shape.{Shape}
use Rattle.state.specs.Layout.{Private, Spi}
use Rattle.state.specs.Lent.{validated}
use Rattle.state.specs.Words.{word_at, record_slot, RecordThere, record_at, rewritten, Canonical}
use Rattle.state.proofs.Accessors.{record_exists}
use Rattle.answer.specs.Answer.{Outcome, gave}
use Rattle.answer.proofs.Present.{found}
use Rattle.look.specs.Look.{interrupt_word}

module _ (shape : Shape) (v n : ℕ) (s : List ℕ) (h : validated s ≡ Some shape) (there : RecordThere shape v n) where
  pub looked_at : interrupt_word v n s ≡ gave (word_of (record_at shape v n s)) s
  unfolding interrupt_word
  looked_at = simp (h, lt-ltb n shape.limit there.numbered, found (ltb n 32) shape v (λ e. there.banked (ltb-true n 32 e)))

  pub record_told : record_of (interrupt_word v n s).value ≡ record_at shape v n s
  record_told = ap (λ (o : Outcome). record_of o.value) looked_at ∙ decode_encode (record_at shape v n s) (decoded_in_range (word_at shape (record_slot v n) s))

  -- a record's word, private or not, is written for what it means
  as_written : (w : ℕ) → rewritten (record_slot v n) w ≡ word_of (record_of w)
  unfolding record_slot
  as_written w = go (ltb n 32)
    where
      go : (b : Bool) → rewritten (cond b (Private v n) (Spi n)) w ≡ word_of (record_of w)
      go true = refl
      go false = refl

  pub word_told : Canonical shape s → (interrupt_word v n s).value ≡ word_at shape (record_slot v n) s
  word_told c =
      let w : ℕ = word_at shape (record_slot v n) s in
      ap (λ (o : Outcome). o.value) looked_at ∙ sym (as_written w) ∙ c.written (record_slot v n) (record_exists shape v n there)
