-- A fresh controller is lawful, for every count and limit and whatever was in the lent words before. Assumes nothing.
use mathlib.Core.Path.{◌≡◌, refl, ap, subst, sym, ◌∙◌}
use mathlib.Core.Bool.{Bool, true, false, cond, false≢true}
use mathlib.Core.List.{List}
use Prim.Native.Nat.{ℕ, ◌<◌}
use native.Mathlib.Omega.{arith}
use lib.Dec.{ltb}
use lib.Pow.{pow_pos}
use borrow.Author.Tests.{lt-ltb}
use Rattle.interrupt.specs.declared.record.InterruptRecord.{InterruptRecord}
use Rattle.interrupt.specs.Record.{new_record, starting_record}
use Rattle.interrupt.specs.Types.{starting_trigger}
use Rattle.word.specs.Word.{record_of, word_of}
use Rattle.word.proofs.RecordWord.{decode_encode}
use Rattle.state.specs.declared.layout.Shape.{Shape}
use Rattle.state.specs.declared.layout.InterfaceValue.TheVariants.{Depth}
use Rattle.state.specs.Fresh.{fresh}
use Rattle.state.specs.Layout.{Interface, Sources, Private, Spi, Room}
use Rattle.state.specs.Words.{record_slot, RecordThere, record_at, start_of}
use Rattle.state.proofs.Accessors.{record_exists}
use Rattle.state.proofs.Places.{starting_in_range}
use Rattle.state.proofs.Starting.{fresh_word, fresh_held, fresh_canonical, fresh_exact}
use Rattle.service.specs.Service.{depth_at}
use Rattle.lawful.specs.Lawful.{OrderlyRecord, LawfulRecord, Orderly, Lawful, Controls}

starts : (shape : Shape) (v n : ℕ) → start_of shape (record_slot v n) ≡ word_of (starting_record (record { 0 = n }))
unfolding record_slot
starts shape v n = go (ltb n 32)
  where
    go : (b : Bool) → start_of shape (cond b (Private v n) (Spi n)) ≡ word_of (starting_record (record { 0 = n }))
    go true = refl
    go false = refl

starting_orderly : (shape : Shape) (n : ℕ) → OrderlyRecord shape (starting_record (record { 0 = n }))
unfolding starting_record new_record
starting_orderly shape n = record { active = λ e. absurd (false≢true e); charged = λ e. absurd (false≢true e); noted = λ e. absurd (false≢true e) }

starting_lawful : (shape : Shape) (v n : ℕ) → LawfulRecord shape v n (starting_record (record { 0 = n }))
unfolding starting_record new_record starting_trigger
starting_lawful shape v n = record {
  sgi_edge = λ b. simp (lt-ltb n 16 b);
  sgi_low = λ b. refl;
  sgi_unnoted = λ b. refl;
  existing = pow_pos shape.count;
  unmasked = λ b. refl;
  own = λ b e. absurd (false≢true e);
  idle = λ e. refl;
}

starting_quiet : (n : ℕ) → (starting_record (record { 0 = n })).pending ≡ false
unfolding starting_record new_record
starting_quiet n = refl

module _ (shape : Shape) (s : List ℕ) (h : Room shape s) where
  started : (v n : ℕ) → RecordThere shape v n → starting_record (record { 0 = n }) ≡ record_at shape v n (fresh shape s)
  started v n there =
      sym (ap record_of (fresh_word shape s (record_slot v n) h (record_exists shape v n there) ∙ starts shape v n) ∙ decode_encode (starting_record (record { 0 = n })) (starting_in_range n))

  empty : (v : ℕ) → v < shape.count → depth_at shape v (fresh shape s) ≡ 0
  empty v b = fresh_word shape s (Interface v Depth) h b

  fresh_orderly : Orderly shape (fresh shape s)
  fresh_orderly = record {
    falling = λ v i j b k d. absurd (omega (arith, empty v b, d));
    below_idle = λ v i b d. absurd (omega (arith, empty v b, d));
    even = λ v i b d. absurd (omega (arith, empty v b, d));
    records = λ v n there. subst (OrderlyRecord shape) (started v n there) (starting_orderly shape n);
    sourced = λ v n b sgi.
        ap (λ (r : InterruptRecord). r.pending) (sym (started v n (record { numbered = omega (arith, sgi, h.limits.private_numbers_lem); banked = λ low. b })))
        ∙ starting_quiet n ∙ rw (fresh_word shape s (Sources v n) h (b, sgi));
    summary = fresh_exact shape s h;
  }

  pub fresh_lawful : Lawful shape (fresh shape s)
  fresh_lawful = record {
    orderly = fresh_orderly;
    records = λ v n there. subst (LawfulRecord shape v n) (started v n there) (starting_lawful shape v n);
    numbered = λ v i b d. absurd (omega (arith, empty v b, d));
    in_range = fresh_held shape s h;
  }

  pub fresh_controls : Controls shape (fresh shape s)
  fresh_controls = record { lawful = fresh_lawful; canonical = fresh_canonical shape s h }
