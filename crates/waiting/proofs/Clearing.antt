-- What a write to ICPENDR leaves of a pending PPI or SPI. Assumes nothing.
use mathlib.Core.Path.{◌≡◌, refl, ap, ◌∙◌}
use mathlib.Core.Bool.{Bool, true, false, not, cond, ◌&&◌}
use mathlib.Core.List.{List}
use Prim.Native.Nat.{ℕ, ◌-◌, ◌≤◌}
use lib.Dec.{eqb}
use borrow.Author.Tests.{le-ltb}
use Rattle.interrupt.specs.declared.record.InterruptRecord.{InterruptRecord}
use Rattle.interrupt.specs.Record.{held}
use Rattle.word.specs.Fields.{field_at}
use Rattle.register.specs.declared.ranges.BitRegister.TheVariants.{Icpendr}
use Rattle.state.specs.declared.layout.Shape.{Shape}
use Rattle.state.specs.Words.{RecordThere, record_at}
use Rattle.bits.specs.Bits.{write_bits, BitWordAt}
use Rattle.bits.proofs.Registers.{written}
use Rattle.moves.proofs.Pending.{left_cleared}
use Rattle.waiting.specs.Waiting.{pends, meets, among}
use Rattle.waiting.proofs.BitWrites.{bit_record}

kept : (b : Bool) → b ≡ (b && true)
kept true = refl
kept false = refl

cleared_unless : (a b : Bool) → (a && b) ≡ (b && not (not a))
cleared_unless true true = refl
cleared_unless true false = refl
cleared_unless false true = refl
cleared_unless false false = refl

-- a number is pending exactly if it was, and was not cleared, or its line is held
pub cleared_pends : (shape : Shape) (v n : ℕ) → RecordThere shape v n → 16 ≤ n → (u first value : ℕ) (s : List ℕ) → BitWordAt shape Icpendr u first s
    → pends shape v n (write_bits shape Icpendr u first value s)
    ≡ (pends shape v n s && not ((meets v n u && among n first 32) && eqb (field_at 1 (n - first) value) 1 && not (held (record_at shape v n s))))
cleared_pends shape v n there no_sgi u first value s at =
    ap (λ (q : InterruptRecord). q.pending) (bit_record shape Icpendr v n there u first value s at) ∙ go (meets v n u && among n first 32) (field_at 1 (n - first) value)
  where
    by_field : (b : Bool) (x : ℕ) → eqb x 1 ≡ b → (written Icpendr n x (record_at shape v n s)).pending ≡ (pends shape v n s && not (b && not (held (record_at shape v n s))))
    by_field true x e = simp (e, le-ltb n 16 no_sgi) (left_cleared (record_at shape v n s) ∙ cleared_unless (held (record_at shape v n s)) (pends shape v n s))
    by_field false x e = simp e (kept (pends shape v n s))

    go : (b : Bool) (x : ℕ) → (cond b (written Icpendr n x (record_at shape v n s)) (record_at shape v n s)).pending ≡ (pends shape v n s && not (b && eqb x 1 && not (held (record_at shape v n s))))
    go true x = by_field (eqb x 1) x refl
    go false x = kept (pends shape v n s)
