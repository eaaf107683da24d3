-- What byte registers read fits a byte. Assumes nothing.
use mathlib.Core.Bool.{Bool, true, false, cond}
use mathlib.Core.List.{List}
use mathlib.Core.Path.{◌≡◌, refl}
use Prim.Native.Nat.{ℕ, suc, ◌+◌, ◌*◌, ◌^◌, ◌<◌}
use native.Mathlib.Omega.{arith}
use lib.Dec.{ltb}
use lib.Pow.{pow-lt}
use borrow.Author.Tests.{ltb-true}
use Rattle.register.specs.declared.ranges.ByteRegister.{ByteRegister}
use Rattle.register.specs.declared.ranges.ByteRegister.TheVariants.{Ipriorityr, Itargetsr, Cpendsgir, Spendsgir}
use Rattle.word.proofs.RecordWord.{decoded_in_range}
use Rattle.state.specs.declared.layout.Shape.{Shape}
use Rattle.state.specs.Words.{word_at, record_slot}
use Rattle.word.specs.Fields.{gathered}
use Rattle.targets.specs.Targets.{own_byte, read_target}
use Rattle.distributor.specs.Bytes.{read_priority, read_byte}
use Rattle.word.proofs.Gathered.{gathered_fits}

own_below : (v : ℕ) → own_byte v < 2 ^ 8
own_below v = go (ltb v 8) refl
  where
    go : (b : Bool) → ltb v 8 ≡ b → cond b (2 ^ v) 0 < 2 ^ 8
    go true e = pow-lt (ltb-true v 8 e)
    go false e = omega arith

-- a choice of two that fit fits
either : {x y : ℕ} (b : Bool) → x < 2 ^ 8 → y < 2 ^ 8 → cond b x y < 2 ^ 8
either true h k = h
either false h k = k

pub byte_below : (shape : Shape) (register : ByteRegister) (v : ℕ) (s : List ℕ) (n : ℕ) → read_byte shape register v s n < 2 ^ 8
unfolding read_priority read_target
byte_below shape Ipriorityr v s n = either (ltb n shape.limit) (decoded_in_range (word_at shape (record_slot v n) s)).priority_byte (omega arith)
byte_below shape Itargetsr v s n =
    either (ltb n 32) (own_below v) (either (ltb n shape.limit) (decoded_in_range (word_at shape (record_slot v n) s)).mask_byte_lem (omega arith))
byte_below shape Cpendsgir v s n = omega arith
byte_below shape Spendsgir v s n = omega arith

-- one byte more fits 32 bits
pub bytes_fit : (shape : Shape) (register : ByteRegister) (v first : ℕ) (s : List ℕ) (i : ℕ) → i < 4
    → gathered 8 (λ j. read_byte shape register v s (first + j)) i + read_byte shape register v s (first + i) * 2 ^ (8 * i) < 2 ^ 32
unfolding gathered
bytes_fit shape register v first s i h =
    gathered_fits 8 (λ j. read_byte shape register v s (first + j)) (λ j. byte_below shape register v s (first + j)) (suc i) 32 (omega arith)
