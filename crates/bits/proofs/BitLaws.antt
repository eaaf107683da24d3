-- What bit registers read and write. Assumes nothing.
use mathlib.Core.Path.{◌≡◌, sym, ap, ap₂, ◌∙◌}
use mathlib.Core.Bool.{Bool, true, false, not, cond}
use Prim.Native.Nat.{ℕ, ◌*◌, ◌/◌, ◌%◌, ◌^◌, ◌<◌}
use native.Mathlib.Nat.{zero-mul, one-mul}
use native.Mathlib.Omega.{arith}
use mathlib.Core.List.{List}
use lib.Dec.{ltb}
use lib.Pow.{pow_pos}
use Rattle.interrupt.specs.declared.record.InterruptRecord.{InterruptRecord}
use Rattle.interrupt.specs.Types.{is_level}
use Rattle.register.specs.declared.ranges.BitRegister.{BitRegister}
use Rattle.register.specs.declared.ranges.BitRegister.TheVariants.{Igroupr, Isenabler, Icenabler, Ispendr, Icpendr, Isactiver, Icactiver, Icfgr}
use Rattle.word.specs.Fields.{field}
use Rattle.word.specs.Word.{bit_of, flag, record_of}
use Rattle.word.proofs.RecordWord.{bit_fits, bit_again, trigger_again}
use Rattle.state.specs.declared.layout.Shape.{Shape}
use Rattle.state.specs.Words.{record_at}
use Rattle.bits.specs.Bits.{field_bits, read_field, read_number}
use Rattle.bits.specs.Run.{flag_place, flag_weight, shown}

two_below : (b : Bool) → 2 * bit_of b < 4
two_below true = omega arith
two_below false = omega arith

pub field_below : (register : BitRegister) (r : InterruptRecord) → read_field register r < 2 ^ field_bits register
field_below Igroupr r = omega arith
field_below Isenabler r = bit_fits r.enabled
field_below Icenabler r = bit_fits r.enabled
field_below Ispendr r = bit_fits r.pending
field_below Icpendr r = bit_fits r.pending
field_below Isactiver r = bit_fits r.active
field_below Icactiver r = bit_fits r.active
field_below Icfgr r = two_below (not (is_level r.trigger))

-- what a number reads fits its field
pub number_below : (shape : Shape) (register : BitRegister) (v : ℕ) (s : List ℕ) (n : ℕ) → read_number shape register v s n < 2 ^ field_bits register
unfolding read_number
number_below shape register v s n = go (ltb n shape.limit)
  where
    go : (b : Bool) → cond b (read_field register (record_at shape v n s)) 0 < 2 ^ field_bits register
    go true = field_below register (record_at shape v n s)
    go false = pow_pos (field_bits register)

-- what a register shows of a record's word is its field of the record
shown_bit : (k w : ℕ) → 1 * (w / 2 ^ k % 2) ≡ bit_of (flag k w)
shown_bit k w = one-mul (w / 2 ^ k % 2) ∙ sym (bit_again (field k 1 w) (omega arith))

flag_shown : (register : BitRegister) (w : ℕ) → shown (flag_place register) (flag_weight register) w ≡ read_field register (record_of w)
unfolding record_of
flag_shown Igroupr w = zero-mul (w / 2 ^ 0 % 2)
flag_shown Isenabler w = shown_bit 0 w
flag_shown Icenabler w = shown_bit 0 w
flag_shown Ispendr w = shown_bit 1 w
flag_shown Icpendr w = shown_bit 1 w
flag_shown Isactiver w = shown_bit 2 w
flag_shown Icactiver w = shown_bit 2 w
flag_shown Icfgr w = ap (λ (x : ℕ). 2 * x) (sym (bit_again (field 6 1 w) (omega arith)) ∙ ap bit_of (sym (trigger_again (flag 6 w))))

pub shown_field : (register : BitRegister) (w place weight r : ℕ) → place ≡ flag_place register → weight ≡ flag_weight register → r ≡ shown place weight w → r ≡ read_field register (record_of w)
shown_field register w place weight r p q e = e ∙ ap₂ (λ (a b : ℕ). shown a b w) p q ∙ flag_shown register w
