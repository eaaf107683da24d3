-- The bit registers: document 01, "Distributor places"; IHI 0048, 4.3.4 to 4.3.10 and 4.3.13. Each word has a field for each of its
-- numbers, of one bit, in ICFGR of two.
use Rattle.std.specs.Prelude.{Bool, true, false, not, cond, ◌&&◌, List, ℕ, ◌+◌, ◌*◌, ◌/◌, ◌≤◌, ◌<◌, eqb, ltb, None}
use Rattle.interrupt.specs.Types.{is_sgi, is_level}
use Rattle.interrupt.specs.Record.{set_enabled, set_pending, set_active, cancel_inflight, set_trigger, set_owner}
use Rattle.interrupt.specs.declared.record.InterruptRecord.{InterruptRecord}
use Rattle.register.specs.declared.ranges.BitRegister.{BitRegister}
use Rattle.register.specs.declared.ranges.BitRegister.TheVariants.{Igroupr, Isenabler, Icenabler, Ispendr, Icpendr, Isactiver, Icactiver, Icfgr}
use Rattle.word.specs.Word.{bit_of, trigger_of}
use Rattle.state.specs.declared.layout.Shape.{Shape}
use Rattle.state.specs.Layout.{Room}
use Rattle.state.specs.Loop.{up_to}
use Rattle.state.specs.Words.{record_at, changed}
use Rattle.word.specs.Fields.{field_at, gathered}

abbrev pub is_config : BitRegister → Bool
is_config Igroupr = false
is_config Isenabler = false
is_config Icenabler = false
is_config Ispendr = false
is_config Icpendr = false
is_config Isactiver = false
is_config Icactiver = false
is_config Icfgr = true

-- "ICFGR .. has two bits per interrupt"
abbrev pub field_bits : BitRegister → ℕ
field_bits register = cond (is_config register) 2 1

-- how many numbers a word of 4 bytes has
abbrev pub per_word : BitRegister → ℕ
per_word register = cond (is_config register) 16 32

-- "A set register and its clear register both read the bit as it stands"; "IGROUPR (reads 0, writes ignored)"; in ICFGR "the high bit 1
-- for edge, the low bit reads 0"
abbrev pub read_field : BitRegister → InterruptRecord → ℕ
read_field Igroupr r = 0
read_field Isenabler r = bit_of r.enabled
read_field Icenabler r = bit_of r.enabled
read_field Ispendr r = bit_of r.pending
read_field Icpendr r = bit_of r.pending
read_field Isactiver r = bit_of r.active
read_field Icactiver r = bit_of r.active
read_field Icfgr r = 2 * bit_of (not (is_level r.trigger))

-- "numbers not below the limit read 0"
unfoldable pub read_number : Shape → BitRegister → ℕ → List ℕ → ℕ → ℕ
read_number shape register v s n = cond (ltb n shape.limit) (read_field register (record_at shape v n s)) 0

-- the word whose first number is `first`, as the vCPU v reads it
unfoldable pub read_bits : Shape → BitRegister → ℕ → ℕ → List ℕ → ℕ
read_bits shape register v first s = gathered (field_bits register) (λ i. read_number shape register v s (first + i)) (per_word register)

-- which fields do something: "0 bits do nothing"; "Pend bits of SGIs ignore writes, and so do their ICFGR bits"
abbrev pub acts : BitRegister → ℕ → ℕ → Bool
acts Igroupr n x = false
acts Isenabler n x = eqb x 1
acts Icenabler n x = eqb x 1
acts Ispendr n x = eqb x 1 && not (is_sgi (record { 0 = n }))
acts Icpendr n x = eqb x 1 && not (is_sgi (record { 0 = n }))
acts Isactiver n x = eqb x 1
acts Icactiver n x = eqb x 1
acts Icfgr n x = not (is_sgi (record { 0 = n }))

-- "ICACTIVER calls `cancel_inflight` too where the record is in flight, and its owner is forgotten"
unfoldable pub clear_active : InterruptRecord → InterruptRecord
clear_active r = cond r.inflight (set_owner (cancel_inflight (set_active r false)) None) (set_active r false)

-- what they do: "to a set register calls `set_enabled`, `set_pending` or `set_active` with true, to a clear register with false"
abbrev pub act : BitRegister → ℕ → InterruptRecord → InterruptRecord
act Igroupr x r = r
act Isenabler x r = set_enabled r true
act Icenabler x r = set_enabled r false
act Ispendr x r = set_pending r true
act Icpendr x r = set_pending r false
act Isactiver x r = set_active r true
act Icactiver x r = clear_active r
act Icfgr x r = set_trigger r (trigger_of (eqb (x / 2) 1))

-- the field x of the number n is written; numbers not below the limit "ignore writes"
unfoldable pub write_number : Shape → BitRegister → ℕ → ℕ → ℕ → List ℕ → List ℕ
write_number shape register v n x s = cond (ltb n shape.limit && acts register n x) (changed shape v n (act register x) s) s

unfoldable pub write_bits : Shape → BitRegister → ℕ → ℕ → ℕ → List ℕ → List ℕ
write_bits shape register v first value s = up_to (λ i. write_number shape register v (first + i) (field_at (field_bits register) i value)) (per_word register) s

-- a word of a bit register: where its numbers are private they all are, and the vCPU exists
pub record BitWordAt (shape : Shape) (register : BitRegister) (v first : ℕ) (s : List ℕ) : Type 0 where
  pub state : Room shape s
  pub together : first < 32 → first + per_word register ≤ 32
  pub banked : first < 32 → v < shape.count
