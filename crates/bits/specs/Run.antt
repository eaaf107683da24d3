-- How `read_bits` and `write_bits` go about it: what the functions below them promise each other. A reader need not believe any of it; the
-- promises of the two are in Bits.antt.
use Rattle.std.specs.Prelude.{◌≡◌, List, ℕ, ◌+◌, ◌*◌, ◌/◌, ◌%◌, ◌^◌, ◌≤◌, ◌<◌, length, get_or}
use Rattle.register.specs.declared.ranges.BitRegister.{BitRegister}
use Rattle.register.specs.declared.ranges.BitRegister.TheVariants.{Igroupr, Isenabler, Icenabler, Ispendr, Icpendr, Isactiver, Icactiver, Icfgr}
use Rattle.word.specs.Word.{record_of}
use Rattle.bits.specs.Bits.{field_bits, per_word, read_field}

-- r of the k numbers from `first` up are below the limit
pub record Existing (limit first k r : ℕ) : Type 0 where
  pub few : r ≤ k
  pub below : first + r ≤ limit
  pub past : r < k → limit ≤ first + r

-- r is the place of field i, with room for the field in 32 bits
pub record FieldShift (register : BitRegister) (i r : ℕ) : Type 0 where
  pub at : r ≡ field_bits register * i
  pub room : r + field_bits register ≤ 32
  pub below : r < 32

-- a bit register shows one flag of each record: its place in the record's word, and what it counts in the register's field
abbrev pub flag_place : BitRegister → ℕ
flag_place Igroupr = 0
flag_place Isenabler = 0
flag_place Icenabler = 0
flag_place Ispendr = 1
flag_place Icpendr = 1
flag_place Isactiver = 2
flag_place Icactiver = 2
flag_place Icfgr = 6

abbrev pub flag_weight : BitRegister → ℕ
flag_weight Igroupr = 0
flag_weight Isenabler = 1
flag_weight Icenabler = 1
flag_weight Ispendr = 1
flag_weight Icpendr = 1
flag_weight Isactiver = 1
flag_weight Icactiver = 1
flag_weight Icfgr = 2

abbrev pub shown : ℕ → ℕ → ℕ → ℕ
shown place weight w = weight * (w / 2 ^ place % 2)

-- the records of a word stand side by side from the place `base` up: their fields
abbrev pub field_in : BitRegister → ℕ → List ℕ → ℕ → ℕ
field_in register base s i = read_field register (record_of (get_or s (base + i) 0))

pub record RunAt (register : BitRegister) (base there : ℕ) (s : List ℕ) : Type 0 where
  pub in_word : there ≤ per_word register
  pub short : there ≤ 32
  pub inside : base + there ≤ length s
