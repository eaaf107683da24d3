-- The Distributor's register map: IHI 0048, Table 4-1, "Distributor register map", as document 01 has it under "Distributor places".
-- IPRIORITYR and ITARGETSR have a byte for each number below 1020, so that 0x7FC and 0xBFC belong to no register. Left out on purpose:
-- NSACR, the identification registers and what IHI leaves to the implementer, which document 01 takes for other places.
use Rattle.std.specs.Prelude.{Bool, cond, ◌&&◌, List, [], ◌∷◌, ℕ, ◌+◌, leb, ltb, get_or}
use Rattle.register.specs.declared.ranges.BitRegister.{BitRegister}
use Rattle.register.specs.declared.ranges.BitRegister.TheVariants.{Igroupr, Isenabler, Icenabler, Ispendr, Icpendr, Isactiver, Icactiver, Icfgr}
use Rattle.register.specs.declared.ranges.ByteRegister.{ByteRegister}
use Rattle.register.specs.declared.ranges.ByteRegister.TheVariants.{Ipriorityr, Itargetsr, Cpendsgir, Spendsgir}
use Rattle.register.specs.declared.ranges.Class.{Class}
use Rattle.register.specs.declared.ranges.Class.TheVariants.{Ctlr, Typer, Iidr, Sgir, Bits, Bytes, Other}
use Rattle.register.specs.declared.ranges.RegisterRange.{RegisterRange}

abbrev pub range : ℕ → ℕ → Class → RegisterRange
range first length class = record { first = first; length = length; class = class }

unfoldable pub ranges : List RegisterRange
ranges =
    range 0x000 4 Ctlr
    ∷ range 0x004 4 Typer
    ∷ range 0x008 4 Iidr
    ∷ range 0x080 0x80 (Bits Igroupr)
    ∷ range 0x100 0x80 (Bits Isenabler)
    ∷ range 0x180 0x80 (Bits Icenabler)
    ∷ range 0x200 0x80 (Bits Ispendr)
    ∷ range 0x280 0x80 (Bits Icpendr)
    ∷ range 0x300 0x80 (Bits Isactiver)
    ∷ range 0x380 0x80 (Bits Icactiver)
    ∷ range 0x400 1020 (Bytes Ipriorityr)
    ∷ range 0x800 1020 (Bytes Itargetsr)
    ∷ range 0xc00 0x100 (Bits Icfgr)
    ∷ range 0xf00 4 Sgir
    ∷ range 0xf10 16 (Bytes Cpendsgir)
    ∷ range 0xf20 16 (Bytes Spendsgir)
    ∷ []

-- the range of a place that is in no register's
abbrev pub nowhere : RegisterRange
nowhere = range 0 0 Other

abbrev pub holds : RegisterRange → ℕ → Bool
holds r offset = leb r.first offset && ltb offset (r.first + r.length)

unfoldable pub range_in : List RegisterRange → ℕ → RegisterRange
range_in [] offset = nowhere
range_in (r ∷ rs) offset = cond (holds r offset) r (range_in rs offset)

-- the range that holds an offset, and its class; no second range does (`ranges_apart` in proofs/Map.antt)
unfoldable pub range_at : ℕ → RegisterRange
range_at offset = range_in ranges offset

abbrev pub class_at : ℕ → Class
class_at offset = (range_at offset).class

-- the number of a class: the place of its row, and 16 for the other places
abbrev pub bit_number : BitRegister → ℕ
bit_number Igroupr = 3
bit_number Isenabler = 4
bit_number Icenabler = 5
bit_number Ispendr = 6
bit_number Icpendr = 7
bit_number Isactiver = 8
bit_number Icactiver = 9
bit_number Icfgr = 12

abbrev pub byte_number : ByteRegister → ℕ
byte_number Ipriorityr = 10
byte_number Itargetsr = 11
byte_number Cpendsgir = 14
byte_number Spendsgir = 15

abbrev pub class_number : Class → ℕ
class_number Ctlr = 0
class_number Typer = 1
class_number Iidr = 2
class_number Sgir = 13
class_number (Bits register) = bit_number register
class_number (Bytes register) = byte_number register
class_number Other = 16

-- the row at a number, and its class; numbers from 16 up have none
unfoldable pub range_numbered : ℕ → RegisterRange
range_numbered n = get_or ranges n nowhere

unfoldable pub class_of : ℕ → Class
class_of n = (range_numbered n).class

unfoldable pub range_of : Class → RegisterRange
range_of c = range_numbered (class_number c)
