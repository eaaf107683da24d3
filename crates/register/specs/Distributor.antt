-- Where an access to the Distributor falls: document 01, "Distributor places" and "Refusal numbers"; the registers are those of IHI 0048,
-- section 4.3. What a place then reads or does, and the lookup of the vCPU, are not said here.
use Rattle.std.specs.Prelude.{Bool, false, cond, not, ◌&&◌, ℕ, ◌-◌, ◌*◌, ◌%◌, eqb, ltb}
use Rattle.register.specs.declared.frame.AccessWidth.{AccessWidth}
use Rattle.register.specs.declared.frame.Refusal.TheVariants.{Access, Width, Vcpu}
use Rattle.register.specs.declared.ranges.BitRegister.{BitRegister}
use Rattle.register.specs.declared.ranges.BitRegister.TheVariants.{Igroupr, Isenabler, Icenabler, Ispendr, Icpendr, Isactiver, Icactiver, Icfgr}
use Rattle.register.specs.declared.ranges.ByteRegister.TheVariants.{Ipriorityr, Itargetsr, Cpendsgir, Spendsgir}
use Rattle.register.specs.declared.ranges.Class.{Class}
use Rattle.register.specs.declared.ranges.Class.TheVariants.{Ctlr, Typer, Iidr, Sgir, Bits, Bytes, Other}
use Rattle.register.specs.declared.distributor.Place.{Place}
use Rattle.register.specs.declared.distributor.DistributorAccess.{DistributorAccess}
use Rattle.register.specs.declared.distributor.DistributorAccess.TheVariants.{Refused, PrivateWidth, At}
use Rattle.register.specs.Frame.{is_dword, is_qword, refusal_number, in_frame}
use Rattle.register.specs.Ranges.{range_at, class_at}

-- how many interrupts a byte of the registers belongs to: "ICFGR .. has two bits per interrupt", the other bit ranges one, IPRIORITYR,
-- ITARGETSR and the registers of SGI sources have a byte for each
abbrev pub bit_numbers_per_byte : BitRegister → ℕ
bit_numbers_per_byte Igroupr = 8
bit_numbers_per_byte Isenabler = 8
bit_numbers_per_byte Icenabler = 8
bit_numbers_per_byte Ispendr = 8
bit_numbers_per_byte Icpendr = 8
bit_numbers_per_byte Isactiver = 8
bit_numbers_per_byte Icactiver = 8
bit_numbers_per_byte Icfgr = 4

abbrev pub numbers_per_byte : Class → ℕ
numbers_per_byte Ctlr = 0
numbers_per_byte Typer = 0
numbers_per_byte Iidr = 0
numbers_per_byte Sgir = 0
numbers_per_byte (Bits register) = bit_numbers_per_byte register
numbers_per_byte (Bytes register) = 1
numbers_per_byte Other = 0

-- the number of the first interrupt at an offset, counted from the start of the range that holds it
unfoldable pub first_number : ℕ → ℕ
first_number offset = (offset - (range_at offset).first) * numbers_per_byte (class_at offset)

-- "Private registers are the first of each bit range, ICFGR's first two and priority bytes 0 to 31: each vCPU has its own": how many bytes at
-- the start of a range these are
abbrev pub private_bytes : Class → ℕ
private_bytes Ctlr = 0
private_bytes Typer = 0
private_bytes Iidr = 0
private_bytes Sgir = 0
private_bytes (Bits Igroupr) = 4
private_bytes (Bits Isenabler) = 4
private_bytes (Bits Icenabler) = 4
private_bytes (Bits Ispendr) = 4
private_bytes (Bits Icpendr) = 4
private_bytes (Bits Isactiver) = 4
private_bytes (Bits Icactiver) = 4
private_bytes (Bits Icfgr) = 8
private_bytes (Bytes Ipriorityr) = 32
private_bytes (Bytes Itargetsr) = 0
private_bytes (Bytes Cpendsgir) = 0
private_bytes (Bytes Spendsgir) = 0
private_bytes Other = 0

unfoldable pub is_private : ℕ → Bool
is_private offset = ltb (offset - (range_at offset).first) (private_bytes (class_at offset))

unfoldable pub place_at : ℕ → Place
place_at offset = record { class = class_at offset; first = record { 0 = first_number offset }; private = is_private offset }

-- a place without numbers
abbrev pub plain : Class → Place
plain class = record { class = class; first = record { 0 = 0 }; private = false }

-- "Every other place .. reads 0 and ignores writes at any width"
abbrev pub other_place : DistributorAccess
other_place = At (plain Other)

-- a width that the register does not take; "at private registers 3 comes before 2"
unfoldable pub unfit : Place → DistributorAccess
unfit place = cond place.private PrivateWidth (Refused Width)

abbrev pub word_start : ℕ → Bool
word_start offset = eqb (offset % 4) 0

-- "4 bytes only"; "a start inside CTLR, TYPER, IIDR or SGIR (not at its first byte)" is another place
unfoldable pub single : Class → ℕ → AccessWidth → DistributorAccess
single class offset width = cond (word_start offset) (cond (is_dword width) (At (plain class)) (Refused Width)) other_place

-- "4 bytes only, aligned; a narrower access that starts inside one of their words, past its first byte, is refused by 2 without a vCPU
-- lookup"
unfoldable pub bit_word : Place → ℕ → AccessWidth → DistributorAccess
bit_word place offset width = cond (word_start offset) (cond (is_dword width) (At place) (unfit place)) (Refused Width)

-- "widths 1, 2, 4"
unfoldable pub byte_array : Place → AccessWidth → DistributorAccess
byte_array place width = cond (is_qword width) (unfit place) (At place)

abbrev pub within : Class → ℕ → AccessWidth → DistributorAccess
within Ctlr offset width = single Ctlr offset width
within Typer offset width = single Typer offset width
within Iidr offset width = single Iidr offset width
within Sgir offset width = single Sgir offset width
within (Bits register) offset width = bit_word (place_at offset) offset width
within (Bytes register) offset width = byte_array (place_at offset) width
within Other offset width = other_place

unfoldable pub locate_in_frame : ℕ → AccessWidth → DistributorAccess
locate_in_frame offset width = within (class_at offset) offset width

-- an access, by its offset and width alone: "1, then 2", in a frame of 0x1000 bytes
unfoldable pub locate_distributor : ℕ → AccessWidth → DistributorAccess
locate_distributor offset width = cond (in_frame 0x1000 offset width) (locate_in_frame offset width) (Refused Access)

-- the refusal that an access meets by itself, 0 for none: at a private register the vCPU is looked up, and `exists` says whether it is
-- there. Other places that look up their vCPU do so later.
unfoldable pub distributor_refusal : Bool → DistributorAccess → ℕ
distributor_refusal exists (Refused r) = refusal_number r
distributor_refusal exists PrivateWidth = cond exists (refusal_number Width) (refusal_number Vcpu)
distributor_refusal exists (At place) = cond (not exists && place.private) (refusal_number Vcpu) 0
