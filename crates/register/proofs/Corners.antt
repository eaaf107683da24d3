-- Refusals computed from the definitions: those that document 01 and its readings name, and neighbours of theirs by the same rules, in
-- one list; and which offsets are private registers. Assumes nothing.
use mathlib.Core.Bool.{Bool, true, false}
use mathlib.Core.Path.{◌≡◌, refl}
use mathlib.Core.List.{List, [], ◌∷◌, ◌++◌}
use Prim.Native.Nat.{ℕ, ◌+◌, ◌-◌, ◌^◌}
use lib.Dec.{T, eqb}
use Rattle.register.specs.declared.frame.AccessWidth.{AccessWidth}
use Rattle.register.specs.declared.frame.AccessWidth.TheVariants.{Byte, Word, Dword, Qword}
use Rattle.register.specs.declared.distributor.DistributorAccess.{DistributorAccess}
use Rattle.register.specs.declared.distributor.DistributorAccess.TheVariants.{Refused, PrivateWidth, At}
use Rattle.register.specs.CpuInterface.{registers, register_in, register_at, locate_cpu_interface, interface_refusal}
use Rattle.register.specs.Distributor.{first_number, is_private, place_at, unfit, single, bit_word, byte_array, locate_in_frame, locate_distributor, distributor_refusal}
use Rattle.register.specs.Ranges.{ranges, range_in, range_at}
use Rattle.register.proofs.Table.{every, tabulate, passing}

-- an access to the Distributor by a vCPU that exists, by one that does not, and an access to a CPU interface
abbrev there : ℕ → AccessWidth → ℕ
there offset width = distributor_refusal true (locate_distributor offset width)

abbrev nobody : ℕ → AccessWidth → ℕ
nobody offset width = distributor_refusal false (locate_distributor offset width)

abbrev interface : ℕ → AccessWidth → ℕ
interface offset width = interface_refusal (locate_cpu_interface offset width)

-- what the definitions give, and what it has to be
pub record Corner : Type 0 where
  pub gives : ℕ
  pub says : ℕ

infix 80 ◌says◌
abbrev ◌says◌ : ℕ → ℕ → Corner
gives says n = record { gives = gives; says = n }

unfoldable pub corners : List Corner
corners =
    -- document 01, "Corner list": refusals of Distributor reads
    there (2 ^ 64 - 1) Byte says 1
    ∷ there 0x801 Word says 1
    ∷ there 0xfff Byte says 0
    ∷ there 0x1000 Byte says 1
    ∷ there 0x1000 Word says 1
    ∷ there 0x1000 Dword says 1
    ∷ there 0x1000 Qword says 1
    -- private registers: 3 before 2
    ∷ nobody 0x080 Dword says 3
    ∷ nobody 0x080 Qword says 3
    ∷ nobody 0x100 Byte says 3
    ∷ nobody 0x100 Qword says 3
    ∷ nobody 0xc04 Word says 3
    ∷ nobody 0x418 Qword says 3
    ∷ there 0x100 Byte says 2
    ∷ there 0x418 Qword says 2
    -- past the first byte of a bit-range word: 2, nobody is looked up
    ∷ nobody 0x101 Byte says 2
    ∷ nobody 0xc06 Word says 2
    -- shared registers and those of the SGI sources: 2 first
    ∷ nobody 0x104 Byte says 2
    ∷ nobody 0x420 Qword says 2
    ∷ nobody 0xf10 Qword says 2
    -- the start decides: in a byte array, in another place, or inside CTLR
    ∷ there 0x7f8 Qword says 2
    ∷ there 0xbf8 Qword says 2
    ∷ there 0xbfc Qword says 1
    ∷ there 0xbfc Dword says 0
    ∷ there 0x010 Qword says 0
    ∷ there 0x002 Word says 0
    ∷ there 0x000 Word says 2
    -- "target bytes" look nobody up
    ∷ nobody 0x800 Dword says 0
    ∷ there 0x800 Qword says 2
    -- every access to a CPU interface is 4 bytes; 1 before 2
    ∷ interface 0x200 Qword says 2
    ∷ interface 0x004 Qword says 1
    ∷ interface 0x00c Word says 2
    ∷ interface 0x1000 Dword says 0
    ∷ interface 0x2000 Dword says 1
    ∷ interface (2 ^ 64 - 4) Dword says 1
    ∷ []

abbrev pub right : ℕ → Corner → Bool
right i c = eqb c.gives c.says

pub corners_right : T (every right 0 corners)
unfolding corners distributor_refusal locate_distributor locate_in_frame single bit_word byte_array unfit place_at is_private first_number range_at range_in ranges interface_refusal locate_cpu_interface register_at register_in registers
corners_right = tt

-- "Private registers are the first of each bit range, ICFGR's first two and priority bytes 0 to 31": the map takes a byte
-- access at these offsets of the frame for one to a private register, and at no others
abbrev maps_private : DistributorAccess → Bool
maps_private (Refused r) = false
maps_private PrivateWidth = true
maps_private (At place) = place.private

pub private_registers : passing (λ (offset : ℕ). maps_private (locate_distributor offset Byte)) 0 0x1000
    ≡ 0x080 ∷ 0x100 ∷ 0x180 ∷ 0x200 ∷ 0x280 ∷ 0x300 ∷ 0x380 ∷ (tabulate (λ (k : ℕ). 0x400 + k) 0 32 ++ 0xc00 ∷ 0xc04 ∷ [])
unfolding locate_distributor locate_in_frame single bit_word byte_array unfit place_at is_private first_number range_at range_in ranges
private_registers = refl
