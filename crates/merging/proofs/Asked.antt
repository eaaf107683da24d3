-- Document 02, Six, in its own words: what was asked for, each from the laws that say more. Assumes nothing.
use mathlib.Core.List.{List}
use mathlib.Core.Path.{refl}
use Prim.Native.Nat.{ℕ}
use lib.Bits.{bit_or}
use Rattle.register.specs.declared.frame.AccessWidth.{AccessWidth}
use Rattle.register.specs.declared.frame.AccessWidth.TheVariants.{Dword}
use Rattle.register.specs.declared.ranges.BitRegister.TheVariants.{Isenabler}
use Rattle.register.specs.declared.ranges.ByteRegister.TheVariants.{Itargetsr}
use Rattle.register.specs.declared.ranges.Class.TheVariants.{Bits, Bytes}
use Rattle.merging.specs.Merging.{Described, PlacedAs, write_there, OneState, OneWakeSet, EitherOrder, NoCommonByte}
use Rattle.merging.proofs.Calls.{two_writes_are_one, wake_sets_add_up}
use Rattle.merging.proofs.Order.{bytes_in_either_order}

-- "for accepted 4-byte writes by one vCPU at the same place, from any state that demand 3 describes: set-enable with a and then with b leaves the state of one
-- write with the bits of both, and the two wake sets together are that write's wake set"
pub set_enable_adds_up : (v offset a b : ℕ) → PlacedAs offset Dword (Bits Isenabler) → (s : List ℕ) → Described s
    → OneState (write_there v offset Dword) a b (bit_or a b) s × OneWakeSet (write_there v offset Dword) a b (bit_or a b) s
set_enable_adds_up v offset a b at s d = (two_writes_are_one v offset Dword (Bits Isenabler) at a b tt s tt, wake_sets_add_up v offset Dword (Bits Isenabler) at refl a b tt s d)

-- "of two ITARGETSR writes only the later counts for the state": in any words at all
pub later_target_counts : (v offset a b : ℕ) → PlacedAs offset Dword (Bytes Itargetsr) → (s : List ℕ) → OneState (write_there v offset Dword) a b b s
later_target_counts v offset a b at s = two_writes_are_one v offset Dword (Bytes Itargetsr) at a b tt s tt

-- "ITARGETSR writes to places without a common byte give the same state in either order": of any widths, by any vCPUs, in any words at all
pub targets_in_either_order : (v u offset offset' : ℕ) (width width' : AccessWidth) → PlacedAs offset width (Bytes Itargetsr) → PlacedAs offset' width' (Bytes Itargetsr)
    → NoCommonByte offset width offset' width' → (a b : ℕ) (s : List ℕ) → EitherOrder (write_there v offset width a) (write_there u offset' width' b) s
targets_in_either_order v u offset offset' width width' at at' apart a b s = bytes_in_either_order v u offset offset' width width' Itargetsr at at' apart a b s
