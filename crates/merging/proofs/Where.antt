-- The places and the states that the theorems speak of: each word of ISENABLER, the first too, each aligned access to ITARGETSR, the first eight words too,
-- and every controller. Assumes nothing.
use mathlib.Core.Path.{◌≡◌, ap}
use mathlib.Core.Bool.{true, false}
use mathlib.Core.List.{List}
use Prim.Native.Nat.{ℕ, ◌+◌, ◌*◌, ◌%◌, ◌≤◌, ◌<◌}
use native.Mathlib.Omega.{arith}
use borrow.Author.Tests.{le-leb, lt-ltb}
use Rattle.register.specs.declared.frame.AccessWidth.{AccessWidth}
use Rattle.register.specs.declared.frame.AccessWidth.TheVariants.{Dword}
use Rattle.register.specs.declared.ranges.BitRegister.{BitRegister}
use Rattle.register.specs.declared.ranges.BitRegister.TheVariants.{Isenabler}
use Rattle.register.specs.declared.ranges.ByteRegister.{ByteRegister}
use Rattle.register.specs.declared.ranges.ByteRegister.TheVariants.{Itargetsr}
use Rattle.register.specs.declared.ranges.Class.TheVariants.{Bits, Bytes}
use Rattle.register.specs.declared.ranges.RegisterRange.{RegisterRange}
use Rattle.register.specs.Distributor.{place_at, bit_word, byte_array, locate_in_frame, locate_distributor}
use Rattle.register.specs.Frame.{is_qword, in_frame}
use Rattle.register.specs.Ranges.{ranges, range_numbered, class_at}
use Rattle.register.proofs.Map.{ranges_apart}
use Rattle.lawful.specs.Lawful.{Controller}
use Rattle.merging.specs.Merging.{Described, PlacedAs}

-- a word of a bit register, and an aligned access of at most 4 bytes to a byte array
pub word_placed : (o : ℕ) (register : BitRegister) → o + 4 ≤ 0x1000 → o % 4 ≡ 0 → class_at o ≡ Bits register → PlacedAs o Dword (Bits register)
unfolding locate_distributor locate_in_frame bit_word place_at
word_placed o register inside aligned e = record { place = place_at o; located = simp (le-leb (o + 4) 0x1000 inside, aligned, e); is = e }

pub bytes_placed : (o : ℕ) (w : AccessWidth) (register : ByteRegister) → in_frame 0x1000 o w ≡ true → is_qword w ≡ false → class_at o ≡ Bytes register → PlacedAs o w (Bytes register)
unfolding locate_distributor locate_in_frame byte_array place_at
bytes_placed o w register inside narrow e = record { place = place_at o; located = simp (inside, e, narrow); is = e }

-- ISENABLER: 32 words, of which the first is private
pub set_enable_there : (i : ℕ) → i < 32 → PlacedAs (0x100 + 4 * i) Dword (Bits Isenabler)
unfolding range_numbered ranges
set_enable_there i h =
    word_placed (0x100 + 4 * i) Isenabler (omega arith) (omega arith)
    (ap (λ (r : RegisterRange). r.class) (ranges_apart 4 (0x100 + 4 * i) (omega arith) (simp (le-leb 0x100 (0x100 + 4 * i) (omega arith), lt-ltb (0x100 + 4 * i) 0x180 (omega arith)) tt)))

-- ITARGETSR: each aligned access of 1, 2 or 4 bytes; the first eight words ignore writes
pub targets_there : (o : ℕ) (w : AccessWidth) → 0x800 ≤ o → o < 0xbfc → in_frame 0x1000 o w ≡ true → is_qword w ≡ false → PlacedAs o w (Bytes Itargetsr)
unfolding range_numbered ranges
targets_there o w from below inside narrow =
    bytes_placed o w Itargetsr inside narrow (ap (λ (r : RegisterRange). r.class) (ranges_apart 11 o (omega arith) (simp (le-leb 0x800 o from, lt-ltb o 0xbfc below) tt)))

-- a controller has demand 3's properties
pub controller_described : (s : List ℕ) → Controller s → Described s
controller_described s c = record { shape = c.shape; holds = c.controls.lawful.in_range; orderly = c.controls.lawful.orderly }
