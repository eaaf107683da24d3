-- What an access that lies in its frame is known to do. Assumes nothing.
use mathlib.Core.Path.{◌≡◌, subst, sym}
use mathlib.Core.Bool.{true}
use Prim.Native.Nat.{ℕ, ◌+◌, ◌≤◌, ◌<◌}
use native.Mathlib.Omega.{arith}
use lib.Dec.{T, leb, leb→le}
use Rattle.register.specs.declared.frame.AccessWidth.{AccessWidth}
use Rattle.register.specs.declared.frame.AccessWidth.TheVariants.{Byte, Word, Dword, Qword}
use Rattle.register.specs.Frame.{bytes, aligned, in_frame}
use Rattle.register.proofs.Tests.{both_left, both_right, is_true}

pub some_bytes : (width : AccessWidth) → 1 ≤ bytes width
some_bytes Byte = omega arith
some_bytes Word = omega arith
some_bytes Dword = omega arith
some_bytes Qword = omega arith

-- both tests of the frame passed
passed : (size offset : ℕ) (width : AccessWidth) → in_frame size offset width ≡ true → T (in_frame size offset width)
passed size offset width e = subst T (sym e) tt

-- it ends in the frame, so it starts there
pub in_frame_ends : (size offset : ℕ) (width : AccessWidth) → in_frame size offset width ≡ true → offset + bytes width ≤ size
in_frame_ends size offset width e =
    leb→le (offset + bytes width) size (both_left (leb (offset + bytes width) size) (aligned offset width) (passed size offset width e))

pub in_frame_below : (size offset : ℕ) (width : AccessWidth) → in_frame size offset width ≡ true → offset < size
in_frame_below size offset width e =
    let ends : offset + bytes width ≤ size = in_frame_ends size offset width e in
    let some : 1 ≤ bytes width = some_bytes width in
    omega arith

pub in_frame_aligned : (size offset : ℕ) (width : AccessWidth) → in_frame size offset width ≡ true → aligned offset width ≡ true
in_frame_aligned size offset width e =
    is_true (aligned offset width) (both_right (leb (offset + bytes width) size) (aligned offset width) (passed size offset width e))
