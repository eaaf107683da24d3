-- An access to a frame: its widths and the refusals, by document 01, "The part that is ported" (limits) and "Refusal numbers".
use Rattle.std.specs.Prelude.{Bool, true, false, cond, ◌&&◌, ℕ, ◌+◌, ◌%◌, eqb, leb, Option, Some, None}
use Rattle.register.specs.declared.frame.AccessWidth.{AccessWidth}
use Rattle.register.specs.declared.frame.AccessWidth.TheVariants.{Byte, Word, Dword, Qword}
use Rattle.register.specs.declared.frame.Refusal.{Refusal}
use Rattle.register.specs.declared.frame.Refusal.TheVariants.{Access, Width, Vcpu, Limits, ShortState, BrokenState, FullStack, Input, Unlawful, NoRoom, Window}

-- "Widths 1, 2, 4 or 8 bytes"
abbrev pub bytes : AccessWidth → ℕ
bytes Byte = 1
bytes Word = 2
bytes Dword = 4
bytes Qword = 8

-- ".. a call can be given no other"
unfoldable pub decoded_width : ℕ → Option AccessWidth
decoded_width n =
    cond (eqb n 1) (Some Byte)
    (cond (eqb n 2) (Some Word)
    (cond (eqb n 4) (Some Dword)
    (cond (eqb n 8) (Some Qword) None)))

abbrev pub is_dword : AccessWidth → Bool
is_dword Byte = false
is_dword Word = false
is_dword Dword = true
is_dword Qword = false

abbrev pub is_qword : AccessWidth → Bool
is_qword Byte = false
is_qword Word = false
is_qword Dword = false
is_qword Qword = true

-- document 01's number of each refusal
abbrev pub refusal_number : Refusal → ℕ
refusal_number Access = 1
refusal_number Width = 2
refusal_number Vcpu = 3
refusal_number Limits = 4
refusal_number ShortState = 5
refusal_number BrokenState = 6
refusal_number FullStack = 7
refusal_number Input = 8
-- and document 02's: "9 not lawful, then 10 no room", "9 not an image"; "11 .. for a window that breaks these limits"
refusal_number Unlawful = 9
refusal_number NoRoom = 10
refusal_number Window = 11

abbrev pub aligned : ℕ → AccessWidth → Bool
aligned offset width = eqb (offset % bytes width) 0

-- 1 is for an access that "is unaligned, or its end overflows or passes the frame": numbers here do not overflow, and an end past
-- 2^64 passes every frame
abbrev pub in_frame : ℕ → ℕ → AccessWidth → Bool
in_frame size offset width = leb (offset + bytes width) size && aligned offset width
