-- The message-signalled frame: document 02, Seven: "a GICv2m frame of 0x1000 bytes beside the Distributor". "The window is a first number and a
-- count that the caller gives with each call; it is in no state or image." "No vCPU is looked up."
use Rattle.std.specs.Prelude.{◌≡◌, Bool, true, false, cond, ◌&&◌, List, ℕ, ◌+◌, ◌*◌, ◌%◌, ◌^◌, eqb, leb, ltb, Option, Some, None, Result, Ok, Err}
use Rattle.interrupt.specs.Record as record_of
use Rattle.register.specs.declared.frame.AccessWidth.{AccessWidth}
use Rattle.register.specs.declared.frame.Refusal.TheVariants as refusal
use Rattle.register.specs.Frame.{is_dword, in_frame}
use Rattle.state.specs.declared.layout.Shape.{Shape}
use Rattle.state.specs.Lent.{validated}
use Rattle.state.specs.Words.{changed}
use Rattle.answer.specs.Answer.{Answer, Outcome, outcome, refused, gave, went, on_state}
use Rattle.message_frame.specs.declared.Window.{Window}
use Rattle.message_frame.specs.declared.MessageRegister.{MessageRegister}
use Rattle.message_frame.specs.declared.MessageRegister.TheVariants.{Typer, Setspi, Other}
use Rattle.register.specs.declared.frame.Refusal.{Refusal}

-- "It lies from 32 up to, not including, the limit and has at least one number": numbers here do not overflow, and an end past 2^64 passes
-- every limit
abbrev pub is_window : Shape → ℕ → ℕ → Bool
is_window shape first count = leb 32 first && (leb 1 count && leb (first + count) shape.limit)

abbrev pub window_of : ℕ → ℕ → Window
window_of first count = record { first = record { 0 = first }; count = count }

unfoldable pub decoded_window : Shape → ℕ → ℕ → Option Window
decoded_window shape first count = cond (is_window shape first count) (Some (window_of first count)) None

-- "11, after 6 and before 1 and 2, for a window that breaks these limits"
abbrev pub on_window : Option Window → List ℕ → (Window → Outcome) → Outcome
on_window None s f = refused refusal.Window s
on_window (Some window) s f = f window

-- "TYPER at 0x008 .., SETSPI at 0x040"; "a start further in is an other place"
abbrev pub message_register_at : ℕ → MessageRegister
message_register_at offset = cond (eqb offset 0x008) Typer (cond (eqb offset 0x040) Setspi Other)

-- "Both take 4-byte accesses; another width at their first byte is refused by 2"; other places take any
abbrev pub takes_width : MessageRegister → AccessWidth → Bool
takes_width Typer width = is_dword width
takes_width Setspi width = is_dword width
takes_width Other width = true

-- an access, by its offset and width alone: 1, then 2
unfoldable pub locate_v2m : ℕ → AccessWidth → Result MessageRegister Refusal
locate_v2m offset width =
    cond (in_frame 0x1000 offset width)
    (cond (takes_width (message_register_at offset) width) (Ok (message_register_at offset)) (Err refusal.Width))
    (Err refusal.Access)

-- "TYPER .. with the first SPI in bits 25:16 and how many in bits 9:0"
abbrev pub typer_of : Window → ℕ
typer_of window = window.first.0 * 2 ^ 16 + window.count

-- "SETSPI reads 0, .. other places read 0"
abbrev pub read_message : Window → MessageRegister → ℕ
read_message window Typer = typer_of window
read_message window Setspi = 0
read_message window Other = 0

-- "a number inside the window"
abbrev pub in_window : Window → ℕ → Bool
in_window window n = leb window.first.0 n && ltb n (window.first.0 + window.count)

-- "Writing a number inside the window pulses that SPI; any other number does nothing", "TYPER ignores writes, other places .. ignore writes"
abbrev pub rings_spi : Window → MessageRegister → ℕ → Bool
rings_spi window Typer n = false
rings_spi window Setspi n = in_window window n
rings_spi window Other n = false

-- an SPI's record is no vCPU's own: it is vCPU 0's as it is every other's
abbrev pub write_message : Shape → Window → MessageRegister → ℕ → List ℕ → List ℕ
write_message shape window register n s = cond (rings_spi window register n) (changed shape 0 n record_of.pulse s) s

-- "Wake sets are as in 01"
abbrev pub wrote_message : Shape → Window → MessageRegister → ℕ → List ℕ → Outcome
wrote_message shape window register n s = went shape 1023 s (write_message shape window register n s)

abbrev pub read_message_access : Window → Result MessageRegister Refusal → List ℕ → Outcome
read_message_access window (Err r) s = refused r s
read_message_access window (Ok register) s = gave (read_message window register) s

abbrev pub write_message_access : Shape → Window → Result MessageRegister Refusal → ℕ → List ℕ → Outcome
write_message_access shape window (Err r) n s = refused r s
write_message_access shape window (Ok register) n s = wrote_message shape window register n s

unfoldable pub read_v2m : ℕ → ℕ → ℕ → AccessWidth → List ℕ → Outcome
read_v2m first count offset width s =
    on_state (validated s) s (λ shape. on_window (decoded_window shape first count) s (λ window. read_message_access window (locate_v2m offset width) s))

-- "Bits of a written value above the access width are ignored": SETSPI takes 4 bytes, and the number is all of them
unfoldable pub write_v2m : ℕ → ℕ → ℕ → AccessWidth → ℕ → List ℕ → Outcome
write_v2m first count offset width value s =
    on_state (validated s) s (λ shape. on_window (decoded_window shape first count) s (λ window. write_message_access shape window (locate_v2m offset width) (value % 2 ^ 32) s))

-- what the calls promise of their answer and the words after it
abbrev pub ReadV2mPromise : ℕ → ℕ → ℕ → AccessWidth → List ℕ → Answer → List ℕ → Type 0
ReadV2mPromise first count offset width before answer after = outcome answer after ≡ read_v2m first count offset width before

abbrev pub WriteV2mPromise : ℕ → ℕ → ℕ → AccessWidth → ℕ → List ℕ → Answer → List ℕ → Type 0
WriteV2mPromise first count offset width value before answer after = outcome answer after ≡ write_v2m first count offset width value before
