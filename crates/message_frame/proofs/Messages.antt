-- What a write to the message frame comes to in words that hold a state: the SPI that it rings is pulsed, or nothing changes; and its wake set is that
-- of the words before and after it, refused or not. Assumes nothing.
use Rattle.std.specs.Prelude.{Some, None, Result, Ok, Err}
use mathlib.Core.Path.{◌≡◌, refl}
use mathlib.Core.Bool.{Bool, true, false, cond, ◌&&◌}
use mathlib.Core.List.{List}
use Prim.Native.Nat.{ℕ, ◌%◌, ◌^◌}
use Rattle.interrupt.specs.Record.{pulse}
use Rattle.register.specs.declared.frame.AccessWidth.{AccessWidth}
use Rattle.register.specs.declared.frame.AccessWidth.TheVariants.{Dword}
use Rattle.state.specs.declared.layout.Shape.{Shape}
use Rattle.state.specs.Lent.{validated}
use Rattle.state.specs.Words.{changed}
use Rattle.wake.specs.Wake.{wake_set}
use Rattle.wake.proofs.WakeSets.{none_wakes_nobody}
use Rattle.answer.specs.Answer.{Outcome, went}
use Rattle.message_frame.specs.declared.MessageRegister.TheVariants.{Setspi}
use Rattle.message_frame.specs.declared.Window.{Window}
use Rattle.message_frame.specs.MessageFrame.{is_window, window_of, decoded_window, on_window, locate_v2m, in_window, rings_spi, write_message_access, write_v2m}
use Rattle.message_frame.specs.declared.MessageRegister.{MessageRegister}
use Rattle.register.specs.declared.frame.Refusal.{Refusal}

-- SETSPI is written, with a number of the window
abbrev pub access_rings : Window → Result MessageRegister Refusal → ℕ → Bool
access_rings window (Err r) n = false
access_rings window (Ok register) n = rings_spi window register n

-- .. which is one of this controller's
abbrev pub message_rings : Shape → ℕ → ℕ → ℕ → AccessWidth → ℕ → Bool
message_rings shape first count offset width value = is_window shape first count && access_rings (window_of first count) (locate_v2m offset width) (value % 2 ^ 32)

-- the words after it
abbrev pub pulsed_if : Shape → Bool → ℕ → List ℕ → List ℕ
pulsed_if shape b n s = cond b (changed shape 0 n pulse s) s

pub record ComesTo (shape : Shape) (s r : List ℕ) (o : Outcome) : Type 0 where
  pub state : o.state ≡ r
  pub wake : o.wake ≡ wake_set shape s r

pub message_comes_to : (shape : Shape) (s : List ℕ) → validated s ≡ Some shape → (first count offset : ℕ) (width : AccessWidth) (value : ℕ)
    → ComesTo shape s (pulsed_if shape (message_rings shape first count offset width value) (value % 2 ^ 32) s) (write_v2m first count offset width value s)
unfolding write_v2m decoded_window
message_comes_to shape s h first count offset width value = rw h (go (is_window shape first count) (locate_v2m offset width))
  where
    n : ℕ
    n = value % 2 ^ 32

    window : Window
    window = window_of first count

    go : (b : Bool) (a : Result MessageRegister Refusal)
        → ComesTo shape s (pulsed_if shape (b && access_rings window a n) n s) (on_window (cond b (Some window) None) s (λ w. write_message_access shape w a n s))
    go true (Err r) = record { state = refl; wake = rw none_wakes_nobody }
    go true (Ok register) = record { state = refl; wake = refl }
    go false a = record { state = refl; wake = rw none_wakes_nobody }

pub setspi_at : locate_v2m 0x040 Dword ≡ Ok Setspi
unfolding locate_v2m
setspi_at = refl

-- a message for a number of the window is accepted
pub message_call : (shape : Shape) (s : List ℕ) → validated s ≡ Some shape → (first count value : ℕ) → is_window shape first count ≡ true → in_window (window_of first count) (value % 2 ^ 32) ≡ true
    → write_v2m first count 0x040 Dword value s ≡ went shape 1023 s (changed shape 0 (value % 2 ^ 32) pulse s)
unfolding write_v2m decoded_window
message_call shape s h first count value it inside = simp (h, it, setspi_at, inside)
