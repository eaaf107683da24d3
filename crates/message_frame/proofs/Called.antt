-- What a write to the message frame comes to that rings nobody. Assumes nothing.
use mathlib.Core.Path.{◌≡◌}
use mathlib.Core.Bool.{false}
use mathlib.Core.List.{List}
use Prim.Native.Nat.{ℕ}
use Rattle.state.specs.declared.layout.Shape.{Shape}
use Rattle.answer.specs.Answer.{gave}
use Rattle.wake.proofs.WakeSets.{none_wakes_nobody}
use Rattle.message_frame.specs.declared.Window.{Window}
use Rattle.message_frame.specs.declared.MessageRegister.{MessageRegister}
use Rattle.message_frame.specs.MessageFrame.{rings_spi, wrote_message}

-- a write that rings nobody
pub rings_nobody : (shape : Shape) (window : Window) (register : MessageRegister) (n : ℕ) (s : List ℕ) → rings_spi window register n ≡ false → gave 0 s ≡ wrote_message shape window register n s
rings_nobody shape window register n s e = simp (e, none_wakes_nobody)
