-- A message takes nothing that waits, whatever it rings and whether it is refused or not. Assumes nothing.
use Rattle.std.specs.Prelude.{Result, Ok, Err, None}
use mathlib.Core.Path.{◌≡◌, refl}
use mathlib.Core.Bool.{Bool, true, false, cond, and-false}
use mathlib.Core.List.{List}
use Prim.Native.Nat.{ℕ, ◌%◌, ◌^◌}
use Rattle.register.specs.declared.frame.AccessWidth.{AccessWidth}
use Rattle.state.specs.declared.layout.Shape.{Shape}
use Rattle.answer.specs.Answer.{Outcome}
use Rattle.input.specs.declared.Signal.TheVariants.{Edge}
use Rattle.message_frame.specs.declared.Window.{Window}
use Rattle.message_frame.specs.MessageFrame.{window_of, locate_v2m, rings_spi}
use Rattle.history.specs.History.{WriteV2m, Looks, Signals, Acts, message_action}
use Rattle.waiting.specs.Waiting.{Taker, taken_by, ring_taker, takes_ring, pending_taker, takes_pending, line_taker, lets_go}
use Rattle.message_frame.specs.declared.MessageRegister.{MessageRegister}
use Rattle.register.specs.declared.frame.Refusal.{Refusal}

-- a taker that no pulse is
action_takes_nothing : (k : Taker) → ((m : ℕ) → k.signal m Edge ≡ false) → (o : Outcome) (window : Window) (a : Result MessageRegister Refusal) (n : ℕ) → taken_by k (Acts (message_action window a n)) o ≡ false
action_takes_nothing k never o window (Err r) n = refl
action_takes_nothing k never o window (Ok register) n = go (rings_spi window register n)
  where
    go : (b : Bool) → taken_by k (Acts (cond b (Signals 0 n Edge) (Looks None))) o ≡ false
    go true = simp (never n, and-false)
    go false = refl

module _ (first count offset : ℕ) (width : AccessWidth) (value : ℕ) (o : Outcome) where
  pub a_message_takes_no_ring : (t n u : ℕ) → takes_ring t n u (WriteV2m first count offset width value) o ≡ false
  a_message_takes_no_ring t n u = action_takes_nothing (ring_taker t n u) (λ m. refl) o (window_of first count) (locate_v2m offset width) (value % 2 ^ 32)

  pub a_message_takes_no_pending : (shape : Shape) (v n : ℕ) (s : List ℕ) → takes_pending shape v n s (WriteV2m first count offset width value) o ≡ false
  a_message_takes_no_pending shape v n s = action_takes_nothing (pending_taker shape v n s) (λ m. simp and-false) o (window_of first count) (locate_v2m offset width) (value % 2 ^ 32)

  -- nor is a held line let go by one
  pub a_message_lets_no_line_go : (v n : ℕ) → lets_go v n (WriteV2m first count offset width value) o ≡ false
  a_message_lets_no_line_go v n = action_takes_nothing (line_taker (λ x. false) v n) (λ m. simp and-false) o (window_of first count) (locate_v2m offset width) (value % 2 ^ 32)
