-- The level of a vCPU's interrupt line over calls: "Wake sets are only its rising edges".
use Rattle.std.specs.Prelude.{Bool, ◌&&◌, List, ℕ, ◌/◌, ◌%◌, ◌^◌, eqb}
use Rattle.answer.specs.Answer.{Outcome}
use Rattle.history.specs.History.{IrqLevel, called, iar_read}

-- as the call gives it; 0 where it is refused
abbrev pub told_level : ℕ → List ℕ → ℕ
told_level v s = (called (IrqLevel v) s).value

-- "whose level was 0 before and is 1 after"
abbrev pub rises : ℕ → List ℕ → List ℕ → Bool
rises v before after = eqb (told_level v before) 0 && eqb (told_level v after) 1

-- "bit v" of a wake set
abbrev pub wake_bit : ℕ → Outcome → ℕ
wake_bit v o = o.wake / 2 ^ v % 2

-- a read of v's IAR would be refused by 7: it gives no number, and no 1023 either
abbrev pub lacks_room : ℕ → List ℕ → Bool
lacks_room v s = eqb (called (iar_read v) s).refusal 7
