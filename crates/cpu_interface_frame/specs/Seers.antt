-- Whom a write to a CPU interface can wake: its own vCPU, and of a record that it may deactivate those whom the record is for. How the code goes about
-- the wake set; a reader need not believe it (`write_wakes` in proofs/Wakes.antt).
use Rattle.std.specs.Prelude.{List, ℕ, ◌%◌}
use Rattle.std.specs.Int.Bits.{bit_or}
use Rattle.state.specs.declared.layout.Shape.{Shape}
use Rattle.targets.specs.Targets.{own_byte, read_target}

unfoldable pub write_seers : Shape → ℕ → ℕ → List ℕ → ℕ
write_seers shape v value s = bit_or (own_byte v) (read_target shape v s (value % 1024))
