-- The frame of a CPU interface: document 01, "Refusal numbers" and "CPU interface places". An acknowledge that is refused by 7 leaves the
-- state as found.
use Rattle.std.specs.Prelude.{◌≡◌, List, ℕ, ◌%◌, ◌^◌, Option, Some, None, Result, Ok, Err}
use Rattle.register.specs.declared.frame.AccessWidth.{AccessWidth}
use Rattle.register.specs.declared.frame.Refusal.TheVariants.{FullStack}
use Rattle.register.specs.declared.cpu_interface.CpuInterfaceRegister.{CpuInterfaceRegister}
use Rattle.register.specs.CpuInterface.{locate_cpu_interface}
use Rattle.state.specs.declared.layout.Shape.{Shape}
use Rattle.state.specs.Lent.{validated}
use Rattle.state.specs.Words.{enabled_at}
use Rattle.cpu_interface.specs.CpuInterface.{read_register, after_read, write_register, write_retired, read_register_looks_up, write_register_looks_up}
use Rattle.answer.specs.Answer.{Answer, Outcome, outcome, refused, gave, went, on_state, looked_up}
use Rattle.register.specs.declared.frame.Refusal.{Refusal}

-- what was read in the state s, which is r afterwards
abbrev pub read_answer : Option ℕ → List ℕ → List ℕ → Outcome
read_answer (Some x) s r = gave x r
read_answer None s r = refused FullStack s

abbrev pub read_interface_at : Shape → ℕ → CpuInterfaceRegister → List ℕ → Outcome
read_interface_at shape v register s =
    looked_up (read_register_looks_up register (enabled_at shape s)) shape v s (read_answer (read_register shape v register s) s (after_read shape v register s))

abbrev pub write_interface_at : Shape → ℕ → CpuInterfaceRegister → ℕ → List ℕ → Outcome
write_interface_at shape v register value s =
    looked_up (write_register_looks_up register value) shape v s (went shape (write_retired shape v register value s) s (write_register shape v register value s))

abbrev pub read_interface_access : Shape → ℕ → Result CpuInterfaceRegister Refusal → List ℕ → Outcome
read_interface_access shape v (Err r) s = refused r s
read_interface_access shape v (Ok register) s = read_interface_at shape v register s

abbrev pub write_interface_access : Shape → ℕ → Result CpuInterfaceRegister Refusal → ℕ → List ℕ → Outcome
write_interface_access shape v (Err r) value s = refused r s
write_interface_access shape v (Ok register) value s = write_interface_at shape v register value s

unfoldable pub read_v2_cpu_interface : ℕ → ℕ → AccessWidth → List ℕ → Outcome
read_v2_cpu_interface v offset width s = on_state (validated s) s (λ shape. read_interface_access shape v (locate_cpu_interface offset width) s)

unfoldable pub write_v2_cpu_interface : ℕ → ℕ → AccessWidth → ℕ → List ℕ → Outcome
write_v2_cpu_interface v offset width value s = on_state (validated s) s (λ shape. write_interface_access shape v (locate_cpu_interface offset width) (value % 2 ^ 32) s)

-- what the calls promise of their answer and the words after it
abbrev pub ReadCpuInterfacePromise : ℕ → ℕ → AccessWidth → List ℕ → Answer → List ℕ → Type 0
ReadCpuInterfacePromise v offset width before answer after = outcome answer after ≡ read_v2_cpu_interface v offset width before

abbrev pub WriteCpuInterfacePromise : ℕ → ℕ → AccessWidth → ℕ → List ℕ → Answer → List ℕ → Type 0
WriteCpuInterfacePromise v offset width value before answer after = outcome answer after ≡ write_v2_cpu_interface v offset width value before
