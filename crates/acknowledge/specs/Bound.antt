-- How it is told quickly whether something is handed out: a candidate preempts what runs exactly if its priority is below the running priority rounded
-- up to a whole group (`bound_preempts` in proofs/Grouping.antt). A reader need not believe any of it.
use Rattle.std.specs.Prelude.{List, ℕ, ◌+◌, ◌*◌, ◌-◌, ◌/◌, ◌^◌}
use Rattle.state.specs.declared.layout.Shape.{Shape}
use Rattle.state.specs.declared.layout.InterfaceValue.TheVariants.{BinaryPoint}
use Rattle.state.specs.Words.{interface_at}
use Rattle.service.specs.Service.{running}

unfoldable pub rounded_up : ℕ → ℕ → ℕ
rounded_up b p = (p + (2 ^ (b + 1) - 1)) / 2 ^ (b + 1) * 2 ^ (b + 1)

abbrev pub preemption_bound : Shape → ℕ → List ℕ → ℕ
preemption_bound shape v s = rounded_up (interface_at shape v BinaryPoint s) (running shape v s)
