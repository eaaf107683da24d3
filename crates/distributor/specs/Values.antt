-- The single registers: document 01, "Distributor places"; IHI 0048, 4.3.1 to 4.3.3.
use Rattle.std.specs.Prelude.{List, ℕ, ◌+◌, ◌*◌, ◌-◌, ◌/◌}
use Rattle.state.specs.declared.layout.Shape.{Shape}
use Rattle.state.specs.Words.{distributor_control_at, with_distributor_control}

-- "CTLR starts at 0, keeps bit 0 and reads it back"
abbrev pub read_control : Shape → List ℕ → ℕ
read_control shape s = distributor_control_at shape s

abbrev pub write_control : Shape → ℕ → List ℕ → List ℕ
write_control shape value s = with_distributor_control shape value s

-- "TYPER is (limit/32 rounded up, less 1) + 32*(count-1)"
abbrev pub typer : Shape → ℕ
typer shape = ((shape.limit + 31) / 32 - 1) + 32 * (shape.count - 1)

abbrev pub iidr : ℕ
iidr = 0x0002043B
