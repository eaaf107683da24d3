-- `cpu_interface_frame::read_at` meets its contract. Assumes nothing.
use Rattle.std.specs.Prelude.{Some, None, Err}
use mathlib.Core.Path.{◌≡◌}
use native.Mathlib.Omega.{arith}
use Rattle.register.specs.declared.frame.Refusal.TheVariants.{FullStack}
use Rattle.cpu_interface_frame.proofs.Passed.{read_answered, read_full}
use Rattle.cpu_interface_frame.proofs.read_at.Goals as goal

pub returns-in_err-value : goal.returns-in_err-value
returns-in_err-value c =
    let full : c.read_register.result ≡ None = grind arith in
    let said : c.from_residual.result ≡ Err FullStack = grind arith in
    rw said (search (read_full, full))

pub returns : goal.returns
returns c =
    let read : c.read_register.result ≡ Some c.in_ok-value.value = grind arith in
    search (read_answered, read, c.gave.ensures)
