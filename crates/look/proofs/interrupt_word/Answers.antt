-- `look::interrupt_word` meets its contract. Assumes nothing.
use Rattle.std.specs.Prelude.{Some}
use mathlib.Core.Path.{◌≡◌}
use native.Mathlib.Omega.{arith}
use Rattle.look.proofs.Seen.{interrupt_past, interrupt_there, interrupt_seen}
use Rattle.look.proofs.interrupt_word.Goals as goal

pub returns-then-shape-number : goal.returns-then-shape-number
returns-then-shape-number c =
    let sound : c.validate_state.result ≡ Some c.in_ok-shape.shape = grind arith in
    search (interrupt_past, sound, c.gave.ensures)

pub record-requires : goal.record-requires
record-requires c =
    let sound : c.validate_state.result ≡ Some c.in_ok-shape.shape = grind arith in
    search (interrupt_there, sound)

pub returns : goal.returns
returns c =
    let sound : c.validate_state.result ≡ Some c.in_ok-shape.shape = grind arith in
    search (interrupt_seen, sound, c.gave-2.ensures)
