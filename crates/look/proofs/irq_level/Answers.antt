-- `look::irq_level` meets its contract. Assumes nothing.
use Rattle.std.specs.Prelude.{Some}
use mathlib.Core.Path.{◌≡◌}
use native.Mathlib.Omega.{arith}
use Rattle.look.proofs.Seen.{level_served, level_seen}
use Rattle.look.proofs.irq_level.Goals as goal

pub answers_so-requires : goal.answers_so-requires
answers_so-requires c =
    let sound : c.validate_state.result ≡ Some c.in_ok-shape.shape = grind arith in
    search (level_served, sound)

pub returns : goal.returns
returns c =
    let sound : c.validate_state.result ≡ Some c.in_ok-shape.shape = grind arith in
    search (level_seen, sound, c.gave.ensures)
