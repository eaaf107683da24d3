use mathlib.Core.Path.{◌≡◌}
use Rattle.state.specs.Fresh.{started_at}
use Rattle.state.specs.Loop.{up_to}
use Rattle.state.proofs.fresh.fill.Given as goal

abbrev pub invariant-loop-i : goal.invariant-loop-i
invariant-loop-i l = l.words ≡ up_to (started_at l.shape) l.i l.fn.words
