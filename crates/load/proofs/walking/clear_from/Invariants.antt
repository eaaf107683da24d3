use mathlib.Core.Path.{◌≡◌}
use Rattle.state.specs.Loop.{up_to}
use Rattle.load.specs.Walking.{cleared_past}
use Rattle.load.proofs.walking.clear_from.Given as goal

abbrev pub invariant-loop-i : goal.invariant-loop-i
invariant-loop-i l = (l.words ≡ up_to (cleared_past l.shape l.vcpu.0 l.depth) l.i l.fn.words)
