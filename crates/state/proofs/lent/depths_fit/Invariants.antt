use mathlib.Core.Bool.{true}
use mathlib.Core.Path.{◌≡◌}
use Rattle.state.specs.Lent.{depth_fits}
use Rattle.state.specs.Loop.{every_below}
use Rattle.state.proofs.lent.depths_fit.Given as goal

abbrev pub invariant-loop-v : goal.invariant-loop-v
invariant-loop-v l = every_below (depth_fits l.shape l.words) l.v ≡ true
