use mathlib.Core.Path.{◌≡◌}
use Prim.Native.Nat.{◌+◌}
use lib.ListN.{set}
use Rattle.state.specs.Loop.{up_to}
use Rattle.state.proofs.words.clear_summary.Given as goal

abbrev pub invariant-loop-g : goal.invariant-loop-g
invariant-loop-g l = l.words ≡ up_to (λ i r. set r (l.summary + i) 0) l.g l.fn.words
