use Prim.Native.Nat.{◌-◌}
use mathlib.Core.Path.{◌≡◌}
use Rattle.select.specs.Keys.{least_key, every_number}
use Rattle.select.proofs.least_key.Given as goal

abbrev pub invariant-loop-n : goal.invariant-loop-n
invariant-loop-n l = l.key ≡ least_key every_number l.test l.offset l.first l.words l.start (l.n - l.first)
