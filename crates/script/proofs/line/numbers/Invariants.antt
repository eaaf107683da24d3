use mathlib.Core.Path.{◌≡◌}
use Prim.Native.Nat.{◌-◌, ◌≤◌}
use lib.ListN.{length, drop}
use Rattle.script.specs.declared.request.Numbers.TheVariants.{Zero}
use Rattle.script.specs.Line.{numbers_after}
use Rattle.script.specs.Reading.{fields_after}
use Rattle.script.proofs.line.numbers.Given as goal

abbrev pub invariant-loop-at : goal.invariant-loop-at
invariant-loop-at l = (l.at ≤ length l.line) × (numbers_after l.so_far (fields_after (drop l.at l.line)) ≡ numbers_after Zero (fields_after (drop l.from l.line)))

abbrev pub decreases-loop-at : goal.decreases-loop-at
decreases-loop-at l = length l.line - l.at
