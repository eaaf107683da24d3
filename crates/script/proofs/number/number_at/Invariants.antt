use mathlib.Core.Path.{◌≡◌}
use Prim.Native.Nat.{◌^◌, ◌<◌}
use lib.ListN.{drop}
use Rattle.script.proofs.Digits.{reading}
use Rattle.script.proofs.number.number_at.Given as goal

abbrev pub invariant-loop-i : goal.invariant-loop-i
invariant-loop-i l = (l.value < 2 ^ 64) × (reading l.value l.i (drop l.i l.line) ≡ reading 0 l.at (drop l.at l.line))
