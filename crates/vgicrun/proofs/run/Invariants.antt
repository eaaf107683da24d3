use Rattle.std.proofs.Common.{◌≤◌}
use Rattle.vgicrun.proofs.run.Given as goal

abbrev pub invariant-loop : goal.invariant-loop
invariant-loop l = l.begun ≤ 81
