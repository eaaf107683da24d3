use Rattle.std.proofs.Common.{length, take, ◌-◌, ◌≤◌}
use Rattle.runner.specs.Feeding.{BytesRun}
use Rattle.vgicrun.proofs.answer_block.Given as goal

-- at each turn the part of the block so far was run
abbrev pub invariant-loop-from : goal.invariant-loop-from
invariant-loop-from l = record {
  inside : l.from ≤ length l.block;
  run : BytesRun (take l.from l.block) l.begun l.fn.line l.fn.words l.kept l.line l.words;
}

abbrev pub decreases-loop-from : goal.decreases-loop-from
decreases-loop-from l = length l.block - l.from
