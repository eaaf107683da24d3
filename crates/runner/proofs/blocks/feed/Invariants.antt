use mathlib.Core.Path.{◌≡◌}
use lib.Seq.{slice}
use Rattle.runner.specs.Feeding.{Ran}
use Rattle.runner.proofs.blocks.feed.Given as goal

-- the bytes so far were run, and the writer still writes to `out`
abbrev pub invariant-loop-i : goal.invariant-loop-i
invariant-loop-i l =
    Ran (slice l.from l.i l.input) l.begun l.fn.line l.fn.words 0 l.fn.out l.kept l.line l.words l.writer.at l.writer.out.now
    × (l.writer.out.ghost_name ≡ l.initial.writer.out.ghost_name)
