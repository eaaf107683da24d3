use Rattle.groups.specs.Groups.{spelled, WroteBy}
use Rattle.save.specs.Fitting.{entries_numbers}
use Rattle.save.proofs.walking.put_entries.Given as goal

abbrev pub invariant-loop-i : goal.invariant-loop-i
invariant-loop-i l = WroteBy l.writes (spelled (entries_numbers l.shape l.words l.vcpu.0 l.i)) l.fn.writer l.writer
