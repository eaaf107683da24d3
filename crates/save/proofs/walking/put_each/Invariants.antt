use Rattle.groups.specs.Groups.{spelled, WroteBy}
use Rattle.image.specs.Image.{each}
use Rattle.save.proofs.walking.put_each.Given as goal

abbrev pub invariant-loop-v : goal.invariant-loop-v
invariant-loop-v g l = WroteBy l.writes (spelled (each g.numbers l.v)) l.fn.writer l.writer
