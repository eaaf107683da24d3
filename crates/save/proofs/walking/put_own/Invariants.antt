use Rattle.groups.specs.Groups.{spelled, WroteBy}
use Rattle.image.specs.Image.{each, private_numbers_at}
use Rattle.save.proofs.walking.put_own.Given as goal

abbrev pub invariant-loop-n : goal.invariant-loop-n
invariant-loop-n l = WroteBy l.writes (spelled (each (private_numbers_at l.shape l.words l.vcpu.0) l.n)) l.fn.writer l.writer
