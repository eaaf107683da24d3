use Rattle.groups.specs.Groups.{spelled, WroteBy}
use Rattle.image.specs.Image.{each, spi_numbers_at}
use Rattle.save.proofs.walking.put_spis.Given as goal

abbrev pub invariant-loop-i : goal.invariant-loop-i
invariant-loop-i l = WroteBy l.writes (spelled (each (spi_numbers_at l.shape l.words) l.i)) l.fn.writer l.writer
