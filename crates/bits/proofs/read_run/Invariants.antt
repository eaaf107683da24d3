use mathlib.Core.Path.{◌≡◌}
use Rattle.bits.specs.Bits.{field_bits}
use Rattle.bits.specs.Run.{field_in}
use Rattle.word.specs.Fields.{gathered}
use Rattle.bits.proofs.read_run.Given as goal

abbrev pub invariant-loop-i : goal.invariant-loop-i
invariant-loop-i l = l.value ≡ gathered (field_bits l.register) (field_in l.register l.base l.words) l.i
