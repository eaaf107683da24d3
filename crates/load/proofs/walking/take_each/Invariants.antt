use Prim.Native.Nat.{◌*◌}
use Rattle.std.specs.Prelude.{Some}
use Rattle.load.specs.Walking.{Section}
use Rattle.load.proofs.walking.take_each.Given as goal

abbrev pub invariant-loop-v : goal.invariant-loop-v
invariant-loop-v g l = Section l.shape l.image g.section.0 (g.section.1 * l.v) l.stores l.start l.fn.words (Some l.at) l.words
