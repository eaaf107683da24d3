use Prim.Native.Nat.{◌*◌}
use Rattle.std.specs.Prelude.{Some}
use Rattle.load.specs.Walking.{Section}
use Rattle.load.proofs.walking.take_spis.Given as goal

abbrev pub invariant-loop-k : goal.invariant-loop-k
invariant-loop-k l = Section l.shape l.image (34 * l.shape.count) l.k l.stores l.start l.fn.words (Some l.at) l.words
