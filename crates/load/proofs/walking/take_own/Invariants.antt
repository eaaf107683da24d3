use Prim.Native.Nat.{◌+◌, ◌*◌}
use Rattle.std.specs.Prelude.{Some}
use Rattle.load.specs.Walking.{Section}
use Rattle.load.proofs.walking.take_own.Given as goal

abbrev pub invariant-loop-n : goal.invariant-loop-n
invariant-loop-n l = Section l.shape l.image (2 * l.shape.count + 32 * l.vcpu.0) l.n l.stores l.start l.fn.words (Some l.at) l.words
