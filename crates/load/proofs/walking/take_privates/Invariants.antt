use Prim.Native.Nat.{◌*◌}
use Rattle.load.proofs.walking.take_privates.Given as goal

abbrev pub ghost-take_each : goal.ghost-take_each
ghost-take_each a = (2 * a.shape.count, 32)
