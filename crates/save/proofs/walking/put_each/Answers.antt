-- `save::walking::put_each` meets its contract. Assumes nothing.
use mathlib.Core.Path.{refl}
use Rattle.save.proofs.Pieces.{loop_starts, loop_fits, loop_goes}
use Rattle.save.proofs.walking.put_each.Goals as goal

pub loop-v-init : goal.loop-v-init
loop-v-init g c = loop_starts _ _ _ c.requires.1.1

pub put-requires : goal.put-requires
put-requires g c =
    let l = c.loop-v in
    c.requires.1.0.may _ _ _ refl c.loop-v-test.true (loop_fits _ _ l.v l.invariant _ c.loop-v-test.true c.requires.1.1)

pub loop-v-preserved : goal.loop-v-preserved
loop-v-preserved g c = loop_goes _ _ c.loop-v.v c.loop-v.invariant (c.requires.1.0.puts _ _ _ _ refl c.loop-v-test.true c.put.ensures)
