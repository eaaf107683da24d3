-- `save::walking::put_spis` meets its contract. Assumes nothing.
use native.Mathlib.Omega.{arith}
use borrow.Author.Rules.{rules}
use Rattle.save.proofs.Pieces.{loop_starts, loop_fits, loop_goes}
use Rattle.save.proofs.walking.put_spis.Goals as goal

pub loop-i-init : goal.loop-i-init
loop-i-init c = loop_starts _ _ _ c.requires.1

pub put_spi-requires : goal.put_spi-requires
put_spi-requires c =
    let l = c.loop-i in
    (search rules, loop_fits _ _ l.i l.invariant _ (omega arith) c.requires.1)

pub loop-i-preserved : goal.loop-i-preserved
loop-i-preserved c =
    let l = c.loop-i in
    loop_goes _ _ l.i l.invariant c.put_spi.ensures
