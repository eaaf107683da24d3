-- `save::walking::put_own` meets its contract. Assumes nothing.
use native.Mathlib.Omega.{arith}
use borrow.Author.Rules.{rules}
use Rattle.save.proofs.Pieces.{loop_starts, loop_fits, loop_goes}
use Rattle.save.proofs.walking.put_own.Goals as goal

pub loop-n-init : goal.loop-n-init
loop-n-init c = loop_starts _ _ _ c.requires.1

pub put_private-requires : goal.put_private-requires
put_private-requires c =
    let l = c.loop-n in
    (search rules, loop_fits _ _ l.n l.invariant _ (omega arith) c.requires.1)

pub loop-n-preserved : goal.loop-n-preserved
loop-n-preserved c =
    let l = c.loop-n in
    loop_goes _ _ l.n l.invariant c.put_private.ensures
