-- `save::walking::put_entries` meets its contract. Assumes nothing.
use native.Mathlib.Omega.{arith}
use Rattle.save.proofs.Pieces.{loop_starts, loop_fits, loop_goes}
use Rattle.save.proofs.walking.put_entries.Goals as goal

pub loop-i-init : goal.loop-i-init
loop-i-init c = loop_starts _ _ _ c.requires.2

pub put_two-requires : goal.put_two-requires
put_two-requires c =
    let entry = c.stack_entry-entry.ensures in
    let l = c.loop-i in
    rw entry (omega arith, omega arith, loop_fits _ _ l.i l.invariant _ c.loop-i-test.true c.requires.2)

pub loop-i-preserved : goal.loop-i-preserved
loop-i-preserved c =
    let l = c.loop-i in
    loop_goes _ _ l.i l.invariant (rw c.stack_entry-entry.ensures at c.put_two.ensures)
