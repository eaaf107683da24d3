-- `bits::clear_active` meets its contract. Assumes nothing.
use Rattle.bits.specs.Bits.{clear_active}
use Rattle.bits.proofs.clear_active.Goals as goal

pub returns-then-record : goal.returns-then-record
unfolding clear_active
returns-then-record c = simp (c.if-record.true, c.set_owner.ensures, c.cancel_inflight.ensures, c.set_active-cleared.ensures)

pub returns-else-record : goal.returns-else-record
unfolding clear_active
returns-else-record c = simp (c.if-record.false, c.set_active-cleared.ensures)
