-- `distributor::bytes::read_priority` meets its contract. Assumes nothing.
use borrow.Author.Tests.{lt-ltb, le-ltb}
use Rattle.distributor.specs.Bytes.{read_priority}
use Rattle.distributor.proofs.bytes.read_priority.Goals as goal

pub returns-then-shape-intid : goal.returns-then-shape-intid
unfolding read_priority
returns-then-shape-intid c = simp (le-ltb _ _ c.if-shape-intid.true)

pub returns : goal.returns
unfolding read_priority
returns c = simp (lt-ltb _ _ c.if-shape-intid.false, c.«record».ensures)
