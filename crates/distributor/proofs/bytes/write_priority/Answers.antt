-- `distributor::bytes::write_priority` meets its contract. Assumes nothing.
use mathlib.Core.Path.{◌∙◌}
use borrow.Author.Tests.{lt-ltb, le-ltb}
use Rattle.distributor.specs.Bytes.{write_priority}
use Rattle.distributor.proofs.bytes.write_priority.Goals as goal

pub returns-then-shape-intid : goal.returns-then-shape-intid
unfolding write_priority
returns-then-shape-intid c = simp (le-ltb _ _ c.if-shape-intid.true)

pub returns : goal.returns
unfolding write_priority
returns c = simp (lt-ltb _ _ c.if-shape-intid.false) (c.put_record.ensures ∙ simp (c.set_priority-changed.ensures, c.new.ensures, c.«record».ensures))
