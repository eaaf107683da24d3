-- `select::highest_pending_v2` meets its contract. Assumes nothing.
use Rattle.select.specs.Select.{highest_pending}
use Rattle.select.proofs.highest_pending_v2.Goals as goal

pub returns-then-both_enabled : goal.returns-then-both_enabled
unfolding highest_pending
returns-then-both_enabled c = simp (c.selected_number.ensures, c.highest_pending.ensures, ← c.both_enabled.ensures, c.if-both_enabled.true)

pub returns-else-both_enabled : goal.returns-else-both_enabled
unfolding highest_pending
returns-else-both_enabled c = simp (← c.both_enabled.ensures, c.if-both_enabled.false)
