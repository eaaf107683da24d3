-- `acknowledge::acknowledge_v2` meets its contract. Assumes nothing.
use mathlib.Core.Path.{sym, ◌∙◌}
use Rattle.acknowledge.specs.Acknowledge.{offer, answered, taken}
use Rattle.acknowledge.proofs.acknowledge_v2.Goals as goal

pub take_pending_delivery-requires : goal.take_pending_delivery-requires
take_pending_delivery-requires c =
    c.requires.served (sym c.distributor_enabled.ensures ∙ c.if-distributor_enabled.true)

pub returns-else-distributor_enabled : goal.returns-else-distributor_enabled
unfolding offer answered taken
returns-else-distributor_enabled c = (simp (← c.distributor_enabled.ensures, c.if-distributor_enabled.false), simp (← c.distributor_enabled.ensures, c.if-distributor_enabled.false))
