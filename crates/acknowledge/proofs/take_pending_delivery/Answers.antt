-- `acknowledge::take_pending_delivery` meets its contract. Assumes nothing.
use mathlib.Core.Path.{sym, ◌∙◌}
use Rattle.acknowledge.specs.Acknowledge.{answered, taken}
use Rattle.acknowledge.proofs.Offers.{offer_below}
use Rattle.acknowledge.proofs.take_pending_delivery.Goals as goal

pub accept-requires : goal.accept-requires
accept-requires c =
    (c.requires, offer_below c.args.shape c.args.vcpu.0 c.args.words.now _ (sym c.offer.ensures ∙ c.in-Some.is))

pub returns-in-Some : goal.returns-in-Some
returns-in-Some c =
    let same = sym c.in-Some.is ∙ c.offer.ensures in
    (c.accept.ensures.0 ∙ simp same, c.accept.ensures.1 ∙ simp same)

pub returns-in-None : goal.returns-in-None
unfolding answered taken
returns-in-None c =
    (simp (← c.offer.ensures, c.in-None.is), simp (← c.offer.ensures, c.in-None.is))
