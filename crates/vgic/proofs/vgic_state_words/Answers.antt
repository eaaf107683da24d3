-- `vgic::vgic_state_words` meets its contract. Assumes nothing.
use mathlib.Core.Path.{sym, ◌∙◌}
use Rattle.state.proofs.Validated.{limited_limits}
use Rattle.vgic.proofs.vgic_state_words.Goals as goal

pub size-requires : goal.size-requires
size-requires c = limited_limits c.args.count c.args.limit _ (sym c.validate_limits.ensures ∙ c.in-Some.is)

pub returns-in-Some : goal.returns-in-Some
returns-in-Some c = c.size.ensures ∙ simp (← c.validate_limits.ensures, c.in-Some.is)

pub returns-in-None : goal.returns-in-None
returns-in-None c = simp (← c.validate_limits.ensures, c.in-None.is)
