-- `message_frame::write_register` meets its contract. Assumes nothing.
use mathlib.Core.Path.{◌∙◌}
use mathlib.Core.Logic.{inl, inr}
use Rattle.wake.proofs.WakeSets.{none_wakes_nobody}
use Rattle.message_frame.proofs.write_register.Goals as goal

pub returns-in-Typer : goal.returns-in-Typer
returns-in-Typer c = c.gave.ensures _ ∙ elim c.in-Typer.is [ inl p ↦ simp (p, none_wakes_nobody) | inr p ↦ simp (p, none_wakes_nobody) ]
