-- `message_frame::ring` meets its contract. Assumes nothing.
use mathlib.Core.Path.{sym, ◌∙◌}
use Rattle.message_frame.proofs.Called.{rings_nobody}
use Rattle.message_frame.specs.declared.MessageRegister.TheVariants.{Setspi}
use Rattle.message_frame.proofs.ring.Goals as goal

pub returns : goal.returns
returns c =
    let a = c.args in
    c.gave.ensures _ ∙ rings_nobody a.shape a.window Setspi a.number _ (sym c.contains.ensures ∙ c.if-contains.false)
