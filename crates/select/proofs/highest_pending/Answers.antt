-- `select::highest_pending` meets its contract. Assumes nothing.
use mathlib.Core.Path.{◌∙◌}
use Rattle.select.proofs.KeyLaws.{low_exact, selected_best}
use Rattle.select.proofs.highest_pending.Goals as goal

pub returns : goal.returns
returns c =
    let a = c.args in
    let limits = c.requires.state.limits in
    c.of_key.ensures
    ∙ rw (low_exact _ _ c.best_key.ensures, c.v2_priority_mask-mask.ensures) (selected_best a.shape a.vcpu.0 a.words.now limits)
