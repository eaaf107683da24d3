-- `load::reading::flags_at` meets its contract. Assumes nothing.
use mathlib.Core.Path.{sym, ◌∙◌}
use native.Mathlib.Omega.{arith}
use Rattle.load.proofs.Numbers.{small_found, one_group}
use Rattle.load.proofs.reading.flags_at.Goals as goal

pub returns : goal.returns
returns c = let a = c.args in c.read.ensures ∙ (one_group a.image.now a.at ∙ sym (small_found 127 a.image.now a.at (omega arith)))
