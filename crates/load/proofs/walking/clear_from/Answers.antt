-- `load::walking::clear_from` meets its contract. Assumes nothing.
use native.Mathlib.Numerals.{add-one}
use borrow.Author.Rules.{rules}
use Rattle.state.specs.Loop.{up_to}
use Rattle.load.proofs.walking.clear_from.Goals as goal

pub loop-i-init : goal.loop-i-init
unfolding up_to
loop-i-init c = search rules

pub loop-i-preserved : goal.loop-i-preserved
unfolding up_to
loop-i-preserved c = rw add-one (simp (c.clear_past.ensures, c.loop-i.invariant))
