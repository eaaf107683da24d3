use mathlib.Core.Bool.{cond}
use mathlib.Core.Path.{◌≡◌}
use Rattle.load.specs.Walking.{spot, entry_spot, entries_stored}
use Rattle.load.proofs.walking.take_entries.Given as goal

abbrev pub invariant-loop-i : goal.invariant-loop-i
invariant-loop-i l = ((entry_spot l.shape l.image l.start l.i ≡ spot l.at l.above.0) × (l.words ≡ cond l.stores (entries_stored l.shape l.image l.vcpu.0 l.start l.i l.fn.words) l.fn.words))
