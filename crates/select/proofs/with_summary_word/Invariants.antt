use mathlib.Core.Path.{◌≡◌}
use Prim.Native.Nat.{◌<◌, ◌^◌}
use Rattle.select.specs.Keys.{with_summary_word}
use Rattle.select.proofs.with_summary_word.Given as goal

abbrev pub invariant-loop-left : goal.invariant-loop-left
invariant-loop-left l =
    (l.left < 2 ^ 32) × (with_summary_word l.test l.offset l.limit l.words l.first l.left l.key ≡ with_summary_word l.test l.offset l.limit l.words l.first l.bits l.start)

abbrev pub decreases-loop-left : goal.decreases-loop-left
decreases-loop-left l = l.left
