use mathlib.Core.Path.{◌≡◌}
use Prim.Native.Nat.{◌-◌, ◌*◌}
use Rattle.state.specs.Layout.{spi_start}
use Rattle.select.proofs.SummaryWords.{least_of}
use Rattle.select.proofs.least_ready.Given as goal

abbrev pub invariant-loop-g : goal.invariant-loop-g
invariant-loop-g l = l.key ≡ least_of l.shape l.test (spi_start l.shape - 32) l.words l.start (32 * l.g)
