use mathlib.Core.Path.{◌≡◌}
use Rattle.sgi.specs.Sgi.{sent_to}
use Rattle.state.specs.Loop.{up_to}
use Rattle.sgi.proofs.send_sgi.Given as goal

abbrev pub invariant-loop-v : goal.invariant-loop-v
invariant-loop-v l = l.words ≡ up_to (sent_to l.shape l.target l.source.0 l.sgi.0) l.v l.fn.words
