use mathlib.Core.Bool.{true}
use mathlib.Core.Path.{◌≡◌}
use Rattle.state.specs.Loop.{every_below}
use Rattle.service.specs.Service.{stack_to, running_of}
use Rattle.lawful_test.specs.LawfulTest.{entry_lawful_at}
use Rattle.lawful_test.proofs.stack_lawful.Given as goal

abbrev pub invariant-loop-i : goal.invariant-loop-i
invariant-loop-i l = (l.above.0 ≡ running_of (stack_to l.shape l.vcpu.0 l.words l.i)) × (every_below (entry_lawful_at l.shape l.vcpu.0 l.words) l.i ≡ true)
