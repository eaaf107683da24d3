-- `wake::ready` meets its contract. Assumes nothing.
use Rattle.wake.proofs.Readiness.{ready_below}
use Rattle.wake.proofs.ready.Goals as goal

pub returns-then-both_enabled : goal.returns-then-both_enabled
returns-then-both_enabled c =
    let a = c.args in
    rw (ready_below a.shape a.vcpu.0 a.words.now, ← c.both_enabled.ensures, c.if-both_enabled.true, ← c.preemption_bound.ensures.0) c.some_below.ensures

pub returns-else-both_enabled : goal.returns-else-both_enabled
returns-else-both_enabled c =
    let a = c.args in
    rw (ready_below a.shape a.vcpu.0 a.words.now, ← c.both_enabled.ensures, c.if-both_enabled.false)
