-- `wake::answers_so` meets its contract. Assumes nothing.
use mathlib.Core.Path.{sym}
use Rattle.wake.proofs.Readiness.{ready_spurious, ready_number}
use Rattle.wake.proofs.answers_so.Goals as goal

pub returns-in-Spurious : goal.returns-in-Spurious
returns-in-Spurious c =
    simp (c.in-Spurious.is, c.ready-some.ensures) (sym (ready_spurious c.args.shape c.args.vcpu.0 c.args.words.now c.requires.state.limits))

pub returns-in-Number : goal.returns-in-Number
returns-in-Number c =
    simp (c.in-Number.is, c.ready-some.ensures, c.depth.ensures) (sym (ready_number c.args.shape c.args.vcpu.0 c.args.words.now c.requires.state.limits))
