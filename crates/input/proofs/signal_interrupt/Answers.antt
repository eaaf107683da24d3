-- `input::signal_interrupt` meets its contract. Assumes nothing.
use mathlib.Core.Path.{◌∙◌}
use Rattle.input.specs.Input.{signalled}
use Rattle.input.proofs.Passed.{changed_sound}
use Rattle.input.proofs.Wakes.{signal_wakes}
use Rattle.input.proofs.signal_interrupt.Goals as goal

pub done-requires : goal.done-requires
done-requires c =
    let a = c.args in
    rw c.signal_record.ensures (changed_sound a.shape a.vcpu.0 a.intid.0 (signalled a.signal) a.words.now c.requires.sound c.requires.there)

pub returns : goal.returns
returns c =
    let a = c.args in
    c.done.ensures
    ∙ simp (
      c.signal_record.ensures,
      c.quiet_among-quiet.ensures,
      c.read_target.ensures,
      signal_wakes a.shape a.vcpu.0 a.intid.0 a.signal a.words.now c.requires.sound c.requires.there,
    )
