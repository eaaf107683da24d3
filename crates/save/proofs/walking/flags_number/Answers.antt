-- `save::walking::flags_number` meets its contract. Assumes nothing.
use mathlib.Core.Bool.{not}
use native.Mathlib.Omega.{arith}
use Rattle.interrupt.specs.Types.{is_level}
use Rattle.word.specs.Fields.{packed}
use Rattle.word.proofs.RecordWord.{bit_fits}
use Rattle.image.specs.Image.{flags_number}
use Rattle.save.proofs.walking.flags_number.Goals as goal

pub returns : goal.returns
unfolding flags_number packed
returns c =
    let r = c.args.record in
    (omega (arith, c.flags.ensures.0, bit_fits r.enabled, bit_fits r.pending, bit_fits r.active, bit_fits r.inflight, bit_fits r.redelivery_pending, bit_fits r.line_asserted, bit_fits (not (is_level r.trigger))), omega arith)
