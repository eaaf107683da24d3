-- `bits::write_number` meets its contract. Assumes nothing.
use Rattle.bits.proofs.Runs.{number_written, number_kept}
use Rattle.bits.proofs.write_number.Goals as goal

pub returns-then-acts : goal.returns-then-acts
returns-then-acts c = search number_written

pub returns-else-acts : goal.returns-else-acts
returns-else-acts c = search number_kept
