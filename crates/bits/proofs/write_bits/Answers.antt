-- `bits::write_bits` meets its contract. Assumes nothing.
use Rattle.bits.proofs.Runs.{next_reached, next_placed, run_written}
use Rattle.bits.proofs.write_bits.Goals as goal

pub write_number-requires : goal.write_number-requires
write_number-requires c = search (next_reached, next_placed)

pub returns : goal.returns
returns c = search run_written
