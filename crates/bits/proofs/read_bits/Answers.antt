-- `bits::read_bits` meets its contract. Assumes nothing.
use Rattle.bits.proofs.Runs.{run_at, run_read, none_reads}
use Rattle.bits.proofs.read_bits.Goals as goal

pub returns-then-shape-first : goal.returns-then-shape-first
returns-then-shape-first c = search none_reads

pub read_run-requires : goal.read_run-requires
read_run-requires c = search run_at

pub returns : goal.returns
returns c = search run_read
