-- `distributor_frame::read_at` meets its contract. Assumes nothing.
use Rattle.distributor_frame.proofs.Passed.{read_answered}
use Rattle.distributor_frame.proofs.read_at.Goals as goal

pub returns : goal.returns
returns c = search (read_answered, c.gave.ensures)
