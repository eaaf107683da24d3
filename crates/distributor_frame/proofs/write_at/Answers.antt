-- `distributor_frame::write_at` meets its contract. Assumes nothing.
use Rattle.distributor_frame.proofs.Passed.{write_stays_sound, write_answered}
use Rattle.distributor_frame.proofs.write_at.Goals as goal

pub done-requires : goal.done-requires
done-requires c = search write_stays_sound

pub returns : goal.returns
returns c = search write_answered
