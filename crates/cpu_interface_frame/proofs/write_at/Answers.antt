-- `cpu_interface_frame::write_at` meets its contract. Assumes nothing.
use Rattle.cpu_interface_frame.proofs.Passed.{write_stays_sound, write_answered}
use Rattle.cpu_interface_frame.proofs.write_at.Goals as goal

pub done-requires : goal.done-requires
done-requires c = search write_stays_sound

pub returns : goal.returns
returns c = search write_answered
