-- `cpu_interface_frame::write_seers` meets its contract. Assumes nothing.
use Rattle.cpu_interface_frame.specs.Seers.{write_seers}
use Rattle.cpu_interface_frame.proofs.write_seers.Goals as goal

pub returns : goal.returns
unfolding write_seers
returns c = rw (c.own_byte.ensures, c.read_target.ensures)
