-- `vgic::vgic_pulse` meets its contract. Assumes nothing.
use Rattle.vgic.proofs.Packing.{answers}
use Rattle.vgic.proofs.vgic_pulse.Goals as goal

pub returns : goal.returns
returns c = answers _ c.pulse.result c.packed.ensures _ _ c.pulse.ensures
