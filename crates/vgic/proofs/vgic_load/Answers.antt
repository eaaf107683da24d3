-- `vgic::vgic_load` meets its contract. Assumes nothing.
use Rattle.vgic.proofs.Packing.{answers}
use Rattle.vgic.proofs.vgic_load.Goals as goal

pub returns : goal.returns
returns c = answers _ c.load.result c.packed.ensures _ _ c.load.ensures
