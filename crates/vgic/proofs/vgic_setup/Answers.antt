-- `vgic::vgic_setup` meets its contract. Assumes nothing.
use Rattle.vgic.proofs.Packing.{answers}
use Rattle.vgic.proofs.vgic_setup.Goals as goal

pub returns : goal.returns
returns c = answers _ c.setup.result c.packed.ensures _ _ c.setup.ensures
