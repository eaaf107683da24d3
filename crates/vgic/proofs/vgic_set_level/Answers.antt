-- `vgic::vgic_set_level` meets its contract. Assumes nothing.
use Rattle.vgic.proofs.Packing.{answers}
use Rattle.vgic.proofs.vgic_set_level.Goals as goal

pub returns : goal.returns
returns c = answers _ c.set_level.result c.packed.ensures _ _ c.set_level.ensures
