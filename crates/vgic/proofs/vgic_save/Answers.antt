-- `vgic::vgic_save` meets its contract. Assumes nothing.
use Rattle.vgic.proofs.Packing.{saves}
use Rattle.vgic.proofs.vgic_save.Goals as goal

pub returns : goal.returns
returns c = saves _ c.save.result c.packed.ensures _ _ _ c.save.ensures
