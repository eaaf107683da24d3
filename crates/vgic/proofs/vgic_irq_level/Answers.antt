-- `vgic::vgic_irq_level` meets its contract. Assumes nothing.
use Rattle.vgic.proofs.Packing.{answers}
use Rattle.vgic.proofs.vgic_irq_level.Goals as goal

pub returns : goal.returns
returns c = answers _ c.irq_level.result c.packed.ensures _ _ c.irq_level.ensures
