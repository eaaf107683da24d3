-- `vgic::vgic_interrupt` meets its contract. Assumes nothing.
use Rattle.vgic.proofs.Packing.{answers}
use Rattle.vgic.proofs.vgic_interrupt.Goals as goal

pub returns : goal.returns
returns c = answers _ c.interrupt_word.result c.packed.ensures _ _ c.interrupt_word.ensures
