-- `vgic::vgic_image_shape` meets its contract. Assumes nothing.
use Rattle.vgic.proofs.Packing.{answers}
use Rattle.vgic.proofs.vgic_image_shape.Goals as goal

pub returns : goal.returns
returns c = answers _ c.image_shape.result c.packed.ensures _ _ c.image_shape.ensures
