-- `vgic::vgic_write_v2_cpu_interface` meets its contract. Assumes nothing.
use Rattle.std.specs.Prelude.{Err}
use mathlib.Core.Path.{◌∙◌}
use Rattle.register.specs.declared.frame.Refusal.TheVariants.{Width}
use Rattle.vgic.proofs.Packing.{answers}
use Rattle.vgic.proofs.vgic_write_v2_cpu_interface.Goals as goal

pub returns-in_default : goal.returns-in_default
returns-in_default c = answers _ (Err Width) c.packed.ensures _ _ (simp (← c.new.ensures, c.in_default.is))

pub returns : goal.returns
returns c = answers _ c.write_v2_cpu_interface.result c.packed-2.ensures _ _ (c.write_v2_cpu_interface.ensures ∙ simp (← c.new.ensures, c.in-Some.is))
