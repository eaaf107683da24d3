-- Where the registers are that the theorems about calls speak of. Assumes nothing.
use Rattle.std.specs.Prelude.{Ok}
use mathlib.Core.Path.{◌≡◌, refl}
use Rattle.register.specs.declared.frame.AccessWidth.TheVariants.{Dword}
use Rattle.register.specs.declared.distributor.DistributorAccess.TheVariants as distributor
use Rattle.register.specs.declared.cpu_interface.CpuInterfaceRegister.TheVariants.{Iar, Aiar, Eoir, Rpr, Dir}
use Rattle.register.specs.declared.ranges.Class.TheVariants.{Sgir}
use Rattle.register.specs.CpuInterface.{registers, register_in, register_at, locate_cpu_interface}
use Rattle.register.specs.Distributor.{plain, single, locate_in_frame, locate_distributor}
use Rattle.register.specs.Ranges.{ranges, range_in, range_at}

pub iar_at : locate_cpu_interface 0x0c Dword ≡ Ok Iar
unfolding locate_cpu_interface register_at register_in registers
iar_at = refl

pub aiar_at : locate_cpu_interface 0x20 Dword ≡ Ok Aiar
unfolding locate_cpu_interface register_at register_in registers
aiar_at = refl

pub eoir_at : locate_cpu_interface 0x10 Dword ≡ Ok Eoir
unfolding locate_cpu_interface register_at register_in registers
eoir_at = refl

pub rpr_at : locate_cpu_interface 0x14 Dword ≡ Ok Rpr
unfolding locate_cpu_interface register_at register_in registers
rpr_at = refl

pub dir_at : locate_cpu_interface 0x1000 Dword ≡ Ok Dir
unfolding locate_cpu_interface register_at register_in registers
dir_at = refl

pub sgir_at_lem : locate_distributor 0xf00 Dword ≡ distributor.At (plain Sgir)
unfolding locate_distributor locate_in_frame single range_at range_in ranges
sgir_at_lem = refl
