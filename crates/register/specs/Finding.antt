-- How `locate_distributor` goes about it: what its functions promise each other. A reader need not believe any of it; the promise is in
-- Distributor.antt.
use Rattle.std.specs.Prelude.{Bool, true, false, ◌≡◌, ℕ, ◌<◌}
use Rattle.register.specs.declared.ranges.ByteRegister.{ByteRegister}
use Rattle.register.specs.declared.ranges.ByteRegister.TheVariants.{Ipriorityr, Itargetsr, Cpendsgir, Spendsgir}
use Rattle.register.specs.declared.ranges.Class.{Class}
use Rattle.register.specs.Ranges.{class_at}

-- an offset in the frame, and its class
pub record Found (class : Class) (offset : ℕ) : Type 0 where
  pub class_is : class ≡ class_at offset
  pub in_frame : offset < 0x1000

-- the byte array of which each vCPU has its own for the numbers below 32
abbrev pub is_priority : ByteRegister → Bool
is_priority Ipriorityr = true
is_priority Itargetsr = false
is_priority Cpendsgir = false
is_priority Spendsgir = false
