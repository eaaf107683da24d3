-- Where an access to a CPU interface looks up its vCPU, computed for every register. Document 01: "The vCPU is not looked up for: .. CPU interface
-- IIDR, APR and unnamed places; writes to IAR, RPR and HPPIR; reads of EOIR and DIR, and writes to them with an undecodable number; reads of IAR
-- while the Distributor is off (aliases alike)". Assumes nothing.
use mathlib.Core.Bool.{Bool, true, false, cond}
use mathlib.Core.Path.{◌≡◌, refl}
use mathlib.Core.List.{List, [], ◌∷◌}
use Prim.Native.Nat.{ℕ}
use Rattle.interrupt.specs.Types.{decoded}
use Rattle.register.specs.declared.cpu_interface.CpuInterfaceRegister.{CpuInterfaceRegister}
use Rattle.register.specs.declared.cpu_interface.CpuInterfaceRegister.TheVariants.{Other}
use Rattle.register.specs.CpuInterface.{RegisterRow, registers}
use Rattle.cpu_interface.specs.CpuInterface.{read_register_looks_up, write_register_looks_up}

-- the offsets of the registers that pass the test
abbrev offsets : (CpuInterfaceRegister → Bool) → List RegisterRow → List ℕ
offsets f [] = []
offsets f (r ∷ rs) = cond (f r.register) (r.offset ∷ offsets f rs) (offsets f rs)

pub reads_while_on : offsets (λ (r : CpuInterfaceRegister). read_register_looks_up r true) registers ≡ 0x00 ∷ 0x04 ∷ 0x08 ∷ 0x0c ∷ 0x14 ∷ 0x18 ∷ 0x1c ∷ 0x20 ∷ 0x28 ∷ []
unfolding registers
reads_while_on = refl

pub reads_while_off : offsets (λ (r : CpuInterfaceRegister). read_register_looks_up r false) registers ≡ 0x00 ∷ 0x04 ∷ 0x08 ∷ 0x14 ∷ 0x18 ∷ 0x1c ∷ 0x28 ∷ []
unfolding registers
reads_while_off = refl

pub writes_of_a_number : offsets (λ (r : CpuInterfaceRegister). write_register_looks_up r 1019) registers ≡ 0x00 ∷ 0x04 ∷ 0x08 ∷ 0x10 ∷ 0x1c ∷ 0x24 ∷ 0x1000 ∷ []
unfolding registers decoded
writes_of_a_number = refl

pub writes_of_none : offsets (λ (r : CpuInterfaceRegister). write_register_looks_up r 1020) registers ≡ 0x00 ∷ 0x04 ∷ 0x08 ∷ 0x1c ∷ []
unfolding registers decoded
writes_of_none = refl

pub unnamed_places : (on : Bool) (value : ℕ) → (read_register_looks_up Other on ≡ false) × (write_register_looks_up Other value ≡ false)
unnamed_places on value = (refl, refl)
