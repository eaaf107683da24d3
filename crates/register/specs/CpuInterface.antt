-- Where an access to a CPU interface falls: document 01, "CPU interface places"; the registers are those of IHI 0048, Table 4-2, "CPU
-- interface register map". NSAPR and what IHI leaves to the implementer are no registers here: "The rest reads 0 and ignores writes".
use Rattle.std.specs.Prelude.{cond, List, [], ◌∷◌, ℕ, eqb, Result, Ok, Err}
use Rattle.register.specs.declared.frame.AccessWidth.{AccessWidth}
use Rattle.register.specs.declared.frame.Refusal.TheVariants.{Access, Width}
use Rattle.register.specs.declared.cpu_interface.CpuInterfaceRegister.{CpuInterfaceRegister}
use Rattle.register.specs.declared.cpu_interface.CpuInterfaceRegister.TheVariants.{Ctlr, Pmr, Bpr, Iar, Eoir, Rpr, Hppir, Abpr, Aiar, Aeoir, Ahppir, Apr, Iidr, Dir, Other}
use Rattle.register.specs.Frame.{is_dword, refusal_number, in_frame}
use Rattle.register.specs.declared.frame.Refusal.{Refusal}

pub record RegisterRow : Type 0 where
  pub offset : ℕ
  pub register : CpuInterfaceRegister

abbrev pub register_row : ℕ → CpuInterfaceRegister → RegisterRow
register_row offset register = record { offset = offset; register = register }

unfoldable pub registers : List RegisterRow
registers =
    register_row 0x00 Ctlr
    ∷ register_row 0x04 Pmr
    ∷ register_row 0x08 Bpr
    ∷ register_row 0x0c Iar
    ∷ register_row 0x10 Eoir
    ∷ register_row 0x14 Rpr
    ∷ register_row 0x18 Hppir
    ∷ register_row 0x1c Abpr
    ∷ register_row 0x20 Aiar
    ∷ register_row 0x24 Aeoir
    ∷ register_row 0x28 Ahppir
    ∷ register_row 0xd0 Apr
    ∷ register_row 0xfc Iidr
    ∷ register_row 0x1000 Dir
    ∷ []

unfoldable pub register_in : List RegisterRow → ℕ → CpuInterfaceRegister
register_in [] offset = Other
register_in (r ∷ rs) offset = cond (eqb offset r.offset) r.register (register_in rs offset)

unfoldable pub register_at : ℕ → CpuInterfaceRegister
register_at offset = register_in registers offset

-- "Every access is 4 bytes"; 1 comes before 2
unfoldable pub locate_cpu_interface : ℕ → AccessWidth → Result CpuInterfaceRegister Refusal
locate_cpu_interface offset width = cond (in_frame 0x2000 offset width) (cond (is_dword width) (Ok (register_at offset)) (Err Width)) (Err Access)

-- the refusal that an access meets by itself, 0 for none; a vCPU is looked up later
unfoldable pub interface_refusal : Result CpuInterfaceRegister Refusal → ℕ
interface_refusal (Err r) = refusal_number r
interface_refusal (Ok register) = 0
