-- What each register of a CPU interface reads, what a write to it does, and where its vCPU is looked up: document 01, "CPU interface places" and
-- "Refusal numbers"; IHI 0048, Table 4-2, "CPU interface register map".
use Rattle.std.specs.Prelude.{◌≡◌, Bool, true, false, List, ℕ, Option, Some}
use Rattle.interrupt.specs.Types.{is_valid}
use Rattle.register.specs.declared.cpu_interface.CpuInterfaceRegister.{CpuInterfaceRegister}
use Rattle.register.specs.declared.cpu_interface.CpuInterfaceRegister.TheVariants.{Ctlr, Pmr, Bpr, Iar, Eoir, Rpr, Hppir, Abpr, Aiar, Aeoir, Ahppir, Apr, Iidr, Dir, Other}
use Rattle.state.specs.declared.layout.Shape.{Shape}
use Rattle.state.specs.declared.layout.InterfaceValue.{InterfaceValue}
use Rattle.state.specs.declared.layout.InterfaceValue.TheVariants.{Control, PriorityMask, BinaryPoint}
use Rattle.state.specs.Layout.{Room}
use Rattle.state.specs.Words.{interface_at, with_interface, enabled_at}
use Rattle.distributor.specs.Values.{iidr}
use Rattle.select.specs.Select.{highest_pending}
use Rattle.service.specs.Service.{running, Served}
use Rattle.acknowledge.specs.Acknowledge.{acknowledge, acknowledged}
use Rattle.end.specs.End.{decoded_eoi, eoi_state, eoi_retired, dir_state, dir_retired}

-- what a read gives: always the same number, a number of the vCPU's, or an interrupt
pub data ReadRule : Type 0 where
  Constant : ℕ → ReadRule
  Shows : (Shape → ℕ → List ℕ → ℕ) → ReadRule
  Acknowledges : ReadRule

-- what a write does: nothing, a value is kept, or an interrupt is ended or deactivated
pub data WriteRule : Type 0 where
  Ignored : WriteRule
  Keeps : InterfaceValue → WriteRule
  Ends : WriteRule
  Deactivates : WriteRule

pub record Rule : Type 0 where
  pub reads : ReadRule
  pub writes : WriteRule

abbrev pub rule : ReadRule → WriteRule → Rule
rule reads writes = record { reads = reads; writes = writes }

-- "kept and read back"
abbrev pub kept_rule : InterfaceValue → Rule
kept_rule k = rule (Shows (λ shape v s. interface_at shape v k s)) (Keeps k)

-- "CTLR 0x00 keeps bits 0 (enable) and 9 (EOI mode)"
abbrev pub ctlr_rule : Rule
ctlr_rule = kept_rule Control

-- "PMR 0x04 keeps 8 bits"
abbrev pub pmr_rule : Rule
pmr_rule = kept_rule PriorityMask

-- "BPR 0x08 and ABPR 0x1C are one value, 3 bits", which an acknowledge groups by (`group_of` in crates/acknowledge)
abbrev pub bpr_rule : Rule
bpr_rule = kept_rule BinaryPoint

-- "IAR, RPR, HPPIR, their aliases, APR and IIDR ignore writes"
abbrev pub iar_rule : Rule
iar_rule = rule Acknowledges Ignored

-- the newest entry as it is stored, which is a group priority: "RPR shows it" (document 02, Two)
abbrev pub rpr_rule : Rule
rpr_rule = rule (Shows running) Ignored

abbrev pub hppir_rule : Rule
hppir_rule = rule (Shows highest_pending) Ignored

-- "IIDR 0xFC is 0x0002043B"
abbrev pub iidr_rule : Rule
iidr_rule = rule (Constant iidr) Ignored

-- "EOIR, AEOIR and DIR read 0"
abbrev pub eoir_rule : Rule
eoir_rule = rule (Constant 0) Ends

abbrev pub dir_rule : Rule
dir_rule = rule (Constant 0) Deactivates

-- "APR 0xD0 reads 0"; "The rest reads 0 and ignores writes"
abbrev pub rest_rule : Rule
rest_rule = rule (Constant 0) Ignored

-- "AIAR, AEOIR, AHPPIR at 0x20, 0x24, 0x28 act as these"
abbrev pub rule_of : CpuInterfaceRegister → Rule
rule_of Ctlr = ctlr_rule
rule_of Pmr = pmr_rule
rule_of Bpr = bpr_rule
rule_of Iar = iar_rule
rule_of Eoir = eoir_rule
rule_of Rpr = rpr_rule
rule_of Hppir = hppir_rule
rule_of Abpr = bpr_rule
rule_of Aiar = iar_rule
rule_of Aeoir = eoir_rule
rule_of Ahppir = hppir_rule
rule_of Apr = rest_rule
rule_of Iidr = iidr_rule
rule_of Dir = dir_rule
rule_of Other = rest_rule

-- a read: the answer, and the state after it
abbrev pub read_by : Shape → ℕ → ReadRule → List ℕ → Option ℕ
read_by shape v (Constant x) s = Some x
read_by shape v (Shows f) s = Some (f shape v s)
read_by shape v Acknowledges s = acknowledge shape v s

abbrev pub after_read_by : Shape → ℕ → ReadRule → List ℕ → List ℕ
after_read_by shape v (Constant x) s = s
after_read_by shape v (Shows f) s = s
after_read_by shape v Acknowledges s = acknowledged shape v s

-- "The vCPU is not looked up for: .. CPU interface IIDR, APR and unnamed places; .. reads of EOIR and DIR, ..; reads of IAR while the
-- Distributor is off (aliases alike)"
abbrev pub read_by_looks_up : ReadRule → Bool → Bool
read_by_looks_up (Constant x) on = false
read_by_looks_up (Shows f) on = true
read_by_looks_up Acknowledges on = on

abbrev pub is_acknowledge : ReadRule → Bool
is_acknowledge (Constant x) = false
is_acknowledge (Shows f) = false
is_acknowledge Acknowledges = true

-- a write: the state after it, and what it retires, 1023 for none
abbrev pub write_by : Shape → ℕ → WriteRule → ℕ → List ℕ → List ℕ
write_by shape v Ignored value s = s
write_by shape v (Keeps k) value s = with_interface shape v k value s
write_by shape v Ends value s = eoi_state shape v (decoded_eoi value) s
write_by shape v Deactivates value s = dir_state shape v (decoded_eoi value) s

abbrev pub retired_by : Shape → ℕ → WriteRule → ℕ → List ℕ → ℕ
retired_by shape v Ignored value s = 1023
retired_by shape v (Keeps k) value s = 1023
retired_by shape v Ends value s = eoi_retired shape v (decoded_eoi value) s
retired_by shape v Deactivates value s = dir_retired shape v (decoded_eoi value) s

-- ".. writes to IAR, RPR and HPPIR; [writes to EOIR and DIR] with an undecodable number"
abbrev pub decodes : ℕ → Bool
decodes value = is_valid (decoded_eoi value)

abbrev pub write_by_looks_up : WriteRule → ℕ → Bool
write_by_looks_up Ignored value = false
write_by_looks_up (Keeps k) value = true
write_by_looks_up Ends value = decodes value
write_by_looks_up Deactivates value = decodes value

-- the same of a register
abbrev pub read_register : Shape → ℕ → CpuInterfaceRegister → List ℕ → Option ℕ
read_register shape v register s = read_by shape v (rule_of register).reads s

abbrev pub after_read : Shape → ℕ → CpuInterfaceRegister → List ℕ → List ℕ
after_read shape v register s = after_read_by shape v (rule_of register).reads s

abbrev pub read_register_looks_up : CpuInterfaceRegister → Bool → Bool
read_register_looks_up register on = read_by_looks_up (rule_of register).reads on

abbrev pub acknowledging : CpuInterfaceRegister → Bool
acknowledging register = is_acknowledge (rule_of register).reads

abbrev pub write_register : Shape → ℕ → CpuInterfaceRegister → ℕ → List ℕ → List ℕ
write_register shape v register value s = write_by shape v (rule_of register).writes value s

abbrev pub write_retired : Shape → ℕ → CpuInterfaceRegister → ℕ → List ℕ → ℕ
write_retired shape v register value s = retired_by shape v (rule_of register).writes value s

abbrev pub write_register_looks_up : CpuInterfaceRegister → ℕ → Bool
write_register_looks_up register value = write_by_looks_up (rule_of register).writes value

-- words that hold a state, with the vCPU where it is looked up
pub record Reading (shape : Shape) (v : ℕ) (register : CpuInterfaceRegister) (s : List ℕ) : Type 0 where
  pub state : Room shape s
  pub served : read_register_looks_up register (enabled_at shape s) ≡ true → Served shape v s

pub record Writing (shape : Shape) (v : ℕ) (register : CpuInterfaceRegister) (value : ℕ) (s : List ℕ) : Type 0 where
  pub state : Room shape s
  pub served : write_register_looks_up register value ≡ true → Served shape v s
