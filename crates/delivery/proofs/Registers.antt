-- What an acknowledge, a value written, EOIR and Deactivate keep, every access to a CPU interface keeps: the cases of the two tables, once.
-- Assumes nothing.
use Rattle.std.specs.Prelude.{Option, Some, None}
use mathlib.Core.Path.{◌≡◌, refl}
use mathlib.Core.Bool.{Bool, true, false}
use mathlib.Core.List.{List}
use Prim.Native.Nat.{ℕ, ◌<◌}
use Rattle.interrupt.specs.Types.{is_valid}
use Rattle.register.specs.declared.cpu_interface.CpuInterfaceRegister.{CpuInterfaceRegister}
use Rattle.register.specs.declared.cpu_interface.CpuInterfaceRegister.TheVariants.{Ctlr, Pmr, Bpr, Iar, Eoir, Rpr, Hppir, Abpr, Aiar, Aeoir, Ahppir, Apr, Iidr, Dir, Other}
use Rattle.state.specs.declared.layout.Shape.{Shape}
use Rattle.state.specs.declared.layout.InterfaceValue.{InterfaceValue}
use Rattle.state.specs.Layout.{Interface}
use Rattle.state.specs.Words.{with_interface, enabled_at}
use Rattle.state.proofs.Canonical.{OffStack}
use Rattle.acknowledge.specs.Acknowledge.{offer, taken, acknowledge, acknowledged}
use Rattle.end.specs.End.{decoded_eoi, deactivated, retired, ended, end_retired, eoi_state, eoi_retired, dir_state, dir_retired}
use Rattle.cpu_interface.specs.CpuInterface.{ReadRule, Constant, Shows, Acknowledges, WriteRule, Ignored, Keeps, Ends, Deactivates, rule_of, read_by, after_read_by, read_by_looks_up, is_acknowledge, write_by, retired_by, write_by_looks_up, read_register, acknowledging, after_read, write_register, write_retired, read_register_looks_up, write_register_looks_up}
use Rattle.interrupt.specs.declared.types.IntId.{IntId}

-- a read acknowledges, or gives a value and changes nothing; P is of the register, of whether its vCPU is looked up, of the answer and of the
-- state after
module _ (shape : Shape) (v : ℕ) (s : List ℕ) (P : CpuInterfaceRegister → Bool → Option ℕ → List ℕ → Type 0)
    (gives : (register : CpuInterfaceRegister) → acknowledging register ≡ false → (looks_up : Bool) (x : ℕ) → P register looks_up (Some x) s)
    (acknowledges : (register : CpuInterfaceRegister) → acknowledging register ≡ true → P register (enabled_at shape s) (acknowledge shape v s) (acknowledged shape v s)) where
  pub each_read : (register : CpuInterfaceRegister) → P register (read_register_looks_up register (enabled_at shape s)) (read_register shape v register s) (after_read shape v register s)
  each_read register = go (rule_of register).reads refl
    where
      go : (r : ReadRule) → is_acknowledge (rule_of register).reads ≡ is_acknowledge r → P register (read_by_looks_up r (enabled_at shape s)) (read_by shape v r s) (after_read_by shape v r s)
      go (Constant x) e = gives register e false x
      go (Shows f) e = gives register e true (f shape v s)
      go Acknowledges e = acknowledges register e

-- no register keeps the depth of a stack
abbrev pub OffDepths : ℕ → WriteRule → Type 0
OffDepths v Ignored = Unit
OffDepths v (Keeps k) = OffStack (Interface v k)
OffDepths v Ends = Unit
OffDepths v Deactivates = Unit

pub off_depths : (v : ℕ) (register : CpuInterfaceRegister) → OffDepths v (rule_of register).writes
off_depths v Ctlr = refl
off_depths v Pmr = refl
off_depths v Bpr = refl
off_depths v Iar = tt
off_depths v Eoir = tt
off_depths v Rpr = tt
off_depths v Hppir = tt
off_depths v Abpr = refl
off_depths v Aiar = tt
off_depths v Aeoir = tt
off_depths v Ahppir = tt
off_depths v Apr = tt
off_depths v Iidr = tt
off_depths v Dir = tt
off_depths v Other = tt

-- a write keeps a value, ends or deactivates an interrupt, or changes nothing; P is of whether its vCPU is looked up, of what is retired and of the
-- state after
module _ (shape : Shape) (v : ℕ) (s : List ℕ) (value : ℕ) (P : Bool → ℕ → List ℕ → Type 0)
    (nothing : (looks_up : Bool) → P looks_up 1023 s)
    (keeps : (k : InterfaceValue) → OffStack (Interface v k) → P true 1023 (with_interface shape v k value s))
    (ends : (n : ℕ) → P true (end_retired shape v n s) (ended shape v n s))
    (deactivates : (n : ℕ) → P true (retired shape v n s) (deactivated shape v n s)) where
  eoi_case : (number : Option IntId) → P (is_valid number) (eoi_retired shape v number s) (eoi_state shape v number s)
  eoi_case None = nothing false
  eoi_case (Some n) = ends n.0

  dir_case : (number : Option IntId) → P (is_valid number) (dir_retired shape v number s) (dir_state shape v number s)
  dir_case None = nothing false
  dir_case (Some n) = deactivates n.0

  by_rule : (r : WriteRule) → OffDepths v r → P (write_by_looks_up r value) (retired_by shape v r value s) (write_by shape v r value s)
  by_rule Ignored off = nothing false
  by_rule (Keeps k) off = keeps k off
  by_rule Ends off = eoi_case (decoded_eoi value)
  by_rule Deactivates off = dir_case (decoded_eoi value)

  pub each_write : (register : CpuInterfaceRegister) → P (write_register_looks_up register value) (write_retired shape v register value s) (write_register shape v register value s)
  each_write register = by_rule (rule_of register).writes (off_depths v register)

-- what they keep, of the state alone, by a vCPU that exists where it is looked up
module _ (shape : Shape) (v : ℕ) (s : List ℕ) (P : List ℕ → Type 0) (same : P s) where
  module _ (give : v < shape.count → P (acknowledged shape v s)) where
    -- while the Distributor is off an acknowledge changes nothing
    acknowledge_case : (enabled_at shape s ≡ true → v < shape.count) → P (acknowledged shape v s)
    unfolding offer taken
    acknowledge_case looked = go (enabled_at shape s) refl
      where
        go : (b : Bool) → enabled_at shape s ≡ b → P (acknowledged shape v s)
        go true e = give (looked e)
        go false e = simp e same

    pub read_cases : (register : CpuInterfaceRegister) → (read_register_looks_up register (enabled_at shape s) ≡ true → v < shape.count) → P (after_read shape v register s)
    read_cases = each_read shape v s (λ register looks_up answer r. (looks_up ≡ true → v < shape.count) → P r) (λ register no looks_up x looked. same) (λ register e. acknowledge_case)

  module _ (value : ℕ)
      (keep : v < shape.count → (k : InterfaceValue) → OffStack (Interface v k) → P (with_interface shape v k value s))
      (end : v < shape.count → (n : ℕ) → P (ended shape v n s))
      (off : v < shape.count → (n : ℕ) → P (deactivated shape v n s)) where
    pub write_cases : (register : CpuInterfaceRegister) → (write_register_looks_up register value ≡ true → v < shape.count) → P (write_register shape v register value s)
    write_cases =
        each_write shape v s value (λ looks_up number r. (looks_up ≡ true → v < shape.count) → P r)
        (λ looks_up looked. same)
        (λ k away looked. keep (looked refl) k away)
        (λ n looked. end (looked refl) n)
        (λ n looked. off (looked refl) n)
