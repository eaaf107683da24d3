-- The kernel's own story (document 02, Two: "Our guest kernel sets BPR to 2 and finds its handlers interrupted by neighbours of nearly equal
-- priority"), as calls to a controller and what they answer.
use Rattle.std.specs.Prelude.{◌≡◌, Bool, true, false, cond, ◌&&◌, ◌||◌, List, ℕ, ◌+◌, ◌*◌, ◌%◌, ◌≤◌, ◌<◌, eqb, ltb, Result, Ok, Err}
use Rattle.register.specs.declared.frame.AccessWidth.TheVariants.{Dword}
use Rattle.state.specs.declared.layout.Shape.{Shape}
use Rattle.state.specs.declared.layout.InterfaceValue.TheVariants.{BinaryPoint}
use Rattle.state.specs.Layout.{interface_number}
use Rattle.state.specs.Words.{record_at, kept, interface_at}
use Rattle.select.specs.Select.{candidate, both_on}
use Rattle.service.specs.Service.{depth_at}
use Rattle.acknowledge.specs.Acknowledge.{group_priority, source_of}
use Rattle.cpu_interface.specs.CpuInterface.{WriteRule, Ignored, Keeps, Ends, Deactivates, rule_of}
use Rattle.answer.specs.Answer.{Outcome}
use Rattle.lawful.specs.Lawful.{Controls}
use Rattle.history.specs.History.{Call, ReadCpuInterface, Looks, ReadsRegister, WritesRegister, WritesPlace, Signals, Deed, Starts, Acts, deed, called, run, rpr_read}
use Rattle.waiting.specs.Waiting.{never}
use Rattle.stories.specs.Stories.{NoneAhead}
use Rattle.register.specs.declared.cpu_interface.CpuInterfaceRegister.{CpuInterfaceRegister}
use Rattle.register.specs.declared.frame.Refusal.{Refusal}

-- an acknowledge: a read of IAR, or by its other name of AIAR
abbrev pub acknowledge_read : Bool → ℕ → Call
acknowledge_read alias v = ReadCpuInterface v (cond alias 0x20 0x0c) Dword

-- A handler starts with an acknowledge that gives its vCPU an interrupt, of an SGI with its source (else 0); any calls come after it.
pub record Handler : Type 0 where
  pub shape : Shape
  pub words : List ℕ
  pub vcpu : ℕ
  pub alias : Bool
  pub interrupt : ℕ
  pub source : ℕ
  pub meanwhile : List Call

abbrev pub entered : Handler → Outcome
entered h = called (acknowledge_read h.alias h.vcpu) h.words

abbrev pub later : Handler → List ℕ
later h = run h.meanwhile (entered h).state

-- what its vCPU then reads: an acknowledge, by either name, and RPR
abbrev pub next_read : Bool → Handler → Outcome
next_read alias h = called (acknowledge_read alias h.vcpu) (later h)

abbrev pub running_read : Handler → Outcome
running_read h = called (rpr_read h.vcpu) (later h)

-- the binary point that the handler was given under
abbrev pub point_of : Handler → ℕ
point_of h = interface_at h.shape h.vcpu BinaryPoint h.words

-- the group priority of the number n by it, with the priority that n has in s
abbrev pub group_in : Handler → ℕ → List ℕ → ℕ
group_in h n s = group_priority (point_of h) (record_at h.shape h.vcpu n s).priority.0

-- the handler's own, when it was given
abbrev pub own_group : Handler → ℕ
own_group h = group_in h h.interrupt h.words

-- no handler runs on the vCPU in s that has interrupted it
abbrev pub is_innermost : Handler → List ℕ → Bool
is_innermost h s = eqb (depth_at h.shape h.vcpu s) (depth_at h.shape h.vcpu h.words + 1)

-- a write to BPR, or to ABPR, which is the same, that raises it
abbrev pub raises_point : Handler → WriteRule → ℕ → Bool
raises_point h Ignored value = false
raises_point h (Keeps k) value = eqb (interface_number k) (interface_number BinaryPoint) && ltb (point_of h) (kept k value)
raises_point h Ends value = false
raises_point h Deactivates value = false

-- the handler's EOIR (or AEOIR): its number is written, while no handler runs that has interrupted it
abbrev pub is_its_end : Handler → WriteRule → ℕ → List ℕ → Bool
is_its_end h Ignored value s = false
is_its_end h (Keeps k) value s = false
is_its_end h Ends value s = eqb (value % 1024) h.interrupt && is_innermost h s
is_its_end h Deactivates value s = false

abbrev pub writes_there : Handler → Result CpuInterfaceRegister Refusal → ℕ → List ℕ → Bool
writes_there h (Err r) value s = false
writes_there h (Ok register) value s = raises_point h (rule_of register).writes value || is_its_end h (rule_of register).writes value s

-- what the story ends with: all starts anew, or the vCPU itself raises its BPR or writes the handler's EOIR
abbrev pub ends_story : Handler → List ℕ → Deed → Outcome → Bool
ends_story h s (Starts count limit) o = eqb o.refusal 0
ends_story h s (Acts (Looks by)) o = false
ends_story h s (Acts (ReadsRegister v a)) o = false
ends_story h s (Acts (WritesRegister v a value)) o = eqb v h.vcpu && writes_there h a value s
ends_story h s (Acts (WritesPlace v a width value)) o = false
ends_story h s (Acts (Signals v n signal)) o = false

-- the vCPU of a controller was given the interrupt, and of the calls since then none has ended the story
pub record Runs (h : Handler) : Type 0 where
  pub controls : Controls h.shape h.words
  pub exists : h.vcpu < h.shape.count
  pub numbered : h.interrupt < 1020
  pub given : (entered h).value ≡ h.interrupt + 1024 * h.source
  pub unended : never (λ s c o. ends_story h s (deed c) o) h.meanwhile (entered h).state ≡ true

-- an interrupt that waits for the vCPU, which is on, before all others
pub record Foremost (h : Handler) (n : ℕ) : Type 0 where
  pub numbered : n < h.shape.limit
  pub on : both_on h.shape h.vcpu (later h) ≡ true
  pub waits : candidate h.shape h.vcpu (later h) n ≡ true
  pub none_ahead : NoneAhead h.shape h.vcpu n (later h)

-- the number n is given, an SGI with its lowest source
pub record IsGiven (h : Handler) (n : ℕ) (read : Outcome) : Type 0 where
  pub accepted : read.refusal ≡ 0
  pub given : read.value ≡ n + 1024 * source_of h.shape h.vcpu n (later h)

pub record Shielded (h : Handler) : Type 0 where
  -- no interrupt of its group is given to the vCPU,
  pub none_of_its_group : (alias : Bool) (n source : ℕ) → group_in h n (later h) ≡ own_group h → (next_read alias h).value ≡ n + 1024 * source → n < 1020 → ⊥
  -- nor one of a larger group priority: whatever is given has a smaller one;
  pub only_smaller : (alias : Bool) (n source : ℕ) → (next_read alias h).value ≡ n + 1024 * source → n < 1020 → group_in h n (later h) < own_group h
  -- and one of a smaller group priority is given
  pub smaller_given : (alias : Bool) (n : ℕ) → Foremost h n → is_innermost h (later h) ≡ true → group_in h n (later h) < own_group h → IsGiven h n (next_read alias h)
  -- its group priority is what runs, or a handler that has interrupted it runs at a smaller one
  pub runs : is_innermost h (later h) ≡ true → (running_read h).value ≡ own_group h
  pub runs_at_most : (running_read h).value ≤ own_group h
