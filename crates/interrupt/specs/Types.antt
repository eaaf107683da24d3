-- The numbers that stay apart, by document 01, "Numbers that stay apart", and IHI 0048, "Interrupt IDs": SGIs are 0 to 15, PPIs 16 to
-- 31, SPIs from 32; 1020 to 1023 are no interrupts. An interrupt number, a vCPU number and a priority are declared in the source as
-- three types of one number each. Left out on purpose: the limit of a controller, below which its SPIs lie; that is the state's to say.
use Rattle.std.specs.Prelude.{Bool, true, false, cond, ℕ, ltb, Option, Some, None}
use Rattle.interrupt.specs.declared.types.IntId.{IntId}
use Rattle.interrupt.specs.declared.types.Priority.{Priority}
use Rattle.interrupt.specs.declared.types.TriggerMode.{TriggerMode}
use Rattle.interrupt.specs.declared.types.TriggerMode.TheVariants.{Level, Edge}
use Rattle.interrupt.specs.declared.types.InterruptState.{InterruptState}
use Rattle.interrupt.specs.declared.types.InterruptState.TheVariants.{Inactive, Pending, Active, ActivePending}

-- 0 to 1019 are interrupts
unfoldable pub decoded : ℕ → Option IntId
decoded raw = cond (ltb raw 1020) (Some (record { 0 = raw })) None

abbrev pub is_valid : Option IntId → Bool
is_valid (Some n) = true
is_valid None = false

abbrev pub is_sgi : IntId → Bool
is_sgi n = ltb n.0 16

-- SGIs and PPIs are private: each vCPU has its own
abbrev pub is_private_id : IntId → Bool
is_private_id n = ltb n.0 32

-- the priority that a byte says
abbrev pub priority_of : ℕ → Priority
priority_of byte = record { 0 = byte }

-- the running priority of a vCPU that serves nothing: "the newest on the stack, or 255"
abbrev pub idle_priority : ℕ
idle_priority = 255

-- a byte with a bit for each of 8 vCPUs: all of them
abbrev pub every_vcpu : ℕ
every_vcpu = 255

-- "SGIs start enabled and edge; the others disabled and level"
unfoldable pub starting_trigger : IntId → TriggerMode
starting_trigger n = cond (is_sgi n) Edge Level

abbrev pub is_level : TriggerMode → Bool
is_level Level = true
is_level Edge = false

-- the pending and the active bit of each of the four states (IHI 0048, "Interrupt handling state machine")
abbrev pub pending_in : InterruptState → Bool
pending_in Inactive = false
pending_in Pending = true
pending_in Active = false
pending_in ActivePending = true

abbrev pub active_in : InterruptState → Bool
active_in Inactive = false
active_in Pending = false
active_in Active = true
active_in ActivePending = true
