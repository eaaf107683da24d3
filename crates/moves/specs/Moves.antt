-- The moves: what a call does to the state it does in small steps, each a change of one thing by name. Every call is a chain of these, and
-- what each of them keeps every history keeps; so a new register, frame or input adds a move at most. How the proofs go about it: the
-- promises speak of calls, and a reader need not believe any of this.
use Rattle.std.specs.Prelude.{◌≡◌, Bool, true, false, not, List, ℕ, ◌^◌, ◌≤◌, ◌<◌, eqb, Some, None}
use Rattle.interrupt.specs.declared.types.TriggerMode.{TriggerMode}
use Rattle.interrupt.specs.declared.record.InterruptRecord.{InterruptRecord}
use Rattle.interrupt.specs.Record.{set_enabled, set_pending, set_active, cancel_inflight, set_priority, set_trigger, set_cpu_target_mask, set_owner, set_level, pulse, complete, clear_delivery_state}
use Rattle.state.specs.declared.layout.Shape.{Shape}
use Rattle.state.specs.declared.layout.InterfaceValue.{InterfaceValue}
use Rattle.state.specs.Layout.{Interface, on_stack, stack_capacity}
use Rattle.state.specs.Words.{RecordThere, record_at, changed, sources_at, with_sources, with_interface, with_distributor_control}
use Rattle.sgi.specs.Sgi.{merged_sources}
use Rattle.select.specs.declared.Candidate.{Candidate}
use Rattle.service.specs.Service.{depth_at, popped}
use Rattle.acknowledge.specs.Acknowledge.{offer, given}
use Rattle.end.specs.End.{served_here, only_active, retire}

-- what is done to one record, by the names of the Rust
pub data Change : Type 0 where
  SetEnabled : Bool → Change
  SetPending : Bool → Change
  SetActive : Bool → Change
  CancelInflight : Change
  SetTrigger : TriggerMode → Change
  SetPriority : ℕ → Change
  SetCpuTargetMask : ℕ → Change
  SetLevel : Bool → Change
  Pulse : Change
  DeactivateInflight : Change
  Complete : Change
  ClearDeliveryState : Change

abbrev pub becomes : Change → InterruptRecord → InterruptRecord
becomes (SetEnabled e) r = set_enabled r e
becomes (SetPending p) r = set_pending r p
becomes (SetActive a) r = set_active r a
becomes CancelInflight r = set_owner (cancel_inflight (set_active r false)) None
becomes (SetTrigger t) r = set_trigger r t
becomes (SetPriority q) r = set_priority r (record { 0 = q })
becomes (SetCpuTargetMask m) r = set_cpu_target_mask r m
becomes (SetLevel a) r = set_level r a
becomes Pulse r = pulse r
becomes DeactivateInflight r = retire r
becomes Complete r = complete r
becomes ClearDeliveryState r = set_owner (clear_delivery_state r) None

-- when it is done to the record r of the number n by the vCPU v
abbrev pub Fits : Shape → ℕ → ℕ → Change → InterruptRecord → Type 0
Fits shape v n (SetEnabled e) r = Unit
Fits shape v n (SetPending p) r = 16 ≤ n
Fits shape v n (SetActive true) r = Unit
Fits shape v n (SetActive false) r = r.inflight ≡ false
Fits shape v n CancelInflight r = r.inflight ≡ true
Fits shape v n (SetTrigger t) r = 16 ≤ n
Fits shape v n (SetPriority q) r = q < 2 ^ 8
Fits shape v n (SetCpuTargetMask m) r = (32 ≤ n) × (m < 2 ^ shape.count)
Fits shape v n (SetLevel a) r = 16 ≤ n
Fits shape v n Pulse r = 16 ≤ n
Fits shape v n DeactivateInflight r = served_here v r ≡ true
Fits shape v n Complete r = only_active r ≡ true
Fits shape v n ClearDeliveryState r = 32 ≤ n

pub data Move : Type 0 where
  -- the record of a number, as a vCPU meets it
  Changed : ℕ → ℕ → Change → Move
  -- the sources of an SGI at a vCPU, a byte's set or cleared, with its pending bit
  Sourced : ℕ → ℕ → Bool → ℕ → Move
  -- a value of a CPU interface, other than its depth
  Kept : ℕ → InterfaceValue → ℕ → Move
  -- the Distributor's CTLR
  Switched : ℕ → Move
  -- an interrupt given to a vCPU
  Given : ℕ → Candidate → Move
  -- a vCPU's newest entry taken from its stack
  Popped : ℕ → Move

-- the sources as they become, and the SGI pending exactly if there is one
abbrev pub resourced : Shape → ℕ → ℕ → ℕ → List ℕ → List ℕ
resourced shape v n x s = changed shape v n (λ r. set_pending r (not (eqb x 0))) (with_sources shape v n x s)

abbrev pub moved : Shape → Move → List ℕ → List ℕ
moved shape (Changed v n c) s = changed shape v n (becomes c) s
moved shape (Sourced v n on byte) s = resourced shape v n (merged_sources on (sources_at shape v n s) byte) s
moved shape (Kept v k x) s = with_interface shape v k x s
moved shape (Switched x) s = with_distributor_control shape x s
moved shape (Given v c) s = given shape v c s
moved shape (Popped v) s = popped shape v s

-- when a move is made
pub record Changing (shape : Shape) (v n : ℕ) (c : Change) (s : List ℕ) : Type 0 where
  pub there : RecordThere shape v n
  pub fits : Fits shape v n c (record_at shape v n s)

pub record Sourcing (shape : Shape) (v n byte : ℕ) : Type 0 where
  pub exists : v < shape.count
  pub sgi : n < 16
  pub fits : byte < 256

pub record Keeping (shape : Shape) (v : ℕ) (k : InterfaceValue) : Type 0 where
  pub exists : v < shape.count
  pub off_depth : on_stack (Interface v k) ≡ false

pub record Giving (shape : Shape) (v : ℕ) (c : Candidate) (s : List ℕ) : Type 0 where
  pub exists : v < shape.count
  pub offered : offer shape v s ≡ Some c
  pub room : depth_at shape v s < stack_capacity

pub record Popping (shape : Shape) (v : ℕ) (s : List ℕ) : Type 0 where
  pub exists : v < shape.count
  pub some : 0 < depth_at shape v s

abbrev pub Open : Shape → Move → List ℕ → Type 0
Open shape (Changed v n c) s = Changing shape v n c s
Open shape (Sourced v n on byte) s = Sourcing shape v n byte
Open shape (Kept v k x) s = Keeping shape v k
Open shape (Switched x) s = Unit
Open shape (Given v c) s = Giving shape v c s
Open shape (Popped v) s = Popping shape v s

-- a chain of moves, each of them one that may be made
pub data Chain (shape : Shape) (May : Move → Type 0) : List ℕ → List ℕ → Type 0 where
  none : {s : List ℕ} → Chain shape May s s
  more : {s r : List ℕ} → Chain shape May s r → (m : Move) → May m → Open shape m r → Chain shape May s (moved shape m r)
