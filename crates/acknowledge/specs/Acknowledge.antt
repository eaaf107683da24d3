-- IAR: document 01, "CPU interface places", IAR, and refusal 7; document 02, Two, the binary point; IHI 0048, 4.4.4, "Interrupt Acknowledge
-- Register", and 3.3.3, "Priority grouping".
use Rattle.std.specs.Prelude.{◌≡◌, Bool, true, false, cond, List, ℕ, zero, suc, ◌+◌, ◌*◌, ◌/◌, ◌%◌, ◌^◌, ◌<◌, eqb, ltb, Option, Some, None}
use Rattle.interrupt.specs.Types.{is_sgi}
use Rattle.interrupt.specs.Record.{mark_inflight, set_owner, synchronize_inflight, set_pending}
use Rattle.interrupt.specs.declared.types.InterruptState.TheVariants.{Active}
use Rattle.interrupt.specs.declared.record.InterruptRecord.{InterruptRecord}
use Rattle.state.specs.declared.layout.Shape.{Shape}
use Rattle.state.specs.declared.layout.InterfaceValue.TheVariants.{BinaryPoint}
use Rattle.state.specs.declared.words.Entry.{Entry}
use Rattle.state.specs.Layout.{Room, stack_capacity}
use Rattle.state.specs.Words.{changed, sources_at, with_sources, enabled_at, interface_at}
use Rattle.sgi.specs.Sgi.{merged_sources}
use Rattle.select.specs.declared.Candidate.{Candidate}
use Rattle.select.specs.Select.{best, both_on}
use Rattle.service.specs.Service.{depth_at, running, pushed, Served}

-- "With binary point b the group priority is the priority with its low b+1 bits cleared."
unfoldable pub group_priority : ℕ → ℕ → ℕ
group_priority b p = p / 2 ^ (b + 1) * 2 ^ (b + 1)

-- a candidate's, by the vCPU's BPR as it stands
abbrev pub group_of : Shape → ℕ → List ℕ → Candidate → ℕ
group_of shape v s c = group_priority (interface_at shape v BinaryPoint s) c.priority.0

-- "IAR compares it with the running priority": it is below
abbrev pub preempts : Shape → ℕ → List ℕ → Candidate → Bool
preempts shape v s c = ltb (group_of shape v s c) (running shape v s)

abbrev pub preempting : Shape → ℕ → List ℕ → Option Candidate → Option Candidate
preempting shape v s None = None
preempting shape v s (Some c) = cond (preempts shape v s c) (Some c) None

-- "gives the best only if both are on and its priority", now its group priority, "is below the running priority"
unfoldable pub offer : Shape → ℕ → List ℕ → Option Candidate
offer shape v s = cond (both_on shape v s) (preempting shape v s (best shape v s)) None

-- the lowest 1 bit of eight, 0 if there is none
unfoldable pub lowest_from : ℕ → ℕ → ℕ → ℕ
lowest_from zero i x = 0
lowest_from (suc k) i x = cond (eqb (x / 2 ^ i % 2) 1) i (lowest_from k (suc i) x)

abbrev pub lowest_source : ℕ → ℕ
lowest_source sources = lowest_from 8 0 sources

-- "For an SGI it takes the lowest source (0 if none is set)"; other interrupts have none
unfoldable pub source_of : Shape → ℕ → ℕ → List ℕ → ℕ
source_of shape v n s = cond (is_sgi (record { 0 = n })) (lowest_source (sources_at shape v n s)) 0

-- ".. and sets pending again if sources remain"
unfoldable pub pend_if_left : Shape → ℕ → ℕ → List ℕ → List ℕ
pend_if_left shape v n s = cond (eqb (sources_at shape v n s) 0) s (changed shape v n (λ r. set_pending r true) s)

abbrev pub without_source : Shape → ℕ → ℕ → ℕ → List ℕ → List ℕ
without_source shape v n source s = with_sources shape v n (merged_sources false (sources_at shape v n s) (2 ^ source)) s

unfoldable pub source_taken : Shape → ℕ → ℕ → ℕ → List ℕ → List ℕ
source_taken shape v n source s = cond (is_sgi (record { 0 = n })) (pend_if_left shape v n (without_source shape v n source s)) s

-- "It marks the record in flight, owned by this vCPU, calls `synchronize_inflight` with Active"
unfoldable pub given_record : ℕ → InterruptRecord → InterruptRecord
given_record v r = (synchronize_inflight (set_owner (mark_inflight r) (Some (record { 0 = v }))) Active).after

-- what is pushed for a candidate: "number and priority", and of the group priority: "the stack holds it"
abbrev pub pushed_for : Shape → ℕ → List ℕ → Candidate → Entry
pushed_for shape v s c = record { intid = c.intid; priority = record { 0 = group_of shape v s c } }

-- ".. and pushes number and priority": here before the record is marked, which is the same (`given_in_order` in crates/delivery); the source is
-- taken last, for it may pend the record again
unfoldable pub given : Shape → ℕ → Candidate → List ℕ → List ℕ
given shape v c s = source_taken shape v c.intid.0 (source_of shape v c.intid.0 s) (changed shape v c.intid.0 (given_record v) (pushed shape v (pushed_for shape v s c) s))

-- "answers number + 1024*source"; "else 1023"; 7 if it "would hand out an interrupt and the service stack holds" 128 (document 02, Two)
unfoldable pub answered : Shape → ℕ → List ℕ → Option Candidate → Option ℕ
answered shape v s None = Some 1023
answered shape v s (Some c) = cond (ltb (depth_at shape v s) stack_capacity) (Some (c.intid.0 + 1024 * source_of shape v c.intid.0 s)) None

unfoldable pub taken : Shape → ℕ → List ℕ → Option Candidate → List ℕ
taken shape v s None = s
taken shape v s (Some c) = cond (ltb (depth_at shape v s) stack_capacity) (given shape v c s) s

-- what an IAR read by v answers, and the state after it
abbrev pub acknowledge : Shape → ℕ → List ℕ → Option ℕ
acknowledge shape v s = answered shape v s (offer shape v s)

abbrev pub acknowledged : Shape → ℕ → List ℕ → List ℕ
acknowledged shape v s = taken shape v s (offer shape v s)

-- what the two cases of an answer are in document 01: the refusal's number, 0 for none, and the value
abbrev pub refusal_of : Option ℕ → ℕ
refusal_of (Some x) = 0
refusal_of None = 7

abbrev pub value_of : Option ℕ → ℕ
value_of (Some x) = x
value_of None = 0

-- words that hold a state; the vCPU is looked up only while the Distributor is on
pub record MayAcknowledge (shape : Shape) (v : ℕ) (s : List ℕ) : Type 0 where
  pub state : Room shape s
  pub served : enabled_at shape s ≡ true → Served shape v s

-- words that hold a state, and an interrupt that the vCPU can be given
pub record Givable (shape : Shape) (v : ℕ) (c : Candidate) (s : List ℕ) : Type 0 where
  pub served : Served shape v s
  pub room : depth_at shape v s < stack_capacity
  pub numbered : c.intid.0 < shape.limit
