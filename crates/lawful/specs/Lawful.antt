-- What holds of a controller after any sequence of calls: the mission's demand 3 in its own words, with what document 02 adds to them
-- (`Orderly`), and the lawful states of its request One (`Lawful`), which have more. Demand 3 alone is not kept by every call: an SGI with its
-- line high would be set pending by an enable with no source set. A lawful state stays lawful.
use Rattle.std.specs.Prelude.{◌≡◌, true, false, not, List, ℕ, ◌%◌, ◌^◌, ◌<◌, eqb, Option, Some, None}
use Rattle.interrupt.specs.Types.{idle_priority}
use Rattle.interrupt.specs.declared.record.InterruptRecord.{InterruptRecord}
use Rattle.interrupt.specs.declared.types.TriggerMode.TheVariants.{Edge}
use Rattle.word.specs.Word.{mask_byte}
use Rattle.state.specs.declared.layout.Shape.{Shape}
use Rattle.state.specs.Lent.{HoldsState}
use Rattle.state.specs.Words.{RecordThere, record_at, sources_at, entry_at, Canonical, Exact}
use Rattle.service.specs.Service.{depth_at}
use Rattle.interrupt.specs.declared.types.GicVcpuId.{GicVcpuId}

-- the priority of entry i under service at v, 0 the oldest
abbrev pub priority_at : Shape → ℕ → ℕ → List ℕ → ℕ
priority_at shape v i s = (entry_at shape v i s).priority.0

-- charged to a vCPU that exists
abbrev pub Charged : Shape → Option GicVcpuId → Type 0
Charged shape None = ⊥
Charged shape (Some u) = u.0 < shape.count

-- demand 3, of one record
pub record OrderlyRecord (shape : Shape) (r : InterruptRecord) : Type 0 where
  -- "Each interrupt in flight is active ..
  pub active : r.inflight ≡ true → r.active ≡ true
  -- .. and charged to one existing vCPU,
  pub charged : r.inflight ≡ true → Charged shape r.owner
  -- redelivery is noted only for one in flight"
  pub noted : r.redelivery_pending ≡ true → r.inflight ≡ true

-- demand 3, of a state
pub record Orderly (shape : Shape) (s : List ℕ) : Type 0 where
  -- "On every vCPU the priorities under service fall strictly from the oldest to the newest ..
  pub falling : (v i j : ℕ) → v < shape.count → i < j → j < depth_at shape v s → priority_at shape v j s < priority_at shape v i s
  -- .. and lie below 255"
  pub below_idle : (v i : ℕ) → v < shape.count → i < depth_at shape v s → priority_at shape v i s < idle_priority
  -- request Two: "Stored entries are now even, which joins demand 3's properties"
  pub even : (v i : ℕ) → v < shape.count → i < depth_at shape v s → priority_at shape v i s % 2 ≡ 0
  pub records : (v n : ℕ) → RecordThere shape v n → OrderlyRecord shape (record_at shape v n s)
  -- "an SGI is pending at a vCPU exactly when a source bit is set there"
  pub sourced : (v n : ℕ) → v < shape.count → n < 16 → (record_at shape v n s).pending ≡ not (eqb (sources_at shape v n s) 0)
  -- request Five: "The exactness of these bits joins demand 3's properties"
  pub summary : Exact shape s

-- what request One adds, of the record r that the vCPU v has as number n
pub record LawfulRecord (shape : Shape) (v n : ℕ) (r : InterruptRecord) : Type 0 where
  -- "every SGI is edge with its line low and no redelivery noted;
  pub sgi_edge : n < 16 → r.trigger ≡ Edge
  pub sgi_low : n < 16 → r.line_asserted ≡ false
  pub sgi_unnoted : n < 16 → r.redelivery_pending ≡ false
  -- masks name existing vCPUs and private records have none;
  pub existing : mask_byte r.cpu_target_mask < 2 ^ shape.count
  pub unmasked : n < 32 → r.cpu_target_mask ≡ None
  -- a private record in flight belongs to its own vCPU and one not in flight to nobody"
  pub own : n < 32 → r.inflight ≡ true → r.owner ≡ Some (record { 0 = v })
  pub idle : r.inflight ≡ false → r.owner ≡ None

-- request One: "A lawful state has demand 3's properties and these"
pub record Lawful (shape : Shape) (s : List ℕ) : Type 0 where
  pub orderly : Orderly shape s
  pub records : (v n : ℕ) → RecordThere shape v n → LawfulRecord shape v n (record_at shape v n s)
  -- "stack numbers lie below the limit;
  pub numbered : (v i : ℕ) → v < shape.count → i < depth_at shape v s → (entry_at shape v i s).intid.0 < shape.limit
  -- every field is in 01's range": the stored count, limit and depths; any other word decodes to a field in its range
  pub in_range : HoldsState shape s

-- words that hold a controller of this shape: a lawful state, written as we write it
pub record Controls (shape : Shape) (s : List ℕ) : Type 0 where
  pub lawful : Lawful shape s
  pub canonical : Canonical shape s

-- .. of the count and limit that the words themselves store (`in_range`)
pub record Controller (s : List ℕ) : Type 0 where
  pub shape : Shape
  pub controls : Controls shape s
