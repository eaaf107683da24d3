-- Which interrupt a vCPU is offered: document 01, "CPU interface places", Candidate and Best; document 02, Five, by the bits of the summary; IHI
-- 0048, 3.3, "Interrupt prioritization".
-- Left out on purpose: the running priority, which only an acknowledge looks at.
use Rattle.std.specs.Prelude.{Bool, true, cond, ◌&&◌, ◌||◌, List, ◌≡◌, ℕ, zero, suc, ◌/◌, ◌%◌, ◌^◌, ◌≤◌, ◌<◌, eqb, ltb, Option, Some, None}
use Rattle.interrupt.specs.Types.{is_private_id}
use Rattle.interrupt.specs.Record.{is_ready}
use Rattle.interrupt.specs.declared.record.InterruptRecord.{InterruptRecord}
use Rattle.word.specs.Word.{mask_byte}
use Rattle.state.specs.declared.layout.Shape.{Shape}
use Rattle.state.specs.declared.layout.InterfaceValue.TheVariants.{Control, PriorityMask}
use Rattle.state.specs.Layout.{Room}
use Rattle.state.specs.Words.{record_at, ready_bit, interface_at, enable_bit, enabled_at}
use Rattle.select.specs.declared.Candidate.{Candidate}

-- the record r of the number n is one for the vCPU v: "its private interrupts, and SPIs whose mask names it"
abbrev pub offered : ℕ → ℕ → InterruptRecord → Bool
offered v n r = is_private_id (record { 0 = n }) || eqb (mask_byte r.cpu_target_mask / 2 ^ v % 2) 1

-- ".. that are enabled, pending, not active" (`ready`), "with priority below PMR", which is `mask`
abbrev pub eligible : ℕ → ℕ → ℕ → Bool → InterruptRecord → Bool
eligible mask v n ready r = offered v n r && ready && ltb r.priority.0 mask

-- "let selection walk set bits only .. On a lent state whose bits are false, answers follow the bits" (document 02, Five): an SPI is ready by its
-- bit, and a private interrupt, which has none, by its record
abbrev pub ready_at : Shape → ℕ → List ℕ → ℕ → Bool
ready_at shape v s n = cond (is_private_id (record { 0 = n })) (is_ready (record_at shape v n s)) (ready_bit shape n s)

unfoldable pub candidate : Shape → ℕ → List ℕ → ℕ → Bool
candidate shape v s n = eligible (interface_at shape v PriorityMask s) v n (ready_at shape v s n) (record_at shape v n s)

-- the same by the records alone, as it was before Five; `bits_and_records` in proofs/Agree.antt shows where they agree
unfoldable pub candidate_by_record : Shape → ℕ → List ℕ → ℕ → Bool
candidate_by_record shape v s n = eligible (interface_at shape v PriorityMask s) v n (is_ready (record_at shape v n s)) (record_at shape v n s)

-- a number with its priority
abbrev pub candidate_for : Shape → ℕ → List ℕ → ℕ → Candidate
candidate_for shape v s n = record { intid = record { 0 = n }; priority = (record_at shape v n s).priority }

-- "smallest priority, then smallest number": a later number wins only with a strictly smaller priority
abbrev pub wins : Candidate → Option Candidate → Bool
wins c None = true
wins c (Some b) = ltb c.priority.0 b.priority.0

abbrev pub better : Bool → Candidate → Option Candidate → Option Candidate
better fit c b = cond (fit && wins c b) (Some c) b

-- of the numbers below n that fit
unfoldable pub best_among : (ℕ → Bool) → Shape → ℕ → List ℕ → ℕ → Option Candidate
best_among fits shape v s zero = None
best_among fits shape v s (suc n) = better (fits n) (candidate_for shape v s n) (best_among fits shape v s n)

abbrev pub best_below : Shape → ℕ → List ℕ → ℕ → Option Candidate
best_below shape v s n = best_among (candidate shape v s) shape v s n

-- of all numbers below the limit: a bit from there up is no candidate
abbrev pub best : Shape → ℕ → List ℕ → Option Candidate
best shape v s = best_below shape v s shape.limit

abbrev pub best_by_records : Shape → ℕ → List ℕ → Option Candidate
best_by_records shape v s = best_among (candidate_by_record shape v s) shape v s shape.limit

-- Distributor and interface are on: bit 0 of each CTLR
abbrev pub both_on : Shape → ℕ → List ℕ → Bool
both_on shape v s = enabled_at shape s && enable_bit (interface_at shape v Control s)

-- "HPPIR gives the best, without an SGI's source; 1023 if there is none or Distributor or interface is off"
abbrev pub selected_number : Option Candidate → ℕ
selected_number None = 1023
selected_number (Some c) = c.intid.0

unfoldable pub highest_pending : Shape → ℕ → List ℕ → ℕ
highest_pending shape v s = cond (both_on shape v s) (selected_number (best shape v s)) 1023

-- words that hold a state with this vCPU
pub record Looked (shape : Shape) (v : ℕ) (s : List ℕ) : Type 0 where
  pub state : Room shape s
  pub exists : v < shape.count

-- what it is to be the best of the numbers below n: a candidate, and "smallest priority, then smallest number"
pub record IsBest (shape : Shape) (v : ℕ) (s : List ℕ) (n : ℕ) (c : Candidate) : Type 0 where
  pub below : c.intid.0 < n
  pub chosen : candidate shape v s c.intid.0 ≡ true
  pub priority : c.priority.0 ≡ (record_at shape v c.intid.0 s).priority.0
  pub smallest : (m : ℕ) → m < n → candidate shape v s m ≡ true → c.priority.0 ≤ (record_at shape v m s).priority.0
  pub first : (m : ℕ) → m < n → candidate shape v s m ≡ true → (record_at shape v m s).priority.0 ≡ c.priority.0 → c.intid.0 ≤ m
