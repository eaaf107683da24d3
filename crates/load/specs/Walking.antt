-- How an image is walked through, part by part, and what is stored on the way. A reader need not believe any of it: see Reading.antt.
use denote.Ref.{Bor, MutBor}
use Rattle.std.specs.Prelude.{Option, Some, None, Bool, true, cond, List, ◌≡◌, leb, ℕ, zero, suc, ◌+◌, ◌-◌, ◌*◌, ◌<◌}
use Rattle.std.specs.Fn.{Shared}
use Rattle.interrupt.specs.declared.types.GicVcpuId.{GicVcpuId}
use Rattle.interrupt.specs.Types.{is_sgi, idle_priority}
use Rattle.interrupt.specs.declared.record.InterruptRecord.{InterruptRecord}
use Rattle.state.specs.declared.layout.Shape.{Shape}
use Rattle.state.specs.declared.layout.InterfaceValue.TheVariants.{Control, PriorityMask, BinaryPoint, Depth}
use Rattle.state.specs.declared.words.Entry.{Entry}
use Rattle.state.specs.Layout.{Room, stack_capacity}
use Rattle.state.specs.Loop.{up_to}
use Rattle.state.specs.Words.{with_record, with_sources, with_interface, with_entry, without_entry}
use Rattle.image.specs.Parts.{Part, Registers, Service, Interrupt, part_at, part_count}
use Rattle.load.specs.declared.reading.InterfaceRegisters.{InterfaceRegisters}
use Rattle.load.specs.declared.reading.RecordAndSources.{RecordAndSources}
use Rattle.load.specs.Reading.{then_number, number_up_to, registers_at, entry_found, record_found}

abbrev pub then_place : {A : Type 0} → A → Option ℕ → (ℕ → A) → A
then_place nothing None f = nothing
then_place nothing (Some at) f = f at

abbrev pub registers_end : Option (InterfaceRegisters × ℕ) → Option ℕ
registers_end None = None
registers_end (Some (r, next)) = Some next

abbrev pub with_registers : Shape → ℕ → ℕ → ℕ → ℕ → List ℕ → List ℕ
with_registers shape v control mask point s =
    with_interface shape v BinaryPoint point (with_interface shape v PriorityMask mask (with_interface shape v Control control s))

abbrev pub registers_stored : Shape → ℕ → Option (InterfaceRegisters × ℕ) → List ℕ → List ℕ
registers_stored shape v None s = s
registers_stored shape v (Some (r, next)) s = with_registers shape v r.control r.mask r.point s

-- where the next entry stands, and the priority of the one before it
pub data Spot : Type 0 where
  spot : ℕ → ℕ → Spot
  lost : Spot

abbrev pub after_entry : Option (Entry × ℕ) → Spot
after_entry None = lost
after_entry (Some (e, next)) = spot next e.priority.0

abbrev pub entry_in : Shape → List ℕ → Spot → Option (Entry × ℕ)
entry_in shape image lost = None
entry_in shape image (spot at above) = entry_found shape above image at

-- after i entries from `start` on
unfoldable pub entry_spot : Shape → List ℕ → ℕ → ℕ → Spot
entry_spot shape image start zero = spot start idle_priority
entry_spot shape image start (suc i) = after_entry (entry_in shape image (entry_spot shape image start i))

abbrev pub spot_end : Spot → Option ℕ
spot_end lost = None
spot_end (spot at above) = Some at

abbrev pub entry_stored : Shape → ℕ → ℕ → Option (Entry × ℕ) → List ℕ → List ℕ
entry_stored shape v i None s = s
entry_stored shape v i (Some (e, next)) s = with_entry shape v i e s

unfoldable pub entries_stored : Shape → List ℕ → ℕ → ℕ → ℕ → List ℕ → List ℕ
entries_stored shape image v start d s = up_to (λ i. entry_stored shape v i (entry_in shape image (entry_spot shape image start i))) d s

-- entry i, if it lies past the depth d, is cleared
abbrev pub cleared_past : Shape → ℕ → ℕ → ℕ → List ℕ → List ℕ
cleared_past shape v d i s = cond (leb d i) (without_entry shape v i s) s

-- the entries from d up are cleared
unfoldable pub cleared_from : Shape → ℕ → ℕ → List ℕ → List ℕ
cleared_from shape v d s = up_to (λ i. without_entry shape v (d + i)) (stack_capacity - d) s

-- a stack of this depth, its entries still to come
abbrev pub with_depth : Shape → ℕ → ℕ → List ℕ → List ℕ
with_depth shape v d s = cleared_from shape v d (with_interface shape v Depth d s)

unfoldable pub service_end : Shape → List ℕ → ℕ → Option ℕ
service_end shape image at = then_number None (number_up_to stack_capacity image at) (λ d next. spot_end (entry_spot shape image next d))

unfoldable pub service_stored : Shape → List ℕ → ℕ → ℕ → List ℕ → List ℕ
service_stored shape image v at s =
    then_number s (number_up_to stack_capacity image at) (λ d next. entries_stored shape image v next d (with_depth shape v d s))

abbrev pub record_end : Option (RecordAndSources × ℕ) → Option ℕ
record_end None = None
record_end (Some (r, next)) = Some next

-- a record, and the source set of an SGI
abbrev pub with_interrupt : Shape → ℕ → ℕ → InterruptRecord → ℕ → List ℕ → List ℕ
with_interrupt shape v n r x s = cond (is_sgi (record { 0 = n })) (with_sources shape v n x (with_record shape v n r s)) (with_record shape v n r s)

abbrev pub record_stored : Shape → ℕ → ℕ → Option (RecordAndSources × ℕ) → List ℕ → List ℕ
record_stored shape v n None s = s
record_stored shape v n (Some (r, next)) s = with_interrupt shape v n r.«record» r.sources s

-- a part from the place on: where it ends, and what is stored of it
abbrev pub part_end : Shape → List ℕ → Part → ℕ → Option ℕ
part_end shape image (Registers v) at = registers_end (registers_at image at)
part_end shape image (Service v) at = service_end shape image at
part_end shape image (Interrupt v n) at = record_end (record_found shape v.0 n.0 image at)

abbrev pub part_stored : Shape → List ℕ → Part → ℕ → List ℕ → List ℕ
part_stored shape image (Registers v) at s = registers_stored shape v.0 (registers_at image at) s
part_stored shape image (Service v) at s = service_stored shape image v.0 at s
part_stored shape image (Interrupt v n) at s = record_stored shape v.0 n.0 (record_found shape v.0 n.0 image at) s

-- the place after k parts
unfoldable pub walked : Shape → List ℕ → ℕ → ℕ → Option ℕ
walked shape image start zero = Some start
walked shape image start (suc k) = then_place None (walked shape image start k) (part_end shape image (part_at shape k))

-- part k stored
abbrev pub step_stored : Shape → List ℕ → ℕ → ℕ → List ℕ → List ℕ
step_stored shape image start k s = then_place s (walked shape image start k) (λ at. part_stored shape image (part_at shape k) at s)

unfoldable pub parts_stored : Shape → List ℕ → ℕ → List ℕ → List ℕ
parts_stored shape image start s = up_to (step_stored shape image start) (part_count shape) s

-- what is done from a place on with `many` parts, of which the first is part `first`, whatever stands before them: where they end, and the
-- words with them stored, or the words as they were
pub record Section (shape : Shape) (image : List ℕ) (first many : ℕ) (stores : Bool) (at : ℕ) (before : List ℕ) (end : Option ℕ) (after : List ℕ) : Type 0 where
  pub ends : (start : ℕ) → walked shape image start first ≡ Some at → end ≡ walked shape image start (first + many)
  pub stored : (start : ℕ) → walked shape image start first ≡ Some at
      → after ≡ cond stores (up_to (λ i. step_stored shape image start (first + i)) many before) before

-- what is taken of a vCPU is told: the image and a place in it, the words and their shape, the vCPU, and whether it is stored
abbrev pub TakeTold : Type 0
TakeTold = Bor (List ℕ) × (ℕ × (MutBor (List ℕ) × (Shape × (GicVcpuId × (Bool × Unit {0})))))

abbrev pub take_told : Bor (List ℕ) → ℕ → MutBor (List ℕ) → Shape → GicVcpuId → Bool → TakeTold
take_told image at words shape v stores = (image, (at, (words, (shape, (v, (stores, tt))))))

-- where there is room, `take` may be called, and takes of each vCPU as many parts, from a first one on
pub record TakesEach {F : Type 0} (g : Shared F TakeTold (Option ℕ × (MutBor (List ℕ) × Unit {0}))) (take : F) (stores : Bool) (shape : Shape) (bytes : List ℕ) (section : ℕ × ℕ) : Type 0 where
  pub may : (image : Bor (List ℕ)) (at : ℕ) (words : MutBor (List ℕ)) (v : GicVcpuId) → image.now ≡ bytes → v.0 < shape.count → (stores ≡ true → Room shape words.now)
      → g.pre take (take_told image at words shape v stores)
  pub takes : (image : Bor (List ℕ)) (at : ℕ) (words words' : MutBor (List ℕ)) (v : GicVcpuId) (end : Option ℕ) → image.now ≡ bytes → v.0 < shape.count
      → g.post take (take_told image at words shape v stores) (end, (words', tt))
      → Section shape bytes (section.0 + section.1 * v.0) section.1 stores at words.now end words'.now
