-- The numbers of an image by their parts, one after another: how load walks through it. A reader need not believe any of it:
-- `body_by_parts` (proofs/ByParts.antt) says that these are the numbers of Image.antt.
use Rattle.std.specs.Prelude.{cond, List, ℕ, ◌+◌, ◌-◌, ◌*◌, ◌/◌, ◌%◌, ◌<◌, ltb}
use Rattle.interrupt.specs.Types.{is_private_id}
use Rattle.state.specs.declared.layout.Shape.{Shape}
use Rattle.state.specs.Words.{record_at, sources_at, RecordThere}
use Rattle.interrupt.specs.declared.record.InterruptRecord.{InterruptRecord}
use Rattle.interrupt.specs.declared.types.GicVcpuId.{GicVcpuId}
use Rattle.interrupt.specs.declared.types.IntId.{IntId}
use Rattle.image.specs.Image.{interface_numbers, service_numbers, private_numbers, spi_numbers}

-- a vCPU's registers, a vCPU's stack, or a record as a vCPU meets it; the SPIs' are met as the first vCPU's
pub data Part : Type 0 where
  Registers : GicVcpuId → Part
  Service : GicVcpuId → Part
  Interrupt : GicVcpuId → IntId → Part

-- each vCPU's registers, each vCPU's stack, each vCPU's 32 private records, the SPIs
abbrev pub part_count : Shape → ℕ
part_count shape = 34 * shape.count + (shape.limit - 32)

-- part k of the walk
unfoldable pub part_at : Shape → ℕ → Part
part_at shape k =
    cond (ltb k shape.count) (Registers (record { 0 = k }))
    (cond (ltb k (2 * shape.count)) (Service (record { 0 = k - shape.count }))
    (cond (ltb k (34 * shape.count)) (Interrupt (record { 0 = (k - 2 * shape.count) / 32 }) (record { 0 = (k - 2 * shape.count) % 32 }))
    (Interrupt (record { 0 = 0 }) (record { 0 = k - 34 * shape.count + 32 }))))

-- the numbers of a record of the number n, with the source set that it has if it is an SGI's
abbrev pub interrupt_numbers : ℕ → InterruptRecord → ℕ → List ℕ
interrupt_numbers n r sources = cond (is_private_id (record { 0 = n })) (private_numbers n r sources) (spi_numbers r)

abbrev pub part_numbers : Shape → List ℕ → Part → List ℕ
part_numbers shape s (Registers v) = interface_numbers shape s v.0
part_numbers shape s (Service v) = service_numbers shape s v.0
part_numbers shape s (Interrupt v n) = interrupt_numbers n.0 (record_at shape v.0 n.0 s) (sources_at shape v.0 n.0 s)

-- a part of a state of this shape
abbrev pub PartThere : Shape → Part → Type 0
PartThere shape (Registers v) = v.0 < shape.count
PartThere shape (Service v) = v.0 < shape.count
PartThere shape (Interrupt v n) = RecordThere shape v.0 n.0
