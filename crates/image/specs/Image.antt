-- The image of a controller: document 02, request One ("It holds count, limit, Distributor CTLR, all interface values, stacks, private records
-- with source bits, then SPI records, and ends there"). Which numbers these become is docs/IMAGE.md's, quoted here in its own order; how a
-- number is written is `groups` (crates/groups).
use Rattle.std.specs.Prelude.{cond, not, ◌≡◌, List, [], ◌∷◌, ◌++◌, ℕ, zero, suc, ◌+◌, ◌-◌, ◌*◌, Option, Some, None}
use Rattle.groups.specs.Groups.{spelled}
use Rattle.interrupt.specs.Types.{is_sgi, is_level}
use Rattle.interrupt.specs.declared.record.InterruptRecord.{InterruptRecord}
use Rattle.word.specs.Word.{bit_of}
use Rattle.state.specs.declared.layout.Shape.{Shape}
use Rattle.state.specs.declared.layout.InterfaceValue.TheVariants.{Control, PriorityMask, BinaryPoint}
use Rattle.state.specs.declared.words.Entry.{Entry}
use Rattle.state.specs.Words.{record_at, sources_at, interface_at, distributor_control_at, entry_at}
use Rattle.service.specs.Service.{depth_at}
use Rattle.lawful.specs.Lawful.{Lawful}
use Rattle.interrupt.specs.declared.types.GicVcpuId.{GicVcpuId}

-- f 0, then f 1, .. , then f (n - 1)
unfoldable pub each : (ℕ → List ℕ) → ℕ → List ℕ
each f zero = []
each f (suc n) = each f n ++ f n

-- "Flags: 1 enabled, 2 pending, 4 active, 8 in flight, 16 redelivery noted, 32 line asserted, 64 edge"
unfoldable pub flags_number : InterruptRecord → ℕ
flags_number r =
    bit_of r.enabled
    + 2 * bit_of r.pending
    + 4 * bit_of r.active
    + 8 * bit_of r.inflight
    + 16 * bit_of r.redelivery_pending
    + 32 * bit_of r.line_asserted
    + 64 * bit_of (not (is_level r.trigger))

-- "Owner: 0 nobody, v + 1 for vCPU v"
abbrev pub owner_number : Option GicVcpuId → ℕ
owner_number None = 0
owner_number (Some v) = v.0 + 1

-- "Mask: the byte as it is; 256 is the unset mark"
abbrev pub unset_mark : ℕ
unset_mark = 256

abbrev pub mask_number : Option ℕ → ℕ
mask_number None = unset_mark
mask_number (Some byte) = byte

-- "interface CTLR (as the register reads: bits 0 and 9), PMR, BPR"
abbrev pub interface_numbers : Shape → List ℕ → ℕ → List ℕ
interface_numbers shape s v = interface_at shape v Control s ∷ interface_at shape v PriorityMask s ∷ interface_at shape v BinaryPoint s ∷ []

-- "for each entry from the oldest: number, priority"
abbrev pub entry_numbers : Entry → List ℕ
entry_numbers e = e.intid.0 ∷ e.priority.0 ∷ []

-- "depth, then for each entry"
abbrev pub service_numbers : Shape → List ℕ → ℕ → List ℕ
service_numbers shape s v = depth_at shape v s ∷ each (λ i. entry_numbers (entry_at shape v i s)) (depth_at shape v s)

-- "flags, priority", and what follows them
abbrev pub record_numbers : InterruptRecord → List ℕ → List ℕ
record_numbers r rest = flags_number r ∷ r.priority.0 ∷ rest

-- "for each private number 0 to 31: flags, priority, and for 0 to 15 the source set"
abbrev pub private_numbers : ℕ → InterruptRecord → ℕ → List ℕ
private_numbers n r sources = record_numbers r (cond (is_sgi (record { 0 = n })) (sources ∷ []) [])

-- "flags, priority, owner, mask"
abbrev pub spi_numbers : InterruptRecord → List ℕ
spi_numbers r = record_numbers r (owner_number r.owner ∷ mask_number r.cpu_target_mask ∷ [])

abbrev pub private_numbers_at : Shape → List ℕ → ℕ → ℕ → List ℕ
private_numbers_at shape s v n = private_numbers n (record_at shape v n s) (sources_at shape v n s)

-- "For each SPI from 32 to below the limit"; the record of an SPI is every vCPU's
abbrev pub spi_numbers_at : Shape → List ℕ → ℕ → List ℕ
spi_numbers_at shape s i = spi_numbers (record_at shape 0 (32 + i) s)

-- 2 to 5 of "In this order"
unfoldable pub body_numbers : Shape → List ℕ → List ℕ
body_numbers shape s =
    each (interface_numbers shape s) shape.count
    ++ each (service_numbers shape s) shape.count
    ++ each (λ v. each (private_numbers_at shape s v) 32) shape.count
    ++ each (spi_numbers_at shape s) (shape.limit - 32)

-- "count, limit, Distributor CTLR", and these
abbrev pub numbers : Shape → List ℕ → List ℕ
numbers shape s = shape.count ∷ shape.limit ∷ distributor_control_at shape s ∷ body_numbers shape s

-- the image of the state that the words s hold
abbrev pub image : Shape → List ℕ → List ℕ
image shape s = spelled (numbers shape s)

-- what it is to be an image: the bytes of a lawful state
pub record IsImage (bytes : List ℕ) : Type 0 where
  pub shape : Shape
  pub state : List ℕ
  pub lawful : Lawful shape state
  pub is : bytes ≡ image shape state
