-- The layout of the lent state, which is a list of 32-bit words. What it holds is document 01's: the count and the limit ("Refusal
-- numbers", 6), the Distributor's CTLR, for each vCPU its interface values, the source bits of its SGIs and its private records, the SPI
-- records, and the stacks of what is under service; and document 02's, Five: the summary of the ready. Where each word stands is the team's to say ("its size for a count and limit is the
-- team's"), and is said here alone: other definitions name a slot. docs/STATE.md has the picture.
use Rattle.std.specs.Prelude.{List, ◌≡◌, Bool, false, cond, ◌&&◌, ◌||◌, ℕ, zero, suc, ◌+◌, ◌*◌, ◌-◌, ◌/◌, ◌%◌, ◌≤◌, ◌<◌, eqb, leb, ltb, length, Option, None, Some}
use Rattle.state.specs.declared.layout.Shape.{Shape}
use Rattle.state.specs.declared.layout.InterfaceValue.{InterfaceValue}
use Rattle.state.specs.declared.layout.InterfaceValue.TheVariants.{Control, PriorityMask, BinaryPoint, Depth}

-- what a word of the state is for; v is a vCPU's number, n an interrupt's. The summary's words are no slots: they say again what the records
-- say, and are written with these (`put` in Words.antt)
pub data Slot : Type 0 where
  Count : Slot
  Limit : Slot
  DistributorControl : Slot
  Interface : ℕ → InterfaceValue → Slot
  Sources : ℕ → ℕ → Slot
  Private : ℕ → ℕ → Slot
  Spi : ℕ → Slot
  -- entry i of the stack, 0 the oldest
  Stack : ℕ → ℕ → Slot

abbrev pub interface_number : InterfaceValue → ℕ
interface_number Control = 0
interface_number PriorityMask = 1
interface_number BinaryPoint = 2
interface_number Depth = 3

-- the count, the limit and the Distributor's CTLR
abbrev pub header_words : ℕ
header_words = 3

-- for each vCPU its interface values, then its 16 source sets, then its 32 private records
abbrev pub sources_start : ℕ
sources_start = 4

abbrev pub private_start : ℕ
private_start = sources_start + 16

abbrev pub vcpu_words : ℕ
vcpu_words = private_start + 32

abbrev pub first_spi : ℕ
first_spi = 32

-- how many entries a stack has room for: "the depths in 6 and 7 become 128" (document 02, Two)
abbrev pub stack_capacity : ℕ
stack_capacity = 128

abbrev pub vcpu_start : ℕ → ℕ
vcpu_start v = header_words + vcpu_words * v

abbrev pub spi_start : Shape → ℕ
spi_start shape = vcpu_start shape.count

abbrev pub spi_end : Shape → ℕ
spi_end shape = spi_start shape + (shape.limit - first_spi)

-- the summary: a word for every 32 SPIs
abbrev pub summary_start : Shape → ℕ
summary_start shape = spi_end shape

abbrev pub summary_words : Shape → ℕ
summary_words shape = (shape.limit - 1) / 32

-- where the bit of the SPI n stands: the word's place, and in it the bit n % 32
abbrev pub summary_place : Shape → ℕ → ℕ
summary_place shape n = summary_start shape + (n - first_spi) / 32

-- the stacks stand last
abbrev pub stack_start : Shape → ℕ
stack_start shape = summary_start shape + summary_words shape

abbrev pub size : Shape → ℕ
size shape = stack_start shape + stack_capacity * shape.count

-- of the largest state: 8 vCPUs, limit 1020
abbrev pub largest_size : ℕ
largest_size = size (record { count = 8; limit = 1020 })

abbrev pub place : Shape → Slot → ℕ
place shape Count = 0
place shape Limit = 1
place shape DistributorControl = 2
place shape (Interface v k) = vcpu_start v + interface_number k
place shape (Sources v n) = vcpu_start v + (sources_start + n)
place shape (Private v n) = vcpu_start v + (private_start + n)
place shape (Spi n) = spi_start shape + (n - first_spi)
place shape (Stack v i) = stack_start shape + (stack_capacity * v + i)

-- and back: the slot at a place
unfoldable pub interface_of : ℕ → InterfaceValue
interface_of zero = Control
interface_of (suc zero) = PriorityMask
interface_of (suc (suc zero)) = BinaryPoint
interface_of (suc (suc (suc n))) = Depth

unfoldable pub header_slot : ℕ → Slot
header_slot k = cond (eqb k 0) Count (cond (eqb k 1) Limit DistributorControl)

unfoldable pub vcpu_slot : ℕ → ℕ → Slot
vcpu_slot v r = cond (ltb r sources_start) (Interface v (interface_of r)) (cond (ltb r private_start) (Sources v (r - sources_start)) (Private v (r - private_start)))

-- past the summary
abbrev pub tail_slot : Shape → ℕ → Slot
tail_slot shape k = Stack ((k - stack_start shape) / stack_capacity) ((k - stack_start shape) % stack_capacity)

abbrev pub in_summary : Shape → ℕ → Bool
in_summary shape k = leb (summary_start shape) k && ltb k (stack_start shape)

-- of places that are not in the summary
unfoldable pub slot_at : Shape → ℕ → Slot
slot_at shape k =
    cond (ltb k header_words) (header_slot k)
    (cond (ltb k (spi_start shape)) (vcpu_slot ((k - header_words) / vcpu_words) ((k - header_words) % vcpu_words))
    (cond (ltb k (spi_end shape)) (Spi (k - spi_start shape + first_spi)) (tail_slot shape k)))

-- the slots that a state has
abbrev pub Exists : Shape → Slot → Type 0
Exists shape Count = Unit
Exists shape Limit = Unit
Exists shape DistributorControl = Unit
Exists shape (Interface v k) = v < shape.count
Exists shape (Sources v n) = (v < shape.count) × (n < 16)
Exists shape (Private v n) = (v < shape.count) × (n < 32)
Exists shape (Spi n) = (32 ≤ n) × (n < shape.limit)
Exists shape (Stack v i) = (v < shape.count) × (i < stack_capacity)

-- what tells slots apart: the kind, of which private and shared records are one; whose it is, if a vCPU's; and which of these it is
abbrev pub kind_of : Slot → ℕ
kind_of Count = 0
kind_of Limit = 1
kind_of DistributorControl = 2
kind_of (Interface v k) = 3
kind_of (Sources v n) = 4
kind_of (Private v n) = 5
kind_of (Spi n) = 5
kind_of (Stack v i) = 6

abbrev pub vcpu_of : Slot → Option ℕ
vcpu_of Count = None
vcpu_of Limit = None
vcpu_of DistributorControl = None
vcpu_of (Interface v k) = Some v
vcpu_of (Sources v n) = Some v
vcpu_of (Private v n) = Some v
vcpu_of (Spi n) = None
vcpu_of (Stack v i) = Some v

abbrev pub number_of : Slot → ℕ
number_of Count = 0
number_of Limit = 0
number_of DistributorControl = 0
number_of (Interface v k) = interface_number k
number_of (Sources v n) = n
number_of (Private v n) = n
number_of (Spi n) = n
number_of (Stack v i) = i

-- the SPI whose record it is
abbrev pub spi_of : Slot → Option ℕ
spi_of Count = None
spi_of Limit = None
spi_of DistributorControl = None
spi_of (Interface v k) = None
spi_of (Sources v n) = None
spi_of (Private v n) = None
spi_of (Spi n) = Some n
spi_of (Stack v i) = None

-- other definitions ask by these, so that a new kind of slot is none of theirs
abbrev pub same_kind : Slot → Slot → Bool
same_kind t u = eqb (kind_of t) (kind_of u)

abbrev pub is_record : Slot → Bool
is_record t = same_kind t (Spi 0)

abbrev pub is_sources : Slot → Bool
is_sources t = same_kind t (Sources 0 0)

abbrev pub is_depth : Slot → Bool
is_depth t = same_kind t (Interface 0 Depth) && eqb (number_of t) (interface_number Depth)

abbrev pub is_entry : Slot → Bool
is_entry t = same_kind t (Stack 0 0)

abbrev pub on_stack : Slot → Bool
on_stack t = is_depth t || is_entry t

-- it is a vCPU's, and of that one something holds
abbrev pub of_vcpu : Option ℕ → (ℕ → Bool) → Bool
of_vcpu None holds = false
of_vcpu (Some v) holds = holds v

-- "1 to 8 vCPUs; the SPI limit is 32 to 1020"
pub record Limits (shape : Shape) : Type 0 where
  pub some_vcpu : 1 ≤ shape.count
  pub few_vcpus : shape.count ≤ 8
  pub private_numbers_lem : 32 ≤ shape.limit
  pub few_numbers : shape.limit ≤ 1020

-- words that hold a state of this shape
pub record Room (shape : Shape) (words : List ℕ) : Type 0 where
  pub limits : Limits shape
  pub room : size shape ≤ length words

-- a slot that a state of this shape has
pub record Inside (shape : Shape) (t : Slot) : Type 0 where
  pub limits : Limits shape
  pub exists : Exists shape t

-- k is the place of the slot t, inside the state
pub record Placed (shape : Shape) (t : Slot) (k : ℕ) : Type 0 where
  pub at : k ≡ place shape t
  pub inside : k < size shape
