-- What the words of a state mean, slot by slot: "any stored bits decode to exactly one record, source set, stack entry or register value"
-- (document 01, "Refusal numbers"). A word may have bits that count for nothing; what is written has none (`Canonical`), so that equal
-- states are equal words. Beside the slots stands the summary of the ready, which says again what the records say (`Exact`).
use Rattle.std.specs.Prelude.{◌≡◌, Bool, true, cond, List, ℕ, ◌+◌, ◌*◌, ◌-◌, ◌/◌, ◌%◌, ◌^◌, ◌≤◌, ◌<◌, min, eqb, get_or, set, Option, None, Some}
use Rattle.interrupt.specs.Types.{is_private_id, priority_of}
use Rattle.interrupt.specs.Record.{starting_record, is_ready}
use Rattle.interrupt.specs.declared.record.InterruptRecord.{InterruptRecord}
use Rattle.word.specs.Word.{bit_of, flag, record_of, word_of}
use Rattle.state.specs.declared.layout.Shape.{Shape}
use Rattle.state.specs.declared.layout.InterfaceValue.{InterfaceValue}
use Rattle.state.specs.declared.layout.InterfaceValue.TheVariants.{Control, PriorityMask, BinaryPoint, Depth}
use Rattle.state.specs.declared.words.Entry.{Entry}
use Rattle.state.specs.Loop.{up_to}
use Rattle.state.specs.Layout.{Slot, Count, Limit, DistributorControl, Interface, Sources, Private, Spi, Stack, first_spi, summary_start, summary_words, summary_place, stack_capacity, place, in_summary, slot_at, Exists, spi_of, Room}

abbrev pub word_at : Shape → Slot → List ℕ → ℕ
word_at shape t s = get_or s (place shape t) 0

-- the word w with its bit i made b: the bits above it, b, and the bits below it
unfoldable pub with_bit : ℕ → Bool → ℕ → ℕ
with_bit i b w = (w / 2 ^ i / 2 * 2 + bit_of b) * 2 ^ i + w % 2 ^ i

-- the summary: "one bit per SPI" (document 02, Five)
abbrev pub summary_at : Shape → ℕ → List ℕ → ℕ
summary_at shape n s = get_or s (summary_place shape n) 0

unfoldable pub ready_bit : Shape → ℕ → List ℕ → Bool
ready_bit shape n s = flag (n % 32) (summary_at shape n s)

unfoldable pub with_ready_bit : Shape → ℕ → Bool → List ℕ → List ℕ
with_ready_bit shape n b s = set s (summary_place shape n) (with_bit (n % 32) b (summary_at shape n s))

-- no bit set: what loading starts from, for "Images don't carry the bits; loading makes them"
unfoldable pub without_summary : Shape → List ℕ → List ℕ
without_summary shape s = up_to (λ g r. set r (summary_start shape + g) 0) (summary_words shape) s

-- "each transition called on a record sets its bit anew": the word w is a record of this SPI, if of one
abbrev pub summed : Shape → Option ℕ → ℕ → List ℕ → List ℕ
summed shape None w s = s
summed shape (Some n) w s = with_ready_bit shape n (is_ready (record_of w)) s

-- a word written at a slot, and with an SPI's record its bit: there is no other way to write one
abbrev pub put : Shape → Slot → ℕ → List ℕ → List ℕ
put shape t w s = summed shape (spi_of t) w (set s (place shape t) w)

-- the record of the number n as the vCPU v meets it: below 32 each vCPU has its own
unfoldable pub record_slot : ℕ → ℕ → Slot
record_slot v n = cond (is_private_id (record { 0 = n })) (Private v n) (Spi n)

-- there is such a record: its number is below the limit, and at a private number its vCPU exists
pub record RecordThere (shape : Shape) (v n : ℕ) : Type 0 where
  pub numbered : n < shape.limit
  pub banked : n < 32 → v < shape.count

-- words that hold such a record
pub record Reached (shape : Shape) (v n : ℕ) (s : List ℕ) : Type 0 where
  pub state : Room shape s
  pub there : RecordThere shape v n

abbrev pub record_at : Shape → ℕ → ℕ → List ℕ → InterruptRecord
record_at shape v n s = record_of (word_at shape (record_slot v n) s)

abbrev pub with_record : Shape → ℕ → ℕ → InterruptRecord → List ℕ → List ℕ
with_record shape v n r s = put shape (record_slot v n) (word_of r) s

-- the record of n, changed by a transition
abbrev pub changed : Shape → ℕ → ℕ → (InterruptRecord → InterruptRecord) → List ℕ → List ℕ
changed shape v n f s = with_record shape v n (f (record_at shape v n s)) s

-- bit u of the source set: vCPU u has sent this SGI
abbrev pub sources_at : Shape → ℕ → ℕ → List ℕ → ℕ
sources_at shape v n s = word_at shape (Sources v n) s % 256

abbrev pub with_sources : Shape → ℕ → ℕ → ℕ → List ℕ → List ℕ
with_sources shape v n x s = put shape (Sources v n) x s

-- "CTLR .. keeps bits 0 (enable) and 9 (EOI mode). PMR .. keeps 8 bits. BPR .. 3 bits"; the depth is the whole word
abbrev pub kept : InterfaceValue → ℕ → ℕ
kept Control w = w % 2 + 512 * (w / 512 % 2)
kept PriorityMask w = w % 256
kept BinaryPoint w = w % 8
kept Depth w = w

abbrev pub interface_at : Shape → ℕ → InterfaceValue → List ℕ → ℕ
interface_at shape v k s = kept k (word_at shape (Interface v k) s)

abbrev pub with_interface : Shape → ℕ → InterfaceValue → ℕ → List ℕ → List ℕ
with_interface shape v k x s = put shape (Interface v k) (kept k x) s

-- the Distributor's CTLR "keeps bit 0"
abbrev pub kept_distributor_control : ℕ → ℕ
kept_distributor_control w = w % 2

abbrev pub distributor_control_at : Shape → List ℕ → ℕ
distributor_control_at shape s = kept_distributor_control (word_at shape DistributorControl s)

abbrev pub with_distributor_control : Shape → ℕ → List ℕ → List ℕ
with_distributor_control shape x s = put shape DistributorControl (kept_distributor_control x) s

-- bit 0 of a CTLR, the Distributor's or an interface's: "0 (enable)"
abbrev pub enable_bit : ℕ → Bool
enable_bit control = eqb (control % 2) 1

abbrev pub enabled_at : Shape → List ℕ → Bool
enabled_at shape s = enable_bit (distributor_control_at shape s)

-- a stack entry: the number in the low 10 bits, the priority in the next 8
abbrev pub entry_of : ℕ → Entry
entry_of w = record { intid = record { 0 = w % 1024 }; priority = priority_of (w / 1024 % 256) }

abbrev pub entry_word : Entry → ℕ
entry_word e = e.intid.0 % 1024 + 1024 * e.priority.0

abbrev pub entry_at : Shape → ℕ → ℕ → List ℕ → Entry
entry_at shape v i s = entry_of (word_at shape (Stack v i) s)

abbrev pub with_entry : Shape → ℕ → ℕ → Entry → List ℕ → List ℕ
with_entry shape v i e s = put shape (Stack v i) (entry_word e) s

-- an entry that is no longer in use
abbrev pub without_entry : Shape → ℕ → ℕ → List ℕ → List ℕ
without_entry shape v i s = put shape (Stack v i) 0 s

-- words that hold a slot
pub record HoldsSlot (shape : Shape) (t : Slot) (s : List ℕ) : Type 0 where
  pub state : Room shape s
  pub exists : Exists shape t

-- what a slot starts as: "SGIs start enabled and edge; the others disabled and level" (`starting_record`), and "All start at 0, stacks and source
-- bits empty"
abbrev pub start_of : Shape → Slot → ℕ
start_of shape Count = shape.count
start_of shape Limit = shape.limit
start_of shape DistributorControl = 0
start_of shape (Interface v k) = 0
start_of shape (Sources v n) = 0
start_of shape (Private v n) = word_of (starting_record (record { 0 = n }))
start_of shape (Spi n) = word_of (starting_record (record { 0 = n }))
start_of shape (Stack v i) = 0

-- a word of the state: "All start at 0", and so does the summary, for no SPI starts enabled
abbrev pub start_at : Shape → ℕ → ℕ
start_at shape k = cond (in_summary shape k) 0 (start_of shape (slot_at shape k))

-- the word that is written for what a word means
abbrev pub rewritten : Slot → ℕ → ℕ
rewritten Count w = w
rewritten Limit w = w
rewritten DistributorControl w = kept_distributor_control w
rewritten (Interface v k) w = kept k w
rewritten (Sources v n) w = w % 256
rewritten (Private v n) w = word_of (record_of w)
rewritten (Spi n) w = word_of (record_of w)
rewritten (Stack v i) w = entry_word (entry_of w)

-- a word of a slot as we write it
abbrev pub CanonicalWord : Slot → ℕ → Type 0
CanonicalWord t w = rewritten t w ≡ w

-- how many SPIs the word at this place of the summary has bits for: 32, but of the last as many as are left
abbrev pub spis_in : Shape → ℕ → ℕ
spis_in shape k = min 32 (shape.limit - first_spi - 32 * (k - summary_start shape))

-- a state as we write it: each word is, what lies past the newest entry of a stack is cleared, and a bit of the summary that is of no SPI is 0
pub record Canonical (shape : Shape) (s : List ℕ) : Type 0 where
  pub written : (t : Slot) → Exists shape t → CanonicalWord t (word_at shape t s)
  pub cleared : (v i : ℕ) → v < shape.count → word_at shape (Interface v Depth) s ≤ i → i < stack_capacity → word_at shape (Stack v i) s ≡ 0
  pub spared : (k : ℕ) → in_summary shape k ≡ true → get_or s k 0 < 2 ^ spis_in shape k

-- "set exactly when it is enabled, pending and not active" (document 02, Five)
pub record Exact (shape : Shape) (s : List ℕ) : Type 0 where
  pub exact : (n : ℕ) → Exists shape (Spi n) → ready_bit shape n s ≡ is_ready (record_of (word_at shape (Spi n) s))
