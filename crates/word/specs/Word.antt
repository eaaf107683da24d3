-- A record's word: one record is one word of the lent state. From the lowest bit: enabled, pending, active, in flight, redelivery
-- noted, line asserted, edge, target mask set; then three bytes, the priority, the target mask, and the owner (0 for nobody, v + 1 for vCPU
-- v). Every word is exactly one record, as document 01 asks ("any stored bits decode to exactly one record").
use Rattle.std.specs.Prelude.{Bool, true, false, not, cond, ◌≡◌, List, [], ◌∷◌, ℕ, ◌+◌, ◌-◌, ◌%◌, ◌^◌, ◌<◌, eqb, Option, Some, None}
use Rattle.interrupt.specs.Types.{is_level, priority_of}
use Rattle.word.specs.Fields.{Field, bits, field, packed}
use Rattle.interrupt.specs.declared.types.TriggerMode.{TriggerMode}
use Rattle.interrupt.specs.declared.types.TriggerMode.TheVariants.{Level, Edge}
use Rattle.interrupt.specs.declared.record.InterruptRecord.{InterruptRecord}
use Rattle.interrupt.specs.declared.types.GicVcpuId.{GicVcpuId}

-- bit `place` of w
abbrev pub flag : ℕ → ℕ → Bool
flag place w = eqb (field place 1 w) 1

abbrev pub trigger_of : Bool → TriggerMode
trigger_of edge = cond edge Edge Level

abbrev pub mask_of : Bool → ℕ → Option ℕ
mask_of set byte = cond set (Some byte) None

abbrev pub owner_of : ℕ → Option GicVcpuId
owner_of byte = cond (eqb byte 0) None (Some (record { 0 = byte - 1 }))

-- what a word means
unfoldable pub record_of : ℕ → InterruptRecord
record_of w = record {
  enabled = flag 0 w;
  pending = flag 1 w;
  active = flag 2 w;
  inflight = flag 3 w;
  redelivery_pending = flag 4 w;
  line_asserted = flag 5 w;
  trigger = trigger_of (flag 6 w);
  cpu_target_mask = mask_of (flag 7 w) (field 16 8 w);
  priority = priority_of (field 8 8 w);
  owner = owner_of (field 24 8 w);
}

abbrev pub bit_of : Bool → ℕ
bit_of b = cond b 1 0

abbrev pub is_set : Option ℕ → Bool
is_set None = false
is_set (Some byte) = true

abbrev pub mask_byte : Option ℕ → ℕ
mask_byte None = 0
mask_byte (Some byte) = byte

-- how many vCPUs a byte tells apart beside nobody
abbrev pub owners_held : ℕ
owners_held = 255

-- v + 1 for every v below that; any other v stays an owner too, so that encoding asks nothing
abbrev pub owner_byte : Option GicVcpuId → ℕ
owner_byte None = 0
owner_byte (Some v) = v.0 % owners_held + 1

-- the eight flags, and what stands above them
abbrev pub flags_then : InterruptRecord → List Field → List Field
flags_then r above =
    bits 1 (bit_of r.enabled)
    ∷ bits 1 (bit_of r.pending)
    ∷ bits 1 (bit_of r.active)
    ∷ bits 1 (bit_of r.inflight)
    ∷ bits 1 (bit_of r.redelivery_pending)
    ∷ bits 1 (bit_of r.line_asserted)
    ∷ bits 1 (bit_of (not (is_level r.trigger)))
    ∷ bits 1 (bit_of (is_set r.cpu_target_mask))
    ∷ above

abbrev pub fields_of : InterruptRecord → List Field
fields_of r = flags_then r (bits 8 r.priority.0 ∷ bits 8 (mask_byte r.cpu_target_mask) ∷ bits 8 (owner_byte r.owner) ∷ [])

-- the word of a record
unfoldable pub word_of : InterruptRecord → ℕ
word_of r = packed (fields_of r)

abbrev pub owner_in_range : Option GicVcpuId → Type 0
owner_in_range None = Unit
owner_in_range (Some v) = v.0 < owners_held

-- a record that a word can hold: what the types say, and an owner that the byte holds (there are at most 8 vCPUs)
pub record InRange (r : InterruptRecord) : Type 0 where
  pub priority_byte : r.priority.0 < 2 ^ 8
  pub mask_byte_lem : mask_byte r.cpu_target_mask < 2 ^ 8
  pub owner_byte_lem : owner_in_range r.owner

-- a word as we write it: 32 bits, and no mask where none is set
pub record CanonicalRecord (w : ℕ) : Type 0 where
  pub fits : w < 2 ^ 32
  pub unset : flag 7 w ≡ false → field 16 8 w ≡ 0
