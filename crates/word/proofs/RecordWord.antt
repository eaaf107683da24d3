-- The laws of a record's word: decoding an encoded record gives it back, encoding what a canonical word means gives the word back, an
-- encoded record is a canonical word, and a decoded one is in range. Assumes nothing.
use Rattle.std.specs.Prelude.{Option, Some, None}
use mathlib.Core.Path.{◌≡◌, refl, sym, ap, ap₂, ◌∙◌}
use mathlib.Core.Bool.{Bool, true, false, not, cond, true≢false}
use mathlib.Core.List.{List, [], ◌∷◌}
use Prim.Native.Nat.{ℕ, ◌+◌, ◌-◌, ◌%◌, ◌^◌, ◌<◌}
use native.Mathlib.Nat.{div-one, mod-eq_of_lt}
use native.Mathlib.Omega.{arith}
use lib.Dec.{eqb}
use borrow.Author.Tests.{eqb-true, eqb-false, ne_eqb}
use Rattle.word.proofs.Fields.{Fit, breadth, at, place, packed_fits, field_packed, fields_from, sum, packed_fields}
use Rattle.interrupt.specs.Types.{is_level}
use Rattle.word.specs.Fields.{bits, field, packed}
use Rattle.word.specs.Word.{flag, trigger_of, mask_of, owner_of, record_of, bit_of, is_set, mask_byte, owners_held, owner_byte, fields_of, word_of, owner_in_range, InRange, CanonicalRecord}
use Rattle.interrupt.specs.declared.types.TriggerMode.{TriggerMode}
use Rattle.interrupt.specs.declared.types.TriggerMode.TheVariants.{Level, Edge}
use Rattle.interrupt.specs.declared.record.InterruptRecord.{InterruptRecord}
use Rattle.interrupt.specs.declared.types.GicVcpuId.{GicVcpuId}

-- each part of a record, written and read back
pub bit_fits : (b : Bool) → bit_of b < 2 ^ 1
bit_fits true = omega arith
bit_fits false = omega arith

pub bit_back : (b : Bool) → eqb (bit_of b) 1 ≡ b
bit_back true = refl
bit_back false = refl

flag_back : (k w : ℕ) (b : Bool) → field k 1 w ≡ bit_of b → flag k w ≡ b
flag_back k w b e = ap (λ (x : ℕ). eqb x 1) e ∙ bit_back b

pub trigger_back : (t : TriggerMode) → trigger_of (not (is_level t)) ≡ t
trigger_back Level = refl
trigger_back Edge = refl

mask_back : (m : Option ℕ) → mask_of (is_set m) (mask_byte m) ≡ m
mask_back None = refl
mask_back (Some byte) = refl

owner_fits : (o : Option GicVcpuId) → owner_byte o < 2 ^ 8
owner_fits None = omega arith
owner_fits (Some v) = omega arith

owner_back : (o : Option GicVcpuId) → owner_in_range o → owner_of (owner_byte o) ≡ o
owner_back None h = refl
owner_back (Some v) h =
    let same : v.0 % owners_held + 1 - 1 ≡ v.0 = omega arith in
    simp (ne_eqb (v.0 % owners_held + 1) 0 (λ e. omega arith), same)

-- each part of a word, read and written again
pub bit_again : (x : ℕ) → x < 2 → bit_of (eqb x 1) ≡ x
bit_again x h = go (eqb x 1) refl
  where
    go : (b : Bool) → eqb x 1 ≡ b → bit_of b ≡ x
    go true e = sym (eqb-true x 1 e)
    go false e = let n : x ≡ 1 → ⊥ = eqb-false x 1 e in omega arith

pub trigger_again : (b : Bool) → not (is_level (trigger_of b)) ≡ b
trigger_again true = refl
trigger_again false = refl

set_again : (b : Bool) (byte : ℕ) → is_set (mask_of b byte) ≡ b
set_again true byte = refl
set_again false byte = refl

mask_again : (b : Bool) (byte : ℕ) → (b ≡ false → byte ≡ 0) → mask_byte (mask_of b byte) ≡ byte
mask_again true byte h = refl
mask_again false byte h = sym (h refl)

owner_again : (x : ℕ) → x < 256 → owner_byte (owner_of x) ≡ x
owner_again x h = go (eqb x 0) refl
  where
    go : (b : Bool) → eqb x 0 ≡ b → owner_byte (cond b None (Some (record { 0 = x - 1 }))) ≡ x
    go true e = sym (eqb-true x 0 e)
    go false e = let n : x ≡ 0 → ⊥ = eqb-false x 0 e in omega arith

-- the fields of a record in range fit
fields_fit : (r : InterruptRecord) → InRange r → Fit (fields_of r)
fields_fit r h = (
  bit_fits r.enabled,
  (
    bit_fits r.pending,
    (
      bit_fits r.active,
      (
        bit_fits r.inflight,
        (
          bit_fits r.redelivery_pending,
          (
            bit_fits r.line_asserted,
            (
              bit_fits (not (is_level r.trigger)),
              (
                bit_fits (is_set r.cpu_target_mask),
                (h.priority_byte, (h.mask_byte_lem, (owner_fits r.owner, tt))),
              ),
            ),
          ),
        ),
      ),
    ),
  ),
)

-- an encoded record fits 32 bits
pub word_fits : (r : InterruptRecord) → InRange r → word_of r < 2 ^ 32
unfolding word_of
word_fits r h = unfold breadth in packed_fits (fields_of r) (fields_fit r h)

-- field i of an encoded record is what was written there
read_back : (i : ℕ) (r : InterruptRecord) → InRange r → field (place i (fields_of r)) (at i (fields_of r)).width (word_of r) ≡ (at i (fields_of r)).value
unfolding word_of
read_back i r h = field_packed i (fields_of r) (fields_fit r h)

-- decoding an encoded record gives it back
pub decode_encode : (r : InterruptRecord) → InRange r → record_of (word_of r) ≡ r
unfolding record_of at place
decode_encode r h = λ i. record {
  enabled = flag_back 0 (word_of r) r.enabled (read_back 0 r h) i;
  pending = flag_back 1 (word_of r) r.pending (read_back 1 r h) i;
  active = flag_back 2 (word_of r) r.active (read_back 2 r h) i;
  inflight = flag_back 3 (word_of r) r.inflight (read_back 3 r h) i;
  redelivery_pending = flag_back 4 (word_of r) r.redelivery_pending (read_back 4 r h) i;
  line_asserted = flag_back 5 (word_of r) r.line_asserted (read_back 5 r h) i;
  priority = record { 0 = read_back 8 r h i };
  trigger = (ap trigger_of (flag_back 6 (word_of r) (not (is_level r.trigger)) (read_back 6 r h)) ∙ trigger_back r.trigger) i;
  cpu_target_mask = (ap₂ mask_of (flag_back 7 (word_of r) (is_set r.cpu_target_mask) (read_back 7 r h)) (read_back 9 r h) ∙ mask_back r.cpu_target_mask) i;
  owner = (ap owner_of (read_back 10 r h) ∙ owner_back r.owner h.owner_byte_lem) i;
}

widths : List ℕ
widths = 1 ∷ 1 ∷ 1 ∷ 1 ∷ 1 ∷ 1 ∷ 1 ∷ 1 ∷ 8 ∷ 8 ∷ 8 ∷ []

-- the fields of what a canonical word means are the word's own
fields_again : (w : ℕ) → CanonicalRecord w → fields_of (record_of w) ≡ fields_from 0 widths w
unfolding record_of fields_from widths
fields_again w h = λ i.
    bits 1 (again 0 i)
    ∷ bits 1 (again 1 i)
    ∷ bits 1 (again 2 i)
    ∷ bits 1 (again 3 i)
    ∷ bits 1 (again 4 i)
    ∷ bits 1 (again 5 i)
    ∷ bits 1 ((ap bit_of (trigger_again (flag 6 w)) ∙ again 6) i)
    ∷ bits 1 ((ap bit_of (set_again (flag 7 w) (field 16 8 w)) ∙ again 7) i)
    ∷ bits 8 (field 8 8 w)
    ∷ bits 8 (mask_again (flag 7 w) (field 16 8 w) h.unset i)
    ∷ bits 8 (owner_again (field 24 8 w) (omega arith) i)
    ∷ []
  where
    again : (k : ℕ) → bit_of (flag k w) ≡ field k 1 w
    again k = bit_again (field k 1 w) (omega arith)

-- encoding what a canonical word means gives the word back
pub encode_decode : (w : ℕ) → CanonicalRecord w → word_of (record_of w) ≡ w
unfolding word_of sum widths
encode_decode w h = ap packed (fields_again w h) ∙ packed_fields 0 widths w ∙ rw div-one (mod-eq_of_lt h.fits)

unset_byte : (m : Option ℕ) → is_set m ≡ false → mask_byte m ≡ 0
unset_byte None e = refl
unset_byte (Some byte) e = absurd (true≢false e)

-- an encoded record is a canonical word
pub encoded_canonical : (r : InterruptRecord) → InRange r → CanonicalRecord (word_of r)
unfolding at place
encoded_canonical r h = record {
  fits = word_fits r h;
  unset = λ e. read_back 9 r h ∙ unset_byte r.cpu_target_mask (sym (flag_back 7 (word_of r) (is_set r.cpu_target_mask) (read_back 7 r h)) ∙ e);
}

mask_below : (b : Bool) (byte : ℕ) → byte < 2 ^ 8 → mask_byte (mask_of b byte) < 2 ^ 8
mask_below true byte h = h
mask_below false byte h = omega arith

owner_below : (x : ℕ) → x < 2 ^ 8 → owner_in_range (owner_of x)
owner_below x h = go (eqb x 0) refl
  where
    go : (b : Bool) → eqb x 0 ≡ b → owner_in_range (cond b None (Some (record { 0 = x - 1 })))
    go true e = tt
    go false e = let n : x ≡ 0 → ⊥ = eqb-false x 0 e in omega arith

-- what a word means is in range, whatever the word
pub decoded_in_range : (w : ℕ) → InRange (record_of w)
unfolding record_of
decoded_in_range w = record {
  priority_byte = omega arith;
  mask_byte_lem = mask_below (flag 7 w) (field 16 8 w) (omega arith);
  owner_byte_lem = owner_below (field 24 8 w) (omega arith);
}
