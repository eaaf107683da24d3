-- The numbers of a record and the record made of them, on both ways: its flags, its owner and its mask. Assumes nothing.
use Rattle.std.specs.Prelude.{Option, Some, None}
use mathlib.Core.Path.{◌≡◌, refl, sym, ap, ◌∙◌}
use mathlib.Core.Bool.{Bool, true, false, not, cond}
use mathlib.Core.List.{List, [], ◌∷◌}
use Prim.Native.Nat.{ℕ, ◌+◌, ◌-◌, ◌^◌, ◌≤◌, ◌<◌}
use native.Mathlib.Omega.{arith}
use lib.Dec.{eqb}
use borrow.Author.Tests.{eqb-true, eqb-false, ne_eqb}
use Rattle.interrupt.specs.Types.{is_level}
use Rattle.interrupt.specs.declared.record.InterruptRecord.{InterruptRecord}
use Rattle.word.specs.Fields.{Field, bits, field, packed}
use Rattle.word.specs.Word.{flag, trigger_of, owner_of, bit_of, mask_byte}
use Rattle.word.proofs.Fields.{Fit, breadth, at, place, packed_fits, field_packed, fields_from, sum, packed_fields}
use Rattle.word.proofs.RecordWord.{trigger_back, bit_fits, bit_back, bit_again, trigger_again}
use Rattle.image.specs.Image.{flags_number, owner_number, mask_number, unset_mark}
use Rattle.load.specs.Reading.{record_from, mask_from}
use Rattle.interrupt.specs.declared.types.GicVcpuId.{GicVcpuId}

pub owner_back : (o : Option GicVcpuId) → owner_of (owner_number o) ≡ o
owner_back None = refl
owner_back (Some v) = let same : v.0 + 1 - 1 ≡ v.0 = omega arith in simp (ne_eqb (v.0 + 1) 0 (λ e. omega arith), same)

pub owner_again : (x : ℕ) → owner_number (owner_of x) ≡ x
owner_again x = go (eqb x 0) refl
  where
    go : (b : Bool) → eqb x 0 ≡ b → owner_number (cond b None (Some (record { 0 = x - 1 }))) ≡ x
    go true e = sym (eqb-true x 0 e)
    go false e = let n : x ≡ 0 → ⊥ = eqb-false x 0 e in omega arith

pub mask_back : (m : Option ℕ) → mask_byte m < 2 ^ 8 → mask_from (mask_number m) ≡ m
mask_back None h = refl
mask_back (Some byte) h = simp (ne_eqb byte unset_mark (λ e. omega arith))

pub mask_again : (x : ℕ) → mask_number (mask_from x) ≡ x
mask_again x = go (eqb x unset_mark) refl
  where
    go : (b : Bool) → eqb x unset_mark ≡ b → mask_number (cond b None (Some x)) ≡ x
    go true e = sym (eqb-true x unset_mark e)
    go false e = refl

-- the flags as fields of one bit
flags_of : InterruptRecord → List Field
flags_of r =
    bits 1 (bit_of r.enabled)
    ∷ bits 1 (bit_of r.pending)
    ∷ bits 1 (bit_of r.active)
    ∷ bits 1 (bit_of r.inflight)
    ∷ bits 1 (bit_of r.redelivery_pending)
    ∷ bits 1 (bit_of r.line_asserted)
    ∷ bits 1 (bit_of (not (is_level r.trigger)))
    ∷ []

flags_packed : (r : InterruptRecord) → flags_number r ≡ packed (flags_of r)
unfolding flags_number flags_of packed
flags_packed r = omega arith

flags_bits : (r : InterruptRecord) → Fit (flags_of r)
unfolding flags_of
flags_bits r = (
  bit_fits r.enabled,
  (
    bit_fits r.pending,
    (
      bit_fits r.active,
      (bit_fits r.inflight, (bit_fits r.redelivery_pending, (bit_fits r.line_asserted, (bit_fits (not (is_level r.trigger)), tt)))),
    ),
  ),
)

pub flags_fit : (r : InterruptRecord) → flags_number r < 128
unfolding flags_of breadth
flags_fit r = rw (flags_packed r) (packed_fits (flags_of r) (flags_bits r))

-- the record that the numbers say
module _ (f p : ℕ) (owner : Option GicVcpuId) (mask : Option ℕ) where
  again : (k : ℕ) → bit_of (flag k f) ≡ field k 1 f
  again k = bit_again (field k 1 f) (omega arith)

  abbrev widths : List ℕ
  widths = 1 ∷ 1 ∷ 1 ∷ 1 ∷ 1 ∷ 1 ∷ 1 ∷ []

  fields_again : flags_of (record_from f p owner mask) ≡ fields_from 0 widths f
  unfolding flags_of fields_from
  fields_again = simp (trigger_again (flag 6 f), again 0, again 1, again 2, again 3, again 4, again 5, again 6)

  pub flags_again : f ≤ 127 → flags_number (record_from f p owner mask) ≡ f
  unfolding sum
  flags_again h = flags_packed (record_from f p owner mask) ∙ ap packed fields_again ∙ packed_fields 0 widths f ∙ omega arith

-- a record's numbers say it
pub record_back : (r : InterruptRecord) → record_from (flags_number r) r.priority.0 r.owner r.cpu_target_mask ≡ r
unfolding flags_of at place
record_back r = λ i. record {
  enabled = back 0 r.enabled (read 0) i;
  pending = back 1 r.pending (read 1) i;
  active = back 2 r.active (read 2) i;
  inflight = back 3 r.inflight (read 3) i;
  redelivery_pending = back 4 r.redelivery_pending (read 4) i;
  line_asserted = back 5 r.line_asserted (read 5) i;
  priority = r.priority;
  trigger = (ap trigger_of (back 6 (not (is_level r.trigger)) (read 6)) ∙ trigger_back r.trigger) i;
  cpu_target_mask = r.cpu_target_mask;
  owner = r.owner;
}
  where
    read : (k : ℕ) → field (place k (flags_of r)) (at k (flags_of r)).width (flags_number r) ≡ (at k (flags_of r)).value
    read k = rw (flags_packed r) (field_packed k (flags_of r) (flags_bits r))

    back : (k : ℕ) (b : Bool) → field k 1 (flags_number r) ≡ bit_of b → flag k (flags_number r) ≡ b
    back k b e = ap (λ (x : ℕ). eqb x 1) e ∙ bit_back b
