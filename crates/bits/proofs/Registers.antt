-- What a word of a bit register reads and what a write to it does, number by number, for all eight registers at once: field i is what the
-- record of number first + i says, and a write changes exactly the records whose fields act. Assumes nothing.
use Rattle.std.specs.Prelude.{None}
use mathlib.Core.Path.{◌≡◌, refl, ap, ◌∙◌}
use mathlib.Core.Bool.{Bool, true, false, cond, ◌&&◌}
use mathlib.Core.List.{List}
use Prim.Native.Nat.{ℕ, ◌+◌, ◌<◌}
use native.Mathlib.Omega.{arith}
use lib.Dec.{ltb}
use mathlib.Core.Logic.{inl}
use borrow.Author.Tests.{lt-ltb, ltb-true}
use Rattle.interrupt.specs.Record.{set_enabled, set_pending, set_active, cancel_inflight, set_trigger, set_owner}
use Rattle.interrupt.specs.declared.record.InterruptRecord.{InterruptRecord}
use Rattle.register.specs.declared.ranges.BitRegister.{BitRegister}
use Rattle.register.specs.declared.ranges.BitRegister.TheVariants.{Igroupr, Isenabler, Icenabler, Ispendr, Icpendr, Isactiver, Icactiver, Icfgr}
use Rattle.word.specs.Fields.{field_at}
use Rattle.word.specs.Word.{record_of, InRange}
use Rattle.word.proofs.Gathered.{gathered_field}
use Rattle.word.proofs.RecordWord.{decoded_in_range}
use Rattle.state.specs.declared.layout.Shape.{Shape}
use Rattle.state.specs.Layout.{Slot, Exists, Room}
use Rattle.state.specs.Words.{word_at, record_slot, record_at, changed}
use Rattle.state.proofs.Accessors.{record_exists, record_same}
use Rattle.state.proofs.Numbers.{Of, run_written, run_others}
use Rattle.state.proofs.Own.{Own, if_own, changed_own}
use Rattle.state.proofs.Steps.{slots, Agree, Local, steps_room}
use Rattle.state.proofs.Tests.{left_true}
use Rattle.bits.specs.Bits.{field_bits, per_word, read_number, read_bits, acts, clear_active, act, write_number, write_bits, BitWordAt}
use Rattle.bits.proofs.BitLaws.{number_below}

-- bit i of what is read is the record's bit
pub bits_read : (shape : Shape) (register : BitRegister) (v first : ℕ) (s : List ℕ) (i : ℕ) → i < per_word register
    → field_at (field_bits register) i (read_bits shape register v first s) ≡ read_number shape register v s (first + i)
unfolding read_bits
bits_read shape register v first s i h =
    gathered_field (field_bits register) (λ j. read_number shape register v s (first + j)) (λ j. number_below shape register v s (first + j)) (per_word register) i h

-- what a field makes of a record
abbrev pub written : BitRegister → ℕ → ℕ → InterruptRecord → InterruptRecord
written register n x r = cond (acts register n x) (act register x r) r

cleared_in_range : (r : InterruptRecord) → InRange r → InRange (clear_active r)
unfolding clear_active set_owner cancel_inflight set_active
cleared_in_range r h = go r.inflight
  where
    go : (b : Bool) → InRange (cond b (set_owner (cancel_inflight (set_active r false)) None) (set_active r false))
    go true = record { priority_byte = h.priority_byte; mask_byte_lem = h.mask_byte_lem; owner_byte_lem = tt }
    go false = record { priority_byte = h.priority_byte; mask_byte_lem = h.mask_byte_lem; owner_byte_lem = h.owner_byte_lem }

pub act_in_range : (register : BitRegister) (x : ℕ) (r : InterruptRecord) → InRange r → InRange (act register x r)
unfolding set_enabled set_pending set_active set_trigger
act_in_range Igroupr x r h = h
act_in_range Isenabler x r h = record { priority_byte = h.priority_byte; mask_byte_lem = h.mask_byte_lem; owner_byte_lem = h.owner_byte_lem }
act_in_range Icenabler x r h = record { priority_byte = h.priority_byte; mask_byte_lem = h.mask_byte_lem; owner_byte_lem = h.owner_byte_lem }
act_in_range Ispendr x r h = record { priority_byte = h.priority_byte; mask_byte_lem = h.mask_byte_lem; owner_byte_lem = h.owner_byte_lem }
act_in_range Icpendr x r h = record { priority_byte = h.priority_byte; mask_byte_lem = h.mask_byte_lem; owner_byte_lem = h.owner_byte_lem }
act_in_range Isactiver x r h = record { priority_byte = h.priority_byte; mask_byte_lem = h.mask_byte_lem; owner_byte_lem = h.owner_byte_lem }
act_in_range Icactiver x r h = cleared_in_range r h
act_in_range Icfgr x r h = record { priority_byte = h.priority_byte; mask_byte_lem = h.mask_byte_lem; owner_byte_lem = h.owner_byte_lem }

-- the records of a word, below the limit
pub word_there : (shape : Shape) (register : BitRegister) (v first : ℕ) (s : List ℕ) → BitWordAt shape register v first s → (i : ℕ) → first + i < shape.limit → Exists shape (record_slot v (first + i))
word_there shape register v first s at i h = record_exists shape v (first + i) (record { numbered = h; banked = λ b. at.banked (omega arith) })

module _ (shape : Shape) (register : BitRegister) (v first value : ℕ) (s : List ℕ) (at : BitWordAt shape register v first s) where
  exists : (i : ℕ) → first + i < shape.limit → Exists shape (record_slot v (first + i))
  exists i h = word_there shape register v first s at i h

  -- a field's write is of its number alone
  pub field_own : (i : ℕ) → Own shape (Of v (first + i)) (write_number shape register v (first + i) (field_at (field_bits register) i value))
  unfolding write_number
  field_own i =
      if_own shape (Of v (first + i)) (ltb (first + i) shape.limit && acts register (first + i) (field_at (field_bits register) i value))
      (λ e. changed_own shape v (first + i) (act register (field_at (field_bits register) i value))
      (exists i (ltb-true (first + i) shape.limit (left_true (ltb (first + i) shape.limit) (acts register (first + i) (field_at (field_bits register) i value)) e))))

  step : (i : ℕ) → Local shape (Of v (first + i)) (write_number shape register v (first + i) (field_at (field_bits register) i value))
  step i = (field_own i).local

  -- a write does to each of its numbers what its field alone does
  pub bits_written : (i : ℕ) → i < per_word register
      → Agree shape (Of v (first + i)) (write_bits shape register v first value s) (write_number shape register v (first + i) (field_at (field_bits register) i value) s)
  unfolding write_bits
  bits_written i h =
      run_written shape v first (per_word register) (λ j. write_number shape register v (first + j) (field_at (field_bits register) j value)) s (λ j c. step j) at.state i h

  -- .. and nothing to any other slot
  pub bits_others : (t : Slot) → Exists shape t → ((i : ℕ) → i < per_word register → Of v (first + i) t → ⊥)
      → word_at shape t (write_bits shape register v first value s) ≡ word_at shape t s
  unfolding write_bits
  bits_others t e away =
      run_others shape v first (per_word register) (λ j. write_number shape register v (first + j) (field_at (field_bits register) j value)) s (λ j c. step j) at.state t e away

  pub bits_room : Room shape (write_bits shape register v first value s)
  unfolding write_bits
  bits_room =
      steps_room (slots shape) (λ j. Of v (first + j)) (λ j. write_number shape register v (first + j) (field_at (field_bits register) j value)) (per_word register) s (λ j c. step j) at.state

  -- so exactly the records change whose fields act
  pub record_written : (i : ℕ) → i < per_word register → first + i < shape.limit
      → record_at shape v (first + i) (write_bits shape register v first value s) ≡ written register (first + i) (field_at (field_bits register) i value) (record_at shape v (first + i) s)
  unfolding write_number
  record_written i h b =
      ap record_of ((bits_written i h).agree (record_slot v (first + i)) (exists i b) (inl refl))
      ∙ simp (lt-ltb (first + i) shape.limit b) (go (acts register (first + i) (field_at (field_bits register) i value)))
    where
      go : (q : Bool) → record_at shape v (first + i) (cond q (changed shape v (first + i) (act register (field_at (field_bits register) i value)) s) s)
          ≡ cond q (act register (field_at (field_bits register) i value) (record_at shape v (first + i) s)) (record_at shape v (first + i) s)
      go true =
          record_same shape s v (first + i) (act register (field_at (field_bits register) i value) (record_at shape v (first + i) s)) at.state (exists i b)
          (act_in_range register (field_at (field_bits register) i value) (record_at shape v (first + i) s) (decoded_in_range (word_at shape (record_slot v (first + i)) s)))
      go false = refl
