-- What an access to a byte register reads and does, number by number, for all four registers and the three widths at once. Assumes nothing.
use mathlib.Core.Path.{◌≡◌}
use mathlib.Core.Bool.{true, false, not, ◌&&◌}
use mathlib.Core.List.{List}
use Prim.Native.Nat.{ℕ, ◌+◌, ◌≤◌, ◌<◌}
use native.Mathlib.Omega.{arith}
use lib.Dec.{ltb}
use borrow.Author.Tests.{ltb-true}
use Rattle.interrupt.specs.Record.{set_priority, set_cpu_target_mask}
use Rattle.register.specs.declared.ranges.ByteRegister.{ByteRegister}
use Rattle.register.specs.declared.ranges.ByteRegister.TheVariants.{Ipriorityr, Itargetsr, Cpendsgir, Spendsgir}
use Rattle.word.specs.Fields.{field_at}
use Rattle.word.proofs.Gathered.{gathered_field}
use Rattle.state.specs.declared.layout.Shape.{Shape}
use Rattle.state.specs.Layout.{Slot, Exists, Limits, Room}
use Rattle.state.specs.Words.{word_at, record_slot}
use Rattle.state.proofs.Accessors.{record_exists}
use Rattle.state.proofs.Numbers.{Of, run_written, run_others}
use Rattle.state.proofs.Own.{Own, if_own, changed_own}
use Rattle.state.proofs.Steps.{slots, Agree, Local, steps_room}
use Rattle.state.proofs.Tests.{left_true, right_true, not_below}
use Rattle.targets.specs.Targets.{existing_bits, write_target}
use Rattle.sgi.proofs.Rings.{sources_own}
use Rattle.distributor.specs.Bytes.{write_priority, read_byte, write_byte, read_bytes, write_bytes, ByteThere, BytesAt}
use Rattle.distributor.proofs.ByteLaws.{byte_below}

-- byte i of what is read is the number's byte
pub bytes_read : (shape : Shape) (register : ByteRegister) (v first count : ℕ) (s : List ℕ) (i : ℕ) → i < count
    → field_at 8 i (read_bytes shape register v first count s) ≡ read_byte shape register v s (first + i)
unfolding read_bytes
bytes_read shape register v first count s i h =
    gathered_field 8 (λ j. read_byte shape register v s (first + j)) (λ j. byte_below shape register v s (first + j)) count i h

-- a target byte that is written is an SPI's, below the limit; a priority's below the limit
module _ (shape : Shape) (v n : ℕ) where
  pub target_there : (not (ltb n 32) && ltb n shape.limit) ≡ true → Exists shape (record_slot v n)
  target_there e =
      let h : 32 ≤ n = not_below n 32 (left_true (not (ltb n 32)) (ltb n shape.limit) e) in
      let b : n < shape.limit = ltb-true n shape.limit (right_true (not (ltb n 32)) (ltb n shape.limit) e) in
      record_exists shape v n (record { numbered = b; banked = λ p. absurd (omega arith) })

  pub priority_there : (n < 32 → v < shape.count) → ltb n shape.limit ≡ true → Exists shape (record_slot v n)
  priority_there banked e = record_exists shape v n (record { numbered = ltb-true n shape.limit e; banked = banked })

-- a byte's write is of its number alone
byte_own : (shape : Shape) (register : ByteRegister) (v n byte : ℕ) → Limits shape → ByteThere shape register v n → Own shape (Of v n) (write_byte shape register v n byte)
unfolding write_priority write_target
byte_own shape Ipriorityr v n byte l there =
    if_own shape (Of v n) (ltb n shape.limit) (λ e. changed_own shape v n (λ r. set_priority r (record { 0 = byte })) (priority_there shape v n there e))
byte_own shape Itargetsr v n byte l there =
    if_own shape (Of v n) (not (ltb n 32) && ltb n shape.limit) (λ e. changed_own shape v n (λ r. set_cpu_target_mask r (existing_bits shape byte)) (target_there shape v n e))
byte_own shape Cpendsgir v n byte l there = sources_own shape v n l there false byte
byte_own shape Spendsgir v n byte l there = sources_own shape v n l there true byte

module _ (shape : Shape) (register : ByteRegister) (v first count value : ℕ) (s : List ℕ) (at : BytesAt shape register v first count s) where
  pub run_own : (i : ℕ) → i < count → Own shape (Of v (first + i)) (write_byte shape register v (first + i) (field_at 8 i value))
  run_own i h = byte_own shape register v (first + i) (field_at 8 i value) at.state.limits (at.there i h)

  step : (i : ℕ) → i < count → Local shape (Of v (first + i)) (write_byte shape register v (first + i) (field_at 8 i value))
  step i h = (run_own i h).local

  -- a write does to each of its numbers what its byte alone does
  pub bytes_written : (i : ℕ) → i < count
      → Agree shape (Of v (first + i)) (write_bytes shape register v first count value s) (write_byte shape register v (first + i) (field_at 8 i value) s)
  unfolding write_bytes
  bytes_written i h = run_written shape v first count (λ j. write_byte shape register v (first + j) (field_at 8 j value)) s step at.state i h

  -- .. and nothing to any other slot
  pub bytes_others : (t : Slot) → Exists shape t → ((i : ℕ) → i < count → Of v (first + i) t → ⊥)
      → word_at shape t (write_bytes shape register v first count value s) ≡ word_at shape t s
  unfolding write_bytes
  bytes_others t e away = run_others shape v first count (λ j. write_byte shape register v (first + j) (field_at 8 j value)) s step at.state t e away

  pub bytes_room : Room shape (write_bytes shape register v first count value s)
  unfolding write_bytes
  bytes_room = steps_room (slots shape) (λ j. Of v (first + j)) (λ j. write_byte shape register v (first + j) (field_at 8 j value)) count s step at.state
