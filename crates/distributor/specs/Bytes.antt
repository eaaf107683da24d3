-- The byte registers: document 01, "Distributor places": "widths 1, 2, 4", a byte for each number. IHI 0048, 4.3.11, 4.3.12, 4.3.16 and
-- 4.3.17.
use Rattle.std.specs.Prelude.{true, false, cond, List, ℕ, ◌+◌, ◌≤◌, ◌<◌, ltb}
use Rattle.interrupt.specs.Types.{priority_of}
use Rattle.interrupt.specs.Record.{set_priority}
use Rattle.register.specs.declared.ranges.ByteRegister.{ByteRegister}
use Rattle.register.specs.declared.ranges.ByteRegister.TheVariants.{Ipriorityr, Itargetsr, Cpendsgir, Spendsgir}
use Rattle.state.specs.declared.layout.Shape.{Shape}
use Rattle.state.specs.Layout.{Room}
use Rattle.state.specs.Loop.{up_to}
use Rattle.state.specs.Words.{record_at, changed, sources_at}
use Rattle.word.specs.Fields.{field_at, gathered}
use Rattle.sgi.specs.Sgi.{write_sources}
use Rattle.targets.specs.Targets.{read_target, write_target}

-- "A priority byte keeps all 8 bits"; numbers not below the limit read 0 and ignore writes
unfoldable pub read_priority : Shape → ℕ → List ℕ → ℕ → ℕ
read_priority shape v s n = cond (ltb n shape.limit) (record_at shape v n s).priority.0 0

unfoldable pub write_priority : Shape → ℕ → ℕ → ℕ → List ℕ → List ℕ
write_priority shape v n byte s = cond (ltb n shape.limit) (changed shape v n (λ r. set_priority r (priority_of byte)) s) s

-- "CPENDSGIR and SPENDSGIR read the source bits"
abbrev pub read_byte : Shape → ByteRegister → ℕ → List ℕ → ℕ → ℕ
read_byte shape Ipriorityr v s n = read_priority shape v s n
read_byte shape Itargetsr v s n = read_target shape v s n
read_byte shape Cpendsgir v s n = sources_at shape v n s
read_byte shape Spendsgir v s n = sources_at shape v n s

abbrev pub write_byte : Shape → ByteRegister → ℕ → ℕ → ℕ → List ℕ → List ℕ
write_byte shape Ipriorityr v n byte s = write_priority shape v n byte s
write_byte shape Itargetsr v n byte s = write_target shape v n byte s
write_byte shape Cpendsgir v n byte s = write_sources shape v n false byte s
write_byte shape Spendsgir v n byte s = write_sources shape v n true byte s

-- `count` bytes from the number `first` up
unfoldable pub read_bytes : Shape → ByteRegister → ℕ → ℕ → ℕ → List ℕ → ℕ
read_bytes shape register v first count s = gathered 8 (λ i. read_byte shape register v s (first + i)) count

unfoldable pub write_bytes : Shape → ByteRegister → ℕ → ℕ → ℕ → ℕ → List ℕ → List ℕ
write_bytes shape register v first count value s = up_to (λ i. write_byte shape register v (first + i) (field_at 8 i value)) count s

-- a byte that has what it reads: a private priority and a source set need their vCPU, a target byte does not
abbrev pub ByteThere : Shape → ByteRegister → ℕ → ℕ → Type 0
ByteThere shape Ipriorityr v n = n < 32 → v < shape.count
ByteThere shape Itargetsr v n = Unit
ByteThere shape Cpendsgir v n = (v < shape.count) × (n < 16)
ByteThere shape Spendsgir v n = (v < shape.count) × (n < 16)

pub record ByteAt (shape : Shape) (register : ByteRegister) (v n : ℕ) (s : List ℕ) : Type 0 where
  pub state : Room shape s
  pub there : ByteThere shape register v n

pub record BytesAt (shape : Shape) (register : ByteRegister) (v first count : ℕ) (s : List ℕ) : Type 0 where
  pub state : Room shape s
  pub short : count ≤ 4
  pub numbered : first < 1020
  pub there : (i : ℕ) → i < count → ByteThere shape register v (first + i)
