-- Document 01: "any stored bits decode to exactly one record, source set, stack entry or register value": whatever the word holds, what it means
-- is in its range. (Of a record: `decoded_in_range` in crates/word.) Assumes nothing.
use mathlib.Core.List.{List}
use Prim.Native.Nat.{ℕ, ◌≤◌, ◌<◌}
use native.Mathlib.Omega.{arith}
use Rattle.state.specs.declared.layout.Shape.{Shape}
use Rattle.state.specs.declared.layout.InterfaceValue.TheVariants.{Control, PriorityMask, BinaryPoint}
use Rattle.state.specs.Words.{sources_at, kept, entry_of}

pub sources_in_range : (shape : Shape) (v n : ℕ) (s : List ℕ) → sources_at shape v n s < 256
sources_in_range shape v n s = omega arith

pub entry_in_range : (w : ℕ) → ((entry_of w).intid.0 < 1024) × ((entry_of w).priority.0 < 256)
entry_in_range w = (omega arith, omega arith)

pub value_in_range : (w : ℕ) → (kept Control w ≤ 513) × (kept PriorityMask w < 256) × (kept BinaryPoint w < 8)
value_in_range w = (omega arith, omega arith, omega arith)
