-- The stack of what a vCPU has under service: document 01, "CPU interface places", IAR ("the running priority (the newest on the stack, or
-- 255)", "pushes number and priority") and EOIR ("It pops the stack only if that number is newest"); IHI 0048, 4.4.6, "Running Priority
-- Register". A popped slot is cleared, so that equal stacks are equal words.
use Rattle.std.specs.Prelude.{Bool, false, cond, List, [], ◌∷◌, ℕ, zero, suc, ◌+◌, ◌-◌, ◌≤◌, ◌<◌, eqb}
use Rattle.interrupt.specs.Types.{idle_priority}
use Rattle.state.specs.declared.layout.Shape.{Shape}
use Rattle.state.specs.declared.layout.InterfaceValue.TheVariants.{Depth}
use Rattle.state.specs.declared.words.Entry.{Entry}
use Rattle.state.specs.Layout.{Room, stack_capacity}
use Rattle.state.specs.Words.{interface_at, with_interface, entry_at, with_entry, without_entry}

abbrev pub depth_at : Shape → ℕ → List ℕ → ℕ
depth_at shape v s = interface_at shape v Depth s

-- the n oldest entries, the newest of them first
unfoldable pub stack_to : Shape → ℕ → List ℕ → ℕ → List Entry
stack_to shape v s zero = []
stack_to shape v s (suc i) = entry_at shape v i s ∷ stack_to shape v s i

abbrev pub stack_at : Shape → ℕ → List ℕ → List Entry
stack_at shape v s = stack_to shape v s (depth_at shape v s)

abbrev pub running_of : List Entry → ℕ
running_of [] = idle_priority
running_of (e ∷ es) = e.priority.0

abbrev pub running : Shape → ℕ → List ℕ → ℕ
running shape v s = running_of (stack_at shape v s)

abbrev pub is_newest : ℕ → List Entry → Bool
is_newest n [] = false
is_newest n (e ∷ es) = eqb e.intid.0 n

unfoldable pub pushed : Shape → ℕ → Entry → List ℕ → List ℕ
pushed shape v e s = with_entry shape v (depth_at shape v s) e (with_interface shape v Depth (depth_at shape v s + 1) s)

unfoldable pub popped : Shape → ℕ → List ℕ → List ℕ
popped shape v s = with_interface shape v Depth (depth_at shape v s - 1) (without_entry shape v (depth_at shape v s - 1) s)

-- "pops the stack only if that number is newest"
unfoldable pub dropped : Shape → ℕ → ℕ → List ℕ → List ℕ
dropped shape v n s = cond (is_newest n (stack_at shape v s)) (popped shape v s) s

-- words that hold a state with this vCPU, whose stack has room for what it holds
pub record Served (shape : Shape) (v : ℕ) (s : List ℕ) : Type 0 where
  pub state : Room shape s
  pub exists : v < shape.count
  pub deep : depth_at shape v s ≤ stack_capacity

-- the same of every vCPU: what refusal 6 makes sure of
pub record Sound (shape : Shape) (s : List ℕ) : Type 0 where
  pub state : Room shape s
  pub depths : (v : ℕ) → v < shape.count → depth_at shape v s ≤ stack_capacity
