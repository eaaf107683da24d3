-- When lent words are a state: document 01, "Refusal numbers". 4 is for a count or limit "outside the limits above"; 6 for "stored count or
-- limit out of range, lent state shorter than they need, or a stored service depth over" 128 (document 02, Two; it was 255), the depth of every
-- existing vCPU.
use Rattle.std.specs.Prelude.{◌≡◌, Bool, cond, ◌&&◌, List, ℕ, ◌≤◌, ◌<◌, leb, length, get_or, Option, Some, None}
use Rattle.state.specs.declared.layout.Shape.{Shape}
use Rattle.state.specs.declared.layout.InterfaceValue.TheVariants.{Depth}
use Rattle.state.specs.Layout.{Count, Limit, Interface, stack_capacity, size, Room}
use Rattle.state.specs.Loop.{every_below}
use Rattle.state.specs.Words.{word_at, put}

-- "1 to 8 vCPUs; the SPI limit is 32 to 1020"
abbrev pub in_limits : ℕ → ℕ → Bool
in_limits count limit = leb 1 count && leb count 8 && leb 32 limit && leb limit 1020

abbrev pub shaped : ℕ → ℕ → Shape
shaped count limit = record { count = count; limit = limit }

unfoldable pub limited : ℕ → ℕ → Option Shape
limited count limit = cond (in_limits count limit) (Some (shaped count limit)) None

-- the words that say which state they hold
abbrev pub with_shape : Shape → List ℕ → List ℕ
with_shape shape s = put shape Limit shape.limit (put shape Count shape.count s)

-- by the stored count and limit; a word that is not there counts as 0, which is in neither range
abbrev pub stored_shape : List ℕ → Option Shape
stored_shape s = limited (get_or s 0 0) (get_or s 1 0)

abbrev pub depth_fits : Shape → List ℕ → ℕ → Bool
depth_fits shape s v = leb (word_at shape (Interface v Depth) s) stack_capacity

abbrev pub lent_as : List ℕ → Option Shape → Option Shape
lent_as s None = None
lent_as s (Some shape) = cond (leb (size shape) (length s) && every_below (depth_fits shape s) shape.count) (Some shape) None

unfoldable pub validated : List ℕ → Option Shape
validated s = lent_as s (stored_shape s)

-- what it is to pass the test
pub record HoldsState (shape : Shape) (s : List ℕ) : Type 0 where
  pub stored : shape ≡ shaped (get_or s 0 0) (get_or s 1 0)
  pub state : Room shape s
  pub depths : (v : ℕ) → v < shape.count → word_at shape (Interface v Depth) s ≤ stack_capacity
