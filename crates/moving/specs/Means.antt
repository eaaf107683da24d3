-- When words mean the same state: document 01, "any stored bits decode to exactly one record, source set, stack entry or register value". Bits
-- that count for nothing may differ, and so may what lies past the newest entry of a stack.
use Rattle.std.specs.Prelude.{◌≡◌, List, ℕ, ◌<◌}
use Rattle.state.specs.declared.layout.Shape.{Shape}
use Rattle.state.specs.declared.layout.InterfaceValue.TheVariants.{Depth}
use Rattle.state.specs.Layout.{Slot, Count, Limit, DistributorControl, Interface, Sources, Private, Spi, Stack, Exists}
use Rattle.state.specs.Words.{word_at, rewritten}

-- a slot that is no entry past the newest of its stack
abbrev pub InUse : Shape → List ℕ → Slot → Type 0
InUse shape s Count = Unit
InUse shape s Limit = Unit
InUse shape s DistributorControl = Unit
InUse shape s (Interface v k) = Unit
InUse shape s (Sources v n) = Unit
InUse shape s (Private v n) = Unit
InUse shape s (Spi n) = Unit
InUse shape s (Stack v i) = i < word_at shape (Interface v Depth) s

-- "states that mean the same": what is written for each slot's word is the same
pub record MeansSame (shape : Shape) (s r : List ℕ) : Type 0 where
  pub at : (t : Slot) → Exists shape t → InUse shape s t → rewritten t (word_at shape t s) ≡ rewritten t (word_at shape t r)
