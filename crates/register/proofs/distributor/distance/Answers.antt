-- `distance` counts from the range at the offset, which is the range of the class.
use mathlib.Core.Path.{◌≡◌, ap, ◌∙◌}
use Prim.Native.Nat.{ℕ}
use Rattle.register.specs.declared.ranges.Class.{Class}
use Rattle.register.specs.declared.ranges.RegisterRange.{RegisterRange}
use Rattle.register.specs.Finding.{Found}
use Rattle.register.specs.Ranges.{range_at, range_of}
use Rattle.register.proofs.Map.{range_starts, range_of_class}
use Rattle.register.proofs.distributor.distance.Goals as goal

same-range : {class : Class} {offset : ℕ} → Found class offset → {r : RegisterRange} → r ≡ range_of class → r ≡ range_at offset
same-range {offset = offset} f e = e ∙ ap range_of f.class_is ∙ range_of_class offset

pub overflow_sub-result : goal.overflow_sub-result
overflow_sub-result c = simp (same-range c.requires c.range-base.ensures) (range_starts c.args.offset)

pub returns : goal.returns
returns c = simp (same-range c.requires c.range-base.ensures)
