-- `class_at` is `class_at`: the table's number names the class of the word around the offset, which is the offset's.
use mathlib.Core.Path.{ap, sym, ◌∙◌}
use Prim.Native.Nat.{◌*◌, ◌/◌}
use borrow.Author.Rules.{rules}
use Rattle.register.specs.declared.ranges.RegisterRange.{RegisterRange}
use Rattle.register.specs.Ranges.{ranges, range_in, range_at, class_at, class_of}
use Rattle.register.proofs.Map.{class_of_number, range_at_word, range_past}
use Rattle.register.proofs.dispatch.class_at.Goals as goal

pub returns-then-offset-eq3840 : goal.returns-then-offset-eq3840
unfolding range_at range_in ranges
returns-then-offset-eq3840 c = simp c.if-offset-eq3840.true

pub returns-then-offset-lt4096 : goal.returns-then-offset-lt4096
returns-then-offset-lt4096 c =
    c.of_number.ensures
    ∙ ap class_of c.class_number.ensures
    ∙ class_of_number (class_at (4 * (c.args.offset / 4)))
    ∙ ap (λ (r : RegisterRange). r.class) (range_at_word c.args.offset)

pub returns-else-offset-lt4096 : goal.returns-else-offset-lt4096
returns-else-offset-lt4096 c = sym (ap (λ (r : RegisterRange). r.class) (range_past c.args.offset (search rules)))
