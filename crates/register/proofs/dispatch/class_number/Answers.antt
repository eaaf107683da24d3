-- `class_number`: the dispatch table agrees with the ranges at all of its 1,024 entries. They are computed and found equal to the constant's, and one
-- law says what stands at each.
use mathlib.Core.Path.{◌≡◌, ap, ◌∙◌}
use Prim.Native.Nat.{ℕ, ◌+◌, ◌*◌, ◌/◌, ◌%◌}
use native.Mathlib.Omega.{arith}
use Rattle.register.specs.Ranges.{ranges, range_in, range_at, class_at, class_number}
use Rattle.register.proofs.Map.{class_row, class_rows, class_rows_lem}
use Rattle.register.proofs.dispatch.class_number.Goals as goal

pub returns : goal.returns
unfolding class_rows class_row range_at range_in ranges
returns c =
    let place = c.args.place in
    let whole : 32 * (place / 32) + place % 32 ≡ place = omega arith in
    class_rows_lem (place / 32) (place % 32) (omega (arith, c.requires)) (omega arith)
    ∙ ap (λ (p : ℕ). class_number (class_at (4 * p))) whole
