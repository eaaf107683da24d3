-- `bit_place` is `place_at` where a bit register is.
-- a distance in the frame, in numbers
use mathlib.Core.Path.{◌≡◌, subst⁻¹}
use Prim.Native.Nat.{ℕ, ◌*◌, ◌^◌, ◌≤◌, ◌<◌}
use native.Mathlib.Nat.{lt_of_le_of_lt, mul-le-mul_left}
use native.Mathlib.Omega.{arith}
use borrow.Author.Rules.{rules}
use Rattle.register.specs.declared.ranges.BitRegister.{BitRegister}
use Rattle.register.specs.Distributor.{bit_numbers_per_byte, place_at, first_number}
use Rattle.register.proofs.Map.{few_numbers}
use Rattle.register.proofs.Private.{private_below}
use Rattle.register.proofs.distributor.bit_place.Goals as goal

small-first : {n : ℕ} (d : ℕ) (r : BitRegister) → n ≡ bit_numbers_per_byte r → d < 0x1000 → d * n < 2 ^ 15
small-first {n} d r e h =
    let few : n ≤ 8 = subst⁻¹ (λ (k : ℕ). k ≤ 8) e (few_numbers r) in
    lt_of_le_of_lt (mul-le-mul_left d few) (omega arith)

pub overflow_mul-first : goal.overflow_mul-first
overflow_mul-first c =
    let near : c.distance.result < 0x1000 = search rules in
    let small : c.distance.result * c.numbers_per_byte.result < 2 ^ 15 =
    small-first c.distance.result c.args.register c.numbers_per_byte.ensures near
    in search rules

pub returns : goal.returns
unfolding place_at first_number
returns c = simp (c.is_private.ensures, private_below c.args.offset, ← c.requires.class_is, c.distance.ensures, c.numbers_per_byte.ensures)
