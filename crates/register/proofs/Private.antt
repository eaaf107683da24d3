-- The private registers by their numbers: those that document 01 lists, and `is_private` with it, have the numbers below 32 of the bit registers
-- and of the priority bytes, in whole words. Assumes nothing.
use mathlib.Core.Path.{◌≡◌, ap, subst⁻¹, ◌∙◌}
use mathlib.Core.Bool.{Bool, true, false, cond, ◌&&◌}
use Prim.Native.Nat.{ℕ, zero, suc, suc-le-suc, ◌-◌, ◌*◌, ◌%◌, ◌≤◌, ◌<◌}
use native.Mathlib.Nat.{zero-mul, le_of_suc-le-suc, le_of_mul-le-mul_right, lt_of_mul-lt-mul_right}
use native.Mathlib.Omega.{arith}
use lib.Dec.{T, eqb, ltb, eqb→eq}
use borrow.Author.Tests.{le-ltb}
use Rattle.register.specs.declared.ranges.Class.{Class}
use Rattle.register.specs.declared.ranges.Class.TheVariants.{Ctlr, Typer, Iidr, Sgir, Bits, Bytes, Other}
use Rattle.register.specs.declared.ranges.RegisterRange.{RegisterRange}
use Rattle.register.specs.Distributor.{numbers_per_byte, private_bytes, first_number, is_private}
use Rattle.register.specs.Finding.{is_priority}
use Rattle.register.specs.Ranges.{ranges, nowhere, range_at, class_at, range_numbered}
use Rattle.register.proofs.Map.{by_row}
use Rattle.register.proofs.Table.{at}
use Rattle.register.proofs.Tests.{both_left, both_right, leb_same}

-- the classes of which each vCPU has its own for the numbers below 32
abbrev pub is_banked : Class → Bool
is_banked Ctlr = false
is_banked Typer = false
is_banked Iidr = false
is_banked Sgir = false
is_banked (Bits register) = true
is_banked (Bytes register) = is_priority register
is_banked Other = false

-- p private bytes, of n numbers each, are whole words ..
abbrev whole : ℕ → Bool
whole p = eqb (p % 4) 0

-- .. and have 32 numbers, or there are none
abbrev filled : Bool → ℕ → ℕ → Bool
filled banked p n = cond banked (eqb (p * n) 32) (eqb p 0)

few : (banked : Bool) (p n : ℕ) → T (filled banked p n) → p * n ≤ 32
few true p n t = let e : p * n ≡ 32 = eqb→eq (p * n) 32 t in omega arith
few false p n t = simp (eqb→eq p 0 t, zero-mul) (omega arith)

-- a byte is one of the p exactly where its first number is below 32
counted : (d p n : ℕ) → p * n ≡ 32 → ltb d p ≡ ltb (d * n) 32
counted d p zero e = let no : ⊥ = omega (arith, e) in absurd no
counted d p (suc n) e =
    leb_same (suc (d * suc n)) 32 (suc d) p
    (λ i. lt_of_mul-lt-mul_right (suc n) (subst⁻¹ (λ (m : ℕ). d * suc n < m) e i))
    (λ i. suc-le-suc (le_of_mul-le-mul_right (subst⁻¹ (λ (m : ℕ). m ≤ d * suc n) e (le_of_suc-le-suc i)) (omega arith)))

below : (banked : Bool) (d p n : ℕ) → T (filled banked p n) → ltb d p ≡ (banked && ltb (d * n) 32)
below true d p n t = counted d p n (eqb→eq (p * n) 32 t)
below false d p n t = ap (ltb d) (eqb→eq p 0 t) ∙ le-ltb d 0 (omega arith)

-- so it is in each row
proper : ℕ → RegisterRange → Bool
proper i r = whole (private_bytes r.class) && filled (is_banked r.class) (private_bytes r.class) (numbers_per_byte r.class)

is_proper : (o : ℕ) → T (proper 0 (range_at o))
unfolding proper range_numbered ranges
is_proper o = by_row (λ r. T (proper 0 r)) o (λ i h t. at proper ranges tt i nowhere h) tt

module _ (o : ℕ) where
  abbrev p : ℕ
  p = private_bytes (class_at o)

  abbrev n : ℕ
  n = numbers_per_byte (class_at o)

  abbrev banked : Bool
  banked = is_banked (class_at o)

  fills : T (filled banked p n)
  unfolding proper
  fills = both_right (whole p) (filled banked p n) (is_proper o)

  pub private_words : private_bytes (class_at o) % 4 ≡ 0
  unfolding proper
  private_words = eqb→eq (p % 4) 0 (both_left (whole p) (filled banked p n) (is_proper o))

  -- an access to private bytes reaches no number past 31
  pub private_few : private_bytes (class_at o) * numbers_per_byte (class_at o) ≤ 32
  private_few = few banked p n fills

  -- 01's list comes to the numbers below 32 of the banked classes
  pub private_below : is_private o ≡ (is_banked (class_at o) && ltb (first_number o) 32)
  unfolding is_private first_number
  private_below = below banked (o - (range_at o).first) p n fills
