-- How far an accepted Distributor access reaches: no number past its registers, and from a private register none past 31. Assumes nothing.
use mathlib.Core.Path.{◌≡◌, refl, ap, sym, subst, ◌∙◌}
use mathlib.Core.Bool.{Bool, true, false, cond, true≢false}
use mathlib.Core.Logic.{◌⊎◌, inl, inr}
use Prim.Native.Nat.{ℕ, ◌+◌, ◌-◌, ◌*◌, ◌%◌, ◌≤◌, ◌<◌}
use native.Mathlib.Nat.{le_trans, add-mul, mul_comm, mul-le-mul_right}
use native.Mathlib.Omega.{arith}
use lib.Dec.{ltb}
use borrow.Author.Tests.{eqb-true, ltb-true}
use Rattle.register.specs.declared.frame.AccessWidth.{AccessWidth}
use Rattle.register.specs.declared.frame.AccessWidth.TheVariants.{Byte, Word, Dword, Qword}
use Rattle.register.specs.declared.ranges.Class.{Class}
use Rattle.register.specs.declared.ranges.Class.TheVariants.{Ctlr, Typer, Iidr, Sgir, Bits, Bytes, Other}
use Rattle.register.specs.declared.ranges.RegisterRange.{RegisterRange}
use Rattle.register.specs.declared.distributor.Place.{Place}
use Rattle.register.specs.declared.distributor.DistributorAccess.{DistributorAccess}
use Rattle.register.specs.declared.distributor.DistributorAccess.TheVariants.{Refused, PrivateWidth, At}
use Rattle.register.specs.Distributor.{numbers_per_byte, private_bytes, first_number, is_private, place_at, plain, locate_distributor}
use Rattle.register.specs.Frame.{bytes, is_dword, is_qword, aligned}
use Rattle.register.specs.Ranges.{nowhere, range_at, class_at, range_of}
use Rattle.register.proofs.Ways.{is_single, each_access}
use Rattle.register.proofs.Map.{range_of_class, Whole, range_whole}
use Rattle.register.proofs.Private.{private_words, private_few}

-- one past the last number that an access at a place reaches
abbrev pub reach : Place → AccessWidth → ℕ
reach p width = p.first.0 + numbers_per_byte p.class * bytes width

-- how many numbers the registers of its class have, and a vCPU of its own
abbrev pub numbers : Place → ℕ
numbers p = cond p.private 32 ((range_of p.class).length * numbers_per_byte p.class)

abbrev Bound : AccessWidth → DistributorAccess → Type 0
Bound width (Refused r) = Unit
Bound width PrivateWidth = Unit
Bound width (At p) = reach p width ≤ numbers p

-- an aligned access of at most 4 bytes that starts in some whole words ends in them
ends : (width : AccessWidth) (first length offset : ℕ) → is_qword width ≡ false → aligned offset width ≡ true → first % 4 ≡ 0 → length % 4 ≡ 0 → offset < first + length → offset + bytes width ≤ first + length
ends Byte f l o q a i j h = omega arith
ends Word f l o q a i j h = let e : o % 2 ≡ 0 = eqb-true (o % 2) 0 a in omega arith
ends Dword f l o q a i j h = let e : o % 4 ≡ 0 = eqb-true (o % 4) 0 a in omega arith
ends Qword f l o q a i j h = absurd (true≢false q)

-- in numbers
scaled : (first length offset b n : ℕ) → first ≤ offset → offset + b ≤ first + length → (offset - first) * n + n * b ≤ length * n
scaled f l o b n i h =
    let near : o - f + b ≤ l = omega arith in
    subst (λ (m : ℕ). m ≤ l * n) (add-mul (o - f) b n ∙ ap (λ (m : ℕ). (o - f) * n + m) (mul_comm b n)) (mul-le-mul_right n near)

placed : (o : ℕ) (w : AccessWidth) → is_qword w ≡ false → aligned o w ≡ true → Bound w (At (place_at o))
unfolding place_at first_number is_private
placed o w q a = go (range_whole o)
  where
    f : ℕ
    f = (range_at o).first

    n : ℕ
    n = numbers_per_byte (class_at o)

    -- an access that starts in the first whole words of the range
    among : (length : ℕ) → Whole (range_at o) o → length % 4 ≡ 0 → o < f + length → (o - f) * n + n * bytes w ≤ length * n
    among length whole words near = scaled f length o (bytes w) n whole.starts_before (ends w f length o q a whole.first_word words near)

    shared : Whole (range_at o) o → (o - f) * n + n * bytes w ≤ (range_of (class_at o)).length * n
    shared whole =
        subst (λ (r : RegisterRange). (o - f) * n + n * bytes w ≤ r.length * n)
        (sym (range_of_class o))
        (among (range_at o).length whole whole.length_word whole.ends_behind)

    own : Whole (range_at o) o → o - f < private_bytes (class_at o) → (o - f) * n + n * bytes w ≤ 32
    own whole near =
        let start : f ≤ o = whole.starts_before in
        le_trans (among (private_bytes (class_at o)) whole (private_words o) (omega (arith, near))) (private_few o)

    parts : (private : Bool) → ltb (o - f) (private_bytes (class_at o)) ≡ private → Whole (range_at o) o → (o - f) * n + n * bytes w ≤ cond private 32 ((range_of (class_at o)).length * n)
    parts true e whole = own whole (ltb-true (o - f) (private_bytes (class_at o)) e)
    parts false e whole = shared whole

    At-range : RegisterRange → Type 0
    At-range r =
        (o - r.first) * numbers_per_byte r.class + numbers_per_byte r.class * bytes w
        ≤ cond (ltb (o - r.first) (private_bytes r.class)) 32
        ((range_of r.class).length * numbers_per_byte r.class)

    go : (range_at o ≡ nowhere) ⊎ Whole (range_at o) o → Bound w (At (place_at o))
    go (inl e) = subst At-range (sym e) (omega arith)
    go (inr whole) = parts (ltb (o - f) (private_bytes (class_at o))) refl whole

-- which widths are let through
not_qword : (w : AccessWidth) → is_dword w ≡ true → is_qword w ≡ false
not_qword Byte e = refl
not_qword Word e = refl
not_qword Dword e = refl
not_qword Qword e = absurd (true≢false (sym e))

-- a single register has no numbers
no_numbers : (c : Class) (w : AccessWidth) → is_single c ≡ true → Bound w (At (plain c))
no_numbers Ctlr w e = omega arith
no_numbers Typer w e = omega arith
no_numbers Iidr w e = omega arith
no_numbers Sgir w e = omega arith
no_numbers (Bits register) w e = absurd (true≢false (sym e))
no_numbers (Bytes register) w e = absurd (true≢false (sym e))
no_numbers Other w e = omega arith

pub reach_bound : (o : ℕ) (w : AccessWidth) (p : Place) → locate_distributor o w ≡ At p → reach p w ≤ numbers p
reach_bound o w p e =
    subst (Bound w) e
    (each_access o w (Bound w) (λ r k. tt) tt (λ c s. no_numbers c w s) (λ register is a d. placed o w (not_qword w d) a) (λ register is a q. placed o w q a))
