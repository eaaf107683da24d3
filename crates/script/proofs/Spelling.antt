-- A letter and numbers in decimal, with one space before each, are that letter and these numbers. Assumes nothing.
use mathlib.Core.Path.{◌≡◌, refl, sym, ap, ◌∙◌}
use mathlib.Core.Bool.{Bool, true, false, ◌&&◌, true≢false}
use mathlib.Core.List.{List, [], ◌∷◌, ◌++◌, map}
use Prim.Native.Nat.{ℕ, ◌≤◌, ◌<◌, ◌^◌}
use native.Mathlib.Omega.{arith}
use lib.Dec.{eqb, leb}
use lib.ListN.{length}
use borrow.Author.Tests.{ne_eqb, le-leb, leb-true}
use Rattle.std.specs.Prelude.{Option}
use Rattle.script.specs.declared.request.Numbers.{Numbers}
use Rattle.script.specs.declared.request.Numbers.TheVariants.{Zero}
use Rattle.script.specs.Request.{with_number, request_for}
use Rattle.script.specs.Line.{is_digit, digits_only, longer, fields, with_field, numbers_after, request_in, request_of}
use Rattle.script.specs.Text.{decimal}
use Rattle.script.proofs.Puts.{decimal_digits, decimal_read_back}

-- a space before each number
abbrev pub spaced : List ℕ → List ℕ
spaced [] = []
spaced (n ∷ ns) = 32 ∷ decimal n ++ spaced ns

-- the numbers, one by one
abbrev pub counted : Numbers → List ℕ → Numbers
counted numbers [] = numbers
counted numbers (n ∷ ns) = counted (with_number numbers n) ns

-- numbers up to 2^64-1
abbrev pub Small : List ℕ → Type 0
Small [] = Unit
Small (n ∷ ns) = (n < 2 ^ 64) × Small ns

-- a digit is no space
not_space : (b : ℕ) (x : Bool) → (is_digit b && x) ≡ true → (eqb b 32 ≡ false) × (x ≡ true)
not_space b x = go (leb 48 b) (leb b 57) refl
  where
    go : (low high : Bool) → leb 48 b ≡ low → ((low && high) && x) ≡ true → (eqb b 32 ≡ false) × (x ≡ true)
    go true true p e = (let h = leb-true 48 b p in ne_eqb b 32 (λ s. omega arith), e)
    go true false p e = absurd (true≢false (sym e))
    go false high p e = absurd (true≢false (sym e))

digits_then : (f rest : List ℕ) (fs : List (List ℕ)) → digits_only f ≡ true → fields rest ≡ [] ∷ fs → fields (f ++ rest) ≡ f ∷ fs
unfolding digits_only fields
digits_then [] rest fs d e = e
digits_then (b ∷ f) rest fs d e =
    let here = not_space b (digits_only f) d in
    simp here.0 (ap (longer b) (digits_then f rest fs here.1 e))

fields_spaced : (ns : List ℕ) → Small ns → fields (spaced ns) ≡ [] ∷ map decimal ns
unfolding fields
fields_spaced [] small = refl
fields_spaced (n ∷ ns) small = ap (λ (fs : List (List ℕ)). [] ∷ fs) (digits_then (decimal n) (spaced ns) (map decimal ns) (decimal_digits n small.0) (fields_spaced ns small.1))

numbers_counted : (numbers : Numbers) (ns : List ℕ) → Small ns → numbers_after numbers (map decimal ns) ≡ counted numbers ns
unfolding numbers_after
numbers_counted numbers [] small = refl
numbers_counted numbers (n ∷ ns) small =
    ap (λ (found : Option ℕ). numbers_after (with_field numbers found) (map decimal ns)) (decimal_read_back n small.0) ∙ numbers_counted (with_number numbers n) ns small.1

pub line_read_back : (letter : ℕ) (ns : List ℕ) → (letter ≡ 32 → ⊥) → Small ns → length (letter ∷ spaced ns) ≤ 80
    → request_of (letter ∷ spaced ns) ≡ request_for letter (counted Zero ns)
unfolding request_of request_in fields
line_read_back letter ns h small short =
    simp (le-leb (length (letter ∷ spaced ns)) 80 short, ne_eqb letter 32 h, fields_spaced ns small) (ap (request_for letter) (numbers_counted Zero ns small))
