-- A line read from the left, a field at a time, has the fields that its spaces part. Assumes nothing.
use mathlib.Core.Path.{◌≡◌, refl, ap, ◌∙◌, subst}
use mathlib.Core.Bool.{Bool, true, false, cond}
use mathlib.Core.List.{List, [], ◌∷◌}
use Prim.Native.Nat.{ℕ, suc, ◌+◌, ◌-◌, ◌≤◌, ◌<◌}
use native.Mathlib.Numerals.{add-one}
use native.Mathlib.Omega.{arith}
use lib.Dec.{eqb}
use lib.ListN.{length, get_or, drop, length-drop}
use lib.Seq.{drop-cons, drop-drop}
use borrow.Author.Tests.{eq-eqb, ne_eqb, eqb-true}
use Rattle.std.specs.Prelude.{Option, Some, None}
use Rattle.script.specs.declared.number.Field.{Field}
use Rattle.script.specs.declared.request.Numbers.{Numbers}
use Rattle.script.specs.declared.request.Numbers.TheVariants.{Zero, Other}
use Rattle.script.specs.Request.{with_number, request_for}
use Rattle.script.specs.Line.{is_number, value_after, field_number, longer, fields, with_field, numbers_after, request_in}
use Rattle.script.specs.Reading.{first_field, fields_after, parsed, number_at}
use Rattle.script.proofs.Digits.{cond_same}

fields_first : (s : List ℕ) → fields s ≡ first_field s ∷ fields_after (drop (length (first_field s)) s)
unfolding fields first_field
fields_first [] = refl
fields_first (b ∷ bs) = go (eqb b 32) (fields_first bs)
  where
    go : (x : Bool) → fields bs ≡ first_field bs ∷ fields_after (drop (length (first_field bs)) bs) → cond x ([] ∷ fields bs) (longer b (fields bs))
        ≡ cond x [] (b ∷ first_field bs) ∷ fields_after (drop (length (cond x [] (b ∷ first_field bs))) (b ∷ bs))
    go true rest = refl
    go false rest = ap (longer b) rest

first_inside : (s : List ℕ) → length (first_field s) ≤ length s
unfolding first_field
first_inside [] = omega arith
first_inside (b ∷ bs) = go (eqb b 32) (first_inside bs)
  where
    go : (x : Bool) → length (first_field bs) ≤ length bs → length (cond x [] (b ∷ first_field bs)) ≤ suc (length bs)
    go true h = omega arith
    go false h = omega arith

spoilt : (fs : List (List ℕ)) → numbers_after Other fs ≡ Other
unfolding numbers_after
spoilt [] = refl
spoilt (f ∷ fs) = go (field_number f) (spoilt fs)
  where
    go : (n : Option ℕ) → numbers_after Other fs ≡ Other → numbers_after (with_field Other n) fs ≡ Other
    go (Some n) rest = rest
    go None rest = rest

module _ (line : List ℕ) (at : ℕ) (space : at < length line) where
  -- the field after a space, and the fields after it
  one_field : fields_after (drop at line) ≡ first_field (drop (at + 1) line) ∷ fields_after (drop (at + 1 + length (first_field (drop (at + 1) line))) line)
  one_field =
      rw (drop-cons line at 0 space, ← add-one at)
      (fields_first (drop (at + 1) line) ∙ rw drop-drop)

  module _ (numbers : Numbers) where
    pub numbers_none : number_at line (at + 1) ≡ None → numbers_after numbers (fields_after (drop at line)) ≡ Other
    unfolding number_at numbers_after field_number
    numbers_none e = rw one_field (go (is_number f) e)
      where
        f : List ℕ
        f = first_field (drop (at + 1) line)

        go : (b : Bool) → cond b (parsed (value_after 0 f) (at + 1 + length f)) None ≡ None
            → numbers_after (with_field numbers (cond b (Some (value_after 0 f)) None)) (fields_after (drop (at + 1 + length f) line)) ≡ Other
        go true p = let z : ◌≡◌ {A = ℕ} 0 1 = cc in absurd (omega arith)
        go false p = spoilt (fields_after (drop (at + 1 + length f) line))

    pub numbers_more : (field : Field) → number_at line (at + 1) ≡ Some field
        → numbers_after numbers (fields_after (drop at line)) ≡ numbers_after (with_number numbers field.value) (fields_after (drop field.next line))
    unfolding number_at numbers_after field_number
    numbers_more field e = rw one_field (go (is_number f) e)
      where
        f : List ℕ
        f = first_field (drop (at + 1) line)

        go : (b : Bool) → cond b (parsed (value_after 0 f) (at + 1 + length f)) None ≡ Some field
            → numbers_after (with_field numbers (cond b (Some (value_after 0 f)) None)) (fields_after (drop (at + 1 + length f) line))
            ≡ numbers_after (with_number numbers field.value) (fields_after (drop field.next line))
        go true p =
            let same : record { value = value_after 0 f; next = at + 1 + length f } ≡ field = cc in
            ap (λ (x : Field). numbers_after (with_number numbers x.value) (fields_after (drop x.next line))) same
        go false p = let z : ◌≡◌ {A = ℕ} 0 1 = cc in absurd (omega arith)

  -- a field lies in the line
  pub next_inside : (field : Field) → number_at line (at + 1) ≡ Some field → (at < field.next) × (field.next ≤ length line)
  unfolding number_at
  next_inside field = go (is_number f)
    where
      f : List ℕ
      f = first_field (drop (at + 1) line)

      go : (b : Bool) → cond b (parsed (value_after 0 f) (at + 1 + length f)) None ≡ Some field → (at < field.next) × (field.next ≤ length line)
      go true p =
          let same : record { value = value_after 0 f; next = at + 1 + length f } ≡ field = cc in
          let inside : length f ≤ length line - (at + 1) = rw (← length-drop) (first_inside (drop (at + 1) line)) in
          subst (λ (x : Field). (at < x.next) × (x.next ≤ length line)) same (omega arith, omega arith)
      go false p = let z : ◌≡◌ {A = ℕ} 0 1 = cc in absurd (omega arith)

-- no form has a letter alone, or no letter
pub short : (line : List ℕ) → length line < 2 → request_in (fields line) ≡ None
unfolding request_in fields numbers_after request_for
short [] h = refl
short (a ∷ []) h = go (eqb a 32)
  where
    go : (x : Bool) → request_in (cond x ([] ∷ [] ∷ []) ((a ∷ []) ∷ [])) ≡ None
    go true = refl
    go false = simp cond_same
short (a ∷ b ∷ bs) h = absurd (omega arith)

-- a letter, and a space after it
pub spaced : (line : List ℕ) → 1 < length line → get_or line 1 0 ≡ 32 → request_in (fields line) ≡ request_for (get_or line 0 0) (numbers_after Zero (fields_after (drop 1 line)))
unfolding request_in fields request_for
spaced [] h e = absurd (omega arith)
spaced (a ∷ []) h e = absurd (omega arith)
spaced (a ∷ b ∷ bs) h e = simp (eq-eqb b 32 e) (go (eqb a 32) refl)
  where
    go : (x : Bool) → eqb a 32 ≡ x → request_in (cond x ([] ∷ [] ∷ fields bs) ((a ∷ []) ∷ fields bs)) ≡ request_for a (numbers_after Zero (fields bs))
    go true p = simp (eqb-true a 32 p)
    go false p = refl

-- a letter, and something else after it
pub run_on : (line : List ℕ) → 1 < length line → (get_or line 1 0 ≡ 32 → ⊥) → request_in (fields line) ≡ None
unfolding request_in fields
run_on [] h e = absurd (omega arith)
run_on (a ∷ []) h e = absurd (omega arith)
run_on (a ∷ b ∷ bs) h e = simp (ne_eqb b 32 e) (go (eqb a 32) (fields bs))
  where
    go : (x : Bool) (fs : List (List ℕ)) → request_in (cond x ([] ∷ longer b fs) (longer a (longer b fs))) ≡ None
    go true fs = refl
    go false [] = refl
    go false (f ∷ fs) = refl
