-- How `parse_line` goes about it: from the left, a field at a time. A reader need not believe any of it; the promise is in Line.antt.
use Rattle.std.specs.Prelude.{cond, ◌&&◌, List, [], ◌∷◌, ℕ, ◌+◌, ◌-◌, ◌*◌, ◌^◌, eqb, ltb, length, drop, Option, Some, None}
use Rattle.script.specs.declared.number.Field.{Field}
use Rattle.script.specs.Line.{is_digit, value_after, is_number, fields}

-- the first field
unfoldable pub first_field : List ℕ → List ℕ
first_field [] = []
first_field (b ∷ bs) = cond (eqb b 32) [] (b ∷ first_field bs)

-- the fields after a space, at which the text begins
abbrev pub fields_after : List ℕ → List (List ℕ)
fields_after [] = []
fields_after (b ∷ bs) = fields bs

unfoldable pub digit_after : ℕ → ℕ → Option ℕ
digit_after v b = cond (is_digit b && ltb (10 * v + (b - 48)) (2 ^ 64)) (Some (10 * v + (b - 48))) None

abbrev pub parsed : ℕ → ℕ → Option Field
parsed value next = Some (record { value = value; next = next })

abbrev pub ended_at : ℕ → ℕ → ℕ → Option Field
ended_at from to value = cond (ltb from to) (parsed value to) None

unfoldable pub number_at : List ℕ → ℕ → Option Field
number_at line at =
    cond (is_number (first_field (drop at line)))
    (parsed (value_after 0 (first_field (drop at line))) (at + length (first_field (drop at line))))
    None
