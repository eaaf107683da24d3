-- The form of a line: document 01, "The runner's lines": "Lines of at most 80 bytes before the newline (the last may lack it), decimal numbers
-- up to 2^64-1, leading zeros allowed, one space between fields". A line is the list of its bytes, without the newline.
use Rattle.std.specs.Prelude.{Bool, true, cond, ◌&&◌, List, [], ◌∷◌, ℕ, ◌+◌, ◌-◌, ◌*◌, ◌^◌, eqb, leb, ltb, length, Option, Some, None}
use Rattle.script.specs.declared.request.Numbers.{Numbers}
use Rattle.script.specs.declared.request.Numbers.TheVariants.{Zero, Other}
use Rattle.script.specs.declared.request.Request.{Request}
use Rattle.script.specs.Request.{with_number, request_for}

-- `0` to `9`
abbrev pub is_digit : ℕ → Bool
is_digit b = leb 48 b && leb b 57

unfoldable pub digits_only : List ℕ → Bool
digits_only [] = true
digits_only (b ∷ bs) = is_digit b && digits_only bs

-- what digits stand for that follow others, which stand for v
unfoldable pub value_after : ℕ → List ℕ → ℕ
value_after v [] = v
value_after v (b ∷ bs) = value_after (10 * v + (b - 48)) bs

unfoldable pub is_number : List ℕ → Bool
is_number field = ltb 0 (length field) && digits_only field && ltb (value_after 0 field) (2 ^ 64)

unfoldable pub field_number : List ℕ → Option ℕ
field_number field = cond (is_number field) (Some (value_after 0 field)) None

-- the bytes of a line between its spaces: one field more than there are spaces
abbrev pub longer : ℕ → List (List ℕ) → List (List ℕ)
longer b [] = (b ∷ []) ∷ []
longer b (f ∷ fs) = (b ∷ f) ∷ fs

unfoldable pub fields : List ℕ → List (List ℕ)
fields [] = [] ∷ []
fields (b ∷ bs) = cond (eqb b 32) ([] ∷ fields bs) (longer b (fields bs))

-- the numbers of fields that follow others: a field that is no number spoils all
abbrev pub with_field : Numbers → Option ℕ → Numbers
with_field numbers (Some n) = with_number numbers n
with_field numbers None = Other

unfoldable pub numbers_after : Numbers → List (List ℕ) → Numbers
numbers_after numbers [] = numbers
numbers_after numbers (f ∷ fs) = numbers_after (with_field numbers (field_number f)) fs

-- a letter, and numbers
unfoldable pub request_in : List (List ℕ) → Option Request
request_in [] = None
request_in ([] ∷ fs) = None
request_in ((letter ∷ []) ∷ fs) = request_for letter (numbers_after Zero fs)
request_in ((a ∷ b ∷ bs) ∷ fs) = None

unfoldable pub request_of : List ℕ → Option Request
request_of line = cond (leb (length line) 80) (request_in (fields line)) None
