-- The text of an answer: document 01, "The runner's lines": "It prints refusal, value, wake set and retired number (1023 for none). A line of any
-- other form prints `?`"; by its example the numbers are decimal, with one space between, and a newline ends them.
use Rattle.std.specs.Prelude.{cond, List, [], ◌∷◌, ◌++◌, ◌≡◌, ℕ, zero, suc, ◌+◌, ◌/◌, ◌%◌, ◌≤◌, ltb, length}
use Rattle.std.proofs.lemmas.List.Edits.{sets}
use Rattle.script.specs.declared.text.Writer.{Writer}

-- the decimal digits of a number of at most k digits, without leading zeros
unfoldable pub decimal_within : ℕ → ℕ → List ℕ
decimal_within zero n = []
decimal_within (suc k) n = cond (ltb n 10) ((48 + n) ∷ []) (decimal_within k (n / 10) ++ (48 + n % 10) ∷ [])

-- a number below 2^64 has at most 20
unfoldable pub decimal : ℕ → List ℕ
decimal n = decimal_within 20 n

-- 32 is a space, 10 a newline
unfoldable pub answer_text : ℕ → ℕ → ℕ → ℕ → List ℕ
answer_text refusal value wake retired =
    (decimal refusal ++ 32 ∷ []) ++ (decimal value ++ 32 ∷ []) ++ (decimal wake ++ 32 ∷ []) ++ (decimal retired ++ 10 ∷ [])

-- `?`
abbrev pub unknown_text : List ℕ
unknown_text = 63 ∷ 10 ∷ []

-- the whole text stands in the bytes from `at` up, and nothing else changed
pub record PutText (text : List ℕ) (at : ℕ) (before after : List ℕ) (end : ℕ) : Type 0 where
  pub fits : at + length text ≤ length before
  pub bytes : after ≡ sets before at text
  pub past : end ≡ at + length text

-- a writer put the text: its next place is then the end, and it still writes to the same bytes
pub record Puts (text : List ℕ) (before after : Writer) : Type 0 where
  pub put : PutText text before.at before.out.now after.out.now after.at
  pub same_reference : after.out.ghost_name ≡ before.out.ghost_name
