-- How `feed` and `feed_rest` go about it: a byte at a time, with 81 bytes at most kept of a line. A reader need not believe any of it; the
-- promise is in Runner.antt, and `whole_input` in proofs/Whole.antt shows that what the two put, one after another, is what that says.
use Rattle.std.specs.Prelude.{cond, List, [], ◌∷◌, ◌++◌, ◌⊎◌, ◌≡◌, ℕ, ◌+◌, ◌≤◌, ◌<◌, eqb, ltb, length, take}
use Rattle.std.proofs.Math.Seq.{slice}
use Rattle.answer.specs.Answer.{Answer, refusal_in, value_in, wake_in, retired_in}
use Rattle.script.specs.Text.{answer_text, PutText}
use Rattle.runner.specs.declared.blocks.Progress.{Progress}
use Rattle.runner.specs.Runner.{Printed, line_answer, Prints}

abbrev pub text_of : Answer → List ℕ
text_of a = answer_text (refusal_in a) (value_in a) (wake_in a) (retired_in a)

-- what is printed, the line that has begun, and the words
pub record FeedState : Type 0 where
  pub text : List ℕ
  pub line : List ℕ
  pub state : List ℕ

-- of a line 81 bytes are kept: that it has more than 80 is all that counts then
abbrev pub kept_line : List ℕ → ℕ → List ℕ
kept_line line b = cond (ltb (length line) 81) (line ++ b ∷ []) line

abbrev pub text_then : List ℕ → FeedState → FeedState
text_then text run = record { text = text ++ run.text; line = run.line; state = run.state }

-- the bytes, after a line that has begun
unfoldable pub ran : List ℕ → List ℕ → List ℕ → FeedState
ran [] line s = record { text = []; line = line; state = s }
ran (b ∷ bs) line s =
    cond (eqb b 10) (text_then (line_answer line s).text (ran bs [] (line_answer line s).state)) (ran bs (kept_line line b) s)

-- at the end of the input: a line that has begun is answered, and where none has nothing is
unfoldable pub rest_printed : List ℕ → List ℕ → Printed
rest_printed line s = cond (ltb 0 (length line)) (line_answer line s) (record { text = []; state = s })

-- bytes for a line, n of which are taken
pub record Begun (n : ℕ) (line : List ℕ) : Type 0 where
  pub some : n ≤ 81
  pub line_room : 81 ≤ length line

-- and room for an answer
pub record RoomToAnswer (n : ℕ) (line : List ℕ) (at : ℕ) (out : List ℕ) : Type 0 where
  pub begun : Begun n line
  pub room : at + 30 ≤ length out

-- the bytes were run: the first n bytes of `line` are the line that has begun, before and after
pub record BytesRun (bytes : List ℕ) (n : ℕ) (line words : List ℕ) (n' : ℕ) (line' words' : List ℕ) : Type 0 where
  pub within : n' ≤ 81
  pub partial : take n' line' ≡ (ran bytes (take n line) words).line
  pub state : words' ≡ (ran bytes (take n line) words).state

-- and their text was put into `out` at `at`
pub record Ran (bytes : List ℕ) (n : ℕ) (line words : List ℕ) (at : ℕ) (out : List ℕ) (n' : ℕ) (line' words' : List ℕ) (at' : ℕ) (out' : List ℕ) : Type 0 where
  pub went : BytesRun bytes n line words n' line' words'
  pub put : PutText (ran bytes (take n line) words).text at out out' at'

-- of the input the bytes from `from` up to where it stopped were run; it stops at the end, or where no further answer fits
pub record Fed (input : List ℕ) (from n : ℕ) (line words out : List ℕ) (r : Progress) (line' words' out' : List ℕ) : Type 0 where
  pub onward : from ≤ r.consumed
  pub inside : r.consumed ≤ length input
  pub run : Ran (slice from r.consumed input) n line words 0 out r.length line' words' r.produced out'
  pub stopped : (r.consumed ≡ length input) ⊎ (length out < r.produced + 30)

-- the rest was answered, in words that are words' then, and its text put at the start of `out`
pub record RestAnswered (n : ℕ) (line words words' out out' : List ℕ) : Type 0 where
  pub end : ℕ
  pub answered : Prints (rest_printed (take n line) words) 0 words' out out' end

-- calls of `feed`, the first with no line begun and each from where the one before it left line and words: the bytes that they read, the text
-- that they put, and what the last one left
pub data Turns (words : List ℕ) : List ℕ → List ℕ → ℕ → List ℕ → List ℕ → Type 0 where
  unfed : {line : List ℕ} → Turns words [] [] 0 line words
  fed_on : {bytes text : List ℕ} {n : ℕ} {line words₁ : List ℕ} {input : List ℕ} {from : ℕ} {out : List ℕ} {r : Progress} {line' words' out' : List ℕ}
      → Turns words bytes text n line words₁ → Fed input from n line words₁ out r line' words' out'
      → Turns words (bytes ++ slice from r.consumed input) (text ++ take r.produced out') r.length line' words'
