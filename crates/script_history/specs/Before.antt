-- Until a controller is set up: document 01, "The runner's lines": "Before an accepted `n`, calls answer 6; a refused `n` keeps the earlier
-- state", and "Refusal numbers": 4 is "setup: count or limit outside the limits above", 5 "setup: the lent state is too short".
use Rattle.std.specs.Prelude.{Bool, true, false, not, cond, ◌&&◌, List, [], ◌∷◌, ◌++◌, ℕ, eqb, Option, Some, None}
use Rattle.state.specs.Lent.{in_limits}
use Rattle.script.specs.Line.{request_of}
use Rattle.script.specs.Text.{answer_text, unknown_text}
use Rattle.runner.specs.Runner.{line_answer}
use Rattle.history.specs.History.{Call, Deed, Starts, Acts, deed, is_start, called}
use Rattle.script_history.specs.ScriptHistory.{call_of}

-- a line's call that is an accepted `n`: no line asks for a load
abbrev pub is_accepted : Option Call → List ℕ → Bool
is_accepted None s = false
is_accepted (Some c) s = is_start c && eqb (called c s).refusal 0

-- lines none of which is one, each in the words that those before it left
unfoldable pub none_accepted : List (List ℕ) → List ℕ → Bool
none_accepted [] s = true
none_accepted (line ∷ lines) s = not (is_accepted (call_of (request_of line)) s) && none_accepted lines (line_answer line s).state

-- what such lines print: a refusal, or `?`
abbrev pub refusal_before : Deed → ℕ
refusal_before (Starts count limit) = cond (in_limits count limit) 5 4
refusal_before (Acts a) = 6

abbrev pub text_before : Option Call → List ℕ
text_before None = unknown_text
text_before (Some c) = answer_text (refusal_before (deed c)) 0 0 1023

unfoldable pub texts_before : List (List ℕ) → List ℕ
texts_before [] = []
texts_before (line ∷ lines) = text_before (call_of (request_of line)) ++ texts_before lines
