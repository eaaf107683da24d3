-- A byte at a time, with 81 bytes kept of a line, the runner prints what its lines ask for. Assumes nothing.
use mathlib.Core.Path.{◌≡◌, refl, ap, ◌∙◌}
use mathlib.Core.Bool.{Bool, true, false, cond}
use mathlib.Core.List.{List, [], ◌∷◌, ◌++◌, append_assoc, append-nil}
use Prim.Native.Nat.{ℕ, ◌≤◌, ◌<◌}
use native.Mathlib.Nat.{zero-add}
use native.Mathlib.Omega.{arith}
use lib.Dec.{eqb, ltb}
use lib.ListN.{length, take, drop, length-append}
use lib.Seq.{slice, sets-eq, length-take-le, take_all, take-append-le, take-append_seam}
use borrow.Author.Tests.{lt-ltb, lt-leb, ltb-true, ltb-false}
use Rattle.script.specs.Line.{request_of}
use Rattle.script.specs.Text.{PutText}
use Rattle.runner.specs.Runner.{Printed, asked_printed, line_answer, text_first, lines_printed, lines_after, printed, Prints}
use Rattle.runner.specs.Feeding.{FeedState, kept_line, text_then, ran, rest_printed, Turns, unfed, fed_on}
use Rattle.runner.proofs.Running.{ran_append}

-- one way or the other
short_or {ℓ} : {X : Type ℓ} (line : List ℕ) → (length line < 81 → X) → (81 ≤ length line → X) → X
short_or {X = X} line short long = go (ltb (length line) 81) refl
  where
    go : (b : Bool) → ltb (length line) 81 ≡ b → X
    go true e = short (ltb-true (length line) 81 e)
    go false e = long (ltb-false (length line) 81 e)

-- of a line of more than 80 bytes no more counts
request_kept : (line : List ℕ) → request_of (take 81 line) ≡ request_of line
unfolding request_of
request_kept line =
    short_or line (λ h. rw (take_all 81 line (omega arith)))
    (λ h. let few = length-take-le 81 line h in simp (few, lt-leb (length line) 80 (omega arith)))

answer_kept : (line s : List ℕ) → line_answer (take 81 line) s ≡ line_answer line s
unfolding line_answer
answer_kept line s = ap (λ r. asked_printed r s) (request_kept line)

kept_more : (line : List ℕ) (b : ℕ) → kept_line (take 81 line) b ≡ take 81 (line ++ b ∷ [])
kept_more line b =
    short_or line
    (λ h. let whole : length (line ++ b ∷ []) ≤ 81 = rw length-append (omega arith) in
    rw (take_all 81 line (omega arith), take_all 81 (line ++ b ∷ []) whole) (simp (lt-ltb (length line) 81 h)))
    (λ h. let few = length-take-le 81 line h in rw (take-append-le 81 line (b ∷ []) h) (simp few))

begun_kept : (line : List ℕ) → ltb 0 (length (take 81 line)) ≡ ltb 0 (length line)
begun_kept line =
    short_or line (λ h. rw (take_all 81 line (omega arith)))
    (λ h. let few = length-take-le 81 line h in simp (few, lt-ltb 0 (length line) (omega arith)))

-- a rest is a line, if there is one
rest : (line s : List ℕ) → rest_printed (take 81 line) s ≡ lines_printed (lines_after line []) s
unfolding rest_printed lines_after lines_printed
rest line s = rw (begun_kept line, answer_kept line s) (go (ltb 0 (length line)))
  where
    go : (b : Bool) → cond b (line_answer line s) (record { text = []; state = s }) ≡ lines_printed (cond b (line ∷ []) []) s
    go true = rw append-nil
    go false = refl

-- what a run prints, with its rest
abbrev ended : FeedState → Printed
ended r = text_first r.text (rest_printed r.line r.state)

line_by_line : (input line s : List ℕ) → ended (ran input (take 81 line) s) ≡ lines_printed (lines_after line input) s
unfolding ran lines_after lines_printed
line_by_line [] line s = rest line s
line_by_line (b ∷ bs) line s =
    rw (answer_kept line s, kept_more line b) (go (eqb b 10) (line_by_line bs [] (line_answer line s).state) (line_by_line bs (line ++ b ∷ []) s))
  where
    text : List ℕ
    text = (line_answer line s).text

    left : List ℕ
    left = (line_answer line s).state

    go : (x : Bool) → ended (ran bs [] left) ≡ lines_printed (lines_after [] bs) left
        → ended (ran bs (take 81 (line ++ b ∷ [])) s) ≡ lines_printed (lines_after (line ++ b ∷ []) bs) s
        → ended (cond x (text_then text (ran bs [] left)) (ran bs (take 81 (line ++ b ∷ [])) s)) ≡ lines_printed (cond x (line ∷ lines_after [] bs) (lines_after (line ++ b ∷ []) bs)) s
    go true next more = rw append_assoc (ap (text_first text) next)
    go false next more = more

put_text : {x s s' : List ℕ} {end : ℕ} → PutText x 0 s s' end → take end s' ≡ x
put_text {x} {s} p = rw (p.past, p.bytes, sets-eq x s 0 p.fits) (simp zero-add (take-append_seam x (drop (length x) s)))

turns_ran : {words bytes text : List ℕ} {n : ℕ} {line words' : List ℕ} → Turns words bytes text n line words'
    → ran bytes [] words ≡ record { text = text; line = take n line; state = words' }
unfolding ran
turns_ran unfed = refl
turns_ran {words} (fed_on {bytes} {input} {from} {r} before fed) =
    ran_append bytes (slice from r.consumed input) [] words
    ∙ rw (turns_ran before, put_text fed.run.put, fed.run.went.partial, fed.run.went.state) refl

-- all that `feed` puts, one call after another, and after it what `feed_rest` puts: it is what the program has to print for all the bytes
pub whole_input : {words input text : List ℕ} {n : ℕ} {line words' words'' out out' : List ℕ} {end : ℕ} → Turns words input text n line words'
    → Prints (rest_printed (take n line) words') 0 words'' out out' end → record { text = text ++ take end out'; state = words'' } ≡ printed input words
whole_input {words} {input} turns p = rw (put_text p.put, p.state) (rw (turns_ran turns) at (line_by_line input [] words))
