-- The division of the input into blocks does not count: bytes run after bytes are all of them run. Assumes nothing.
use mathlib.Core.Logic.{⊎_elim}
use mathlib.Core.Path.{◌≡◌, refl, sym, ap, ◌∙◌, subst}
use mathlib.Core.Bool.{Bool, true, false, cond}
use mathlib.Core.List.{List, [], ◌∷◌, ◌++◌, append_assoc, append-nil}
use Prim.Native.Nat.{ℕ, ◌+◌, ◌≤◌, ◌<◌}
use native.Mathlib.Numerals.{add-one}
use native.Mathlib.Omega.{arith}
use lib.Dec.{eqb, ltb}
use lib.ListN.{length, get_or, take, set, take-append-drop}
use lib.Seq.{slice, slice_empty, take-take, take-suc, take-suc-set, length-take-le, drop-append-le}
use borrow.Author.Tests.{lt-ltb, le-ltb, eq-eqb, ne_eqb, ltb-true, ltb-false}
use Rattle.script.specs.Text.{PutText}
use Rattle.runner.specs.declared.blocks.Progress.{Progress}
use Rattle.script.proofs.Puts.{put_then}
use Rattle.runner.specs.Runner.{line_answer, Prints}
use Rattle.runner.specs.Feeding.{FeedState, kept_line, text_then, ran, rest_printed, BytesRun, Ran, Fed}

pub ran_append : (a b line s : List ℕ) → ran (a ++ b) line s ≡ text_then (ran a line s).text (ran b (ran a line s).line (ran a line s).state)
unfolding ran
ran_append [] b line s = refl
ran_append (c ∷ a) b line s = go (eqb c 10) (ran_append a b [] (line_answer line s).state) (ran_append a b (kept_line line c) s)
  where
    go : (x : Bool) → ran (a ++ b) [] (line_answer line s).state
        ≡ text_then (ran a [] (line_answer line s).state).text (ran b (ran a [] (line_answer line s).state).line (ran a [] (line_answer line s).state).state)
        → ran (a ++ b) (kept_line line c) s ≡ text_then (ran a (kept_line line c) s).text (ran b (ran a (kept_line line c) s).line (ran a (kept_line line c) s).state)
        → cond x (text_then (line_answer line s).text (ran (a ++ b) [] (line_answer line s).state)) (ran (a ++ b) (kept_line line c) s)
        ≡ text_then (cond x (text_then (line_answer line s).text (ran a [] (line_answer line s).state)) (ran a (kept_line line c) s)).text
        (ran b (cond x (text_then (line_answer line s).text (ran a [] (line_answer line s).state)) (ran a (kept_line line c) s)).line
        (cond x (text_then (line_answer line s).text (ran a [] (line_answer line s).state)) (ran a (kept_line line c) s)).state)
    go true answered same = rw answered (simp append_assoc)
    go false answered same = same

put_none : (at : ℕ) (out : List ℕ) → at ≤ length out → PutText [] at out out at
put_none at out h = record { fits = omega arith; bytes = refl; past = omega arith }

run_newline : (b : ℕ) (line s : List ℕ) → b ≡ 10
    → ran (b ∷ []) line s ≡ record { text = (line_answer line s).text; line = []; state = (line_answer line s).state }
unfolding ran
run_newline b line s e = simp (eq-eqb b 10 e, append-nil)

run_byte : (b : ℕ) (line s : List ℕ) → (b ≡ 10 → ⊥) → ran (b ∷ []) line s ≡ record { text = []; line = kept_line line b; state = s }
unfolding ran
run_byte b line s e = simp (ne_eqb b 10 e)

module _ (n : ℕ) (line words : List ℕ) where
  -- by what the bytes come to
  went_as : {bytes : List ℕ} {n' : ℕ} {line' words' : List ℕ} (r : FeedState) → ran bytes (take n line) words ≡ r → n' ≤ 81 → take n' line' ≡ r.line → words' ≡ r.state
      → BytesRun bytes n line words n' line' words'
  went_as r e h l w = record { within = h; partial = l ∙ sym (ap (λ (x : FeedState). x.line) e); state = w ∙ sym (ap (λ (x : FeedState). x.state) e) }

  pub went_none : n ≤ 81 → BytesRun [] n line words n line words
  unfolding ran
  went_none h = record { within = h; partial = refl; state = refl }

  -- the bytes b after a
  both : {a : List ℕ} (b : List ℕ) {n' : ℕ} {line' words' : List ℕ} → BytesRun a n line words n' line' words'
      → ran (a ++ b) (take n line) words ≡ text_then (ran a (take n line) words).text (ran b (take n' line') words')
  both {a} b p = ran_append a b (take n line) words ∙ rw (p.partial, p.state)

  pub went_then : {a b : List ℕ} {n' n'' : ℕ} {line' words' line'' words'' : List ℕ}
      → BytesRun a n line words n' line' words' → BytesRun b n' line' words' n'' line'' words'' → BytesRun (a ++ b) n line words n'' line'' words''
  went_then {b} p q = went_as _ (both b p) q.within q.partial q.state

module _ (n : ℕ) (line words : List ℕ) (at : ℕ) (out : List ℕ) where
  ran_as : {bytes : List ℕ} {n' at' : ℕ} {line' words' out' : List ℕ} (r : FeedState) → ran bytes (take n line) words ≡ r
      → n' ≤ 81 → take n' line' ≡ r.line → words' ≡ r.state → PutText r.text at out out' at' → Ran bytes n line words at out n' line' words' at' out'
  ran_as {at'} {out'} r e h l w p = record {
    went = went_as n line words r e h l w;
    put = subst (λ (t : List ℕ). PutText t at out out' at') (sym (ap (λ (x : FeedState). x.text) e)) p;
  }

  pub ran_none : n ≤ 81 → at ≤ length out → Ran [] n line words at out n line words at out
  unfolding ran
  ran_none h k = record { went = went_none n line words h; put = put_none at out k }

  pub ran_then : {a b : List ℕ} {n' n'' at' at'' : ℕ} {line' words' out' line'' words'' out'' : List ℕ}
      → Ran a n line words at out n' line' words' at' out' → Ran b n' line' words' at' out' n'' line'' words'' at'' out''
      → Ran (a ++ b) n line words at out n'' line'' words'' at'' out''
  ran_then {b} p q = ran_as _ (both n line words b p.went) q.went.within q.went.partial q.went.state (put_then p.put q.put)

  -- a newline ends a line
  pub newline : {words' out' : List ℕ} {end : ℕ} (b : ℕ) → b ≡ 10 → Prints (line_answer (take n line) words) at words' out out' end
      → Ran (b ∷ []) n line words at out 0 line words' end out'
  newline b e p = ran_as _ (run_newline b (take n line) words e) (omega arith) refl p.state p.put

  -- another byte is kept, if there is room for it
  pub byte_kept : (b : ℕ) → (b ≡ 10 → ⊥) → n < 81 → 81 ≤ length line → at ≤ length out → Ran (b ∷ []) n line words at out (n + 1) (set line n b) words at out
  byte_kept b e h room k =
      let some = length-take-le n line (omega arith) in
      let one_more : take (n + 1) (set line n b) ≡ kept_line (take n line) b = simp (add-one, some, lt-ltb n 81 h) (take-suc-set line n b (omega arith)) in
      ran_as _ (run_byte b (take n line) words e) (omega arith) one_more refl (put_none at out k)

  pub byte_dropped : (b : ℕ) → (b ≡ 10 → ⊥) → 81 ≤ n → n ≤ 81 → 81 ≤ length line → at ≤ length out → Ran (b ∷ []) n line words at out n line words at out
  byte_dropped b e h few room k =
      let some = length-take-le n line (omega arith) in
      let none_more : take n line ≡ kept_line (take n line) b = simp (some, le-ltb n 81 h) in
      ran_as _ (run_byte b (take n line) words e) few none_more refl (put_none at out k)

  -- where the input ends, a line that has begun is answered, and where none has nothing is put
  pub rest_answered : {words' out' : List ℕ} {end : ℕ} → 0 < n → n ≤ length line → Prints (line_answer (take n line) words) at words' out out' end
      → Prints (rest_printed (take n line) words) at words' out out' end
  unfolding rest_printed
  rest_answered h k p = let some = length-take-le n line k in simp (some, lt-ltb 0 n h) p

  pub no_rest : n ≡ 0 → at ≤ length out → Prints (rest_printed (take n line) words) at words out out at
  unfolding rest_printed
  no_rest e k = rw e (record { state = refl; put = put_none at out k })

-- one byte more
pub slice_more : (input : List ℕ) (from i : ℕ) → from ≤ i → i < length input → slice from (i + 1) input ≡ slice from i input ++ get_or input i 0 ∷ []
slice_more input from i h k =
    let inside : from ≤ length (take i input) = rw (length-take-le i input (omega arith)) h in
    rw (add-one, take-suc input i 0 k) (drop-append-le from (take i input) (get_or input i 0 ∷ []) inside)

-- bytes run so far, and those after them
pub slice_join : (input : List ℕ) (from to : ℕ) → from ≤ to → to ≤ length input → take from input ++ slice from to input ≡ take to input
slice_join input from to h k = rw (← take-take from to input h) (take-append-drop from (take to input))

-- where there is input and room for an answer, something is read
pub moves : (input : List ℕ) (from n : ℕ) (line words out : List ℕ) (r : Progress) {line' words' out' : List ℕ} → Fed input from n line words out r line' words' out'
    → from < length input → 30 ≤ length out → from < r.consumed
unfolding ran
moves input from n line words out r fed h room = ⊎_elim (λ done. omega arith) (λ full. go (ltb from r.consumed) refl full) fed.stopped
  where
    nothing : r.consumed ≡ from → r.produced ≡ 0
    nothing e =
        let none : slice from r.consumed input ≡ [] = rw e (slice_empty from input) in
        let past = fed.run.put.past in
        past ∙ rw none refl

    go : (b : Bool) → ltb from r.consumed ≡ b → length out < r.produced + 30 → from < r.consumed
    go true p full = ltb-true from r.consumed p
    go false p full =
        let back = ltb-false from r.consumed p in
        let on = fed.onward in
        let zero = nothing (omega arith) in
        absurd (omega arith)
