-- "Before an accepted `n`, calls answer 6; a refused `n` keeps the earlier state." Assumes nothing.
use mathlib.Core.Path.{◌≡◌, refl, sym, ◌∙◌}
use mathlib.Core.Bool.{Bool, true, false, true≢false, false≢true}
use mathlib.Core.List.{List, [], ◌∷◌, ◌++◌, append_assoc, append-nil}
use Prim.Native.Nat.{ℕ, zero, suc}
use lib.Dec.{eqb, leb}
use lib.ListN.{length}
use borrow.Author.Tests.{eqb-true}
use Rattle.std.specs.Prelude.{Option, Some, None}
use Rattle.state.specs.Layout.{size}
use Rattle.state.specs.Lent.{in_limits, shaped, limited, validated}
use Rattle.state.proofs.Tests.{left_true, right_true}
use Rattle.controller.specs.Start.{setup}
use Rattle.script.specs.declared.request.Request.{Request}
use Rattle.script.specs.declared.request.Request.TheVariants as request
use Rattle.script.specs.Line.{request_of}
use Rattle.runner.specs.Runner.{line_answer, text_first, lines_printed, start_words}
use Rattle.history.specs.History.{Call, Setup, Deed, Starts, Acts, deed, starts_anew, is_start, called, run}
use Rattle.history.proofs.Always.{a_started_controller, every_history, stored_controls}
use Rattle.history.proofs.Each.{broken_call}
use Rattle.script_history.specs.ScriptHistory.{call_of, with_call, calls_of, by_call}
use Rattle.script_history.specs.Before.{is_accepted, none_accepted, refusal_before, text_before, texts_before}
use Rattle.script_history.proofs.Scripts.{a_line_is_a_call, a_script_is_a_history, OrderlyWords}

-- a refused `n`, whatever the words: it prints 4 or 5, and they stay
pub a_refused_setup : (count limit : ℕ) (s : List ℕ) → is_accepted (Some (Setup count limit)) s ≡ false
    → by_call (Some (Setup count limit)) s ≡ record { text = text_before (Some (Setup count limit)); state = s }
unfolding setup limited
a_refused_setup count limit s refuses = go (in_limits count limit) (leb (size (shaped count limit)) (length s)) refl refl
  where
    go : (a b : Bool) → in_limits count limit ≡ a → leb (size (shaped count limit)) (length s) ≡ b
        → by_call (Some (Setup count limit)) s ≡ record { text = text_before (Some (Setup count limit)); state = s }
    go true true within fits = absurd (true≢false (simp (within, fits) at refuses))
    go true false within short = simp (within, short)
    go false b outside room = simp outside

-- what a line can ask for: nothing, a setup, or a call that starts nothing
asks : (P : Option Call → Type 0) → P None → ((count limit : ℕ) → P (Some (Setup count limit))) → ((c : Call) → is_start c ≡ false → P (Some c)) → (r : Option Request) → P (call_of r)
asks P nothing setup other (Some (request.Setup n)) = setup n.count n.limit
asks P nothing setup other (Some (request.ReadDistributor d)) = other _ refl
asks P nothing setup other (Some (request.WriteDistributor d)) = other _ refl
asks P nothing setup other (Some (request.ReadCpuInterface c)) = other _ refl
asks P nothing setup other (Some (request.WriteCpuInterface c)) = other _ refl
asks P nothing setup other (Some (request.SetLevel l)) = other _ refl
asks P nothing setup other (Some (request.Pulse p)) = other _ refl
asks P nothing setup other None = nothing

-- in words that are no state, a line that is no accepted `n`
call_before : (r : Option Request) (s : List ℕ) → validated s ≡ None → is_accepted (call_of r) s ≡ false → by_call (call_of r) s ≡ record { text = text_before (call_of r); state = s }
call_before r s e =
    asks (λ o. is_accepted o s ≡ false → by_call o s ≡ record { text = text_before o; state = s }) (λ h. refl) (λ count limit. a_refused_setup count limit s)
    (λ c other h. rw ((broken_call c other s e).0, by_6 (deed c) other)) r
  where
    by_6 : (d : Deed) → starts_anew d ≡ false → refusal_before d ≡ 6
    by_6 (Starts count limit) p = absurd (true≢false p)
    by_6 (Acts a) p = refl

line_before : (line s : List ℕ) → validated s ≡ None → is_accepted (call_of (request_of line)) s ≡ false
    → line_answer line s ≡ record { text = text_before (call_of (request_of line)); state = s }
line_before line s e h = a_line_is_a_call line s ∙ call_before (request_of line) s e h

-- so the lines after it find the words as they were
none_before : (line : List ℕ) (lines : List (List ℕ)) (s : List ℕ) → validated s ≡ None → is_accepted (call_of (request_of line)) s ≡ false
    → none_accepted (line ∷ lines) s ≡ none_accepted lines s
unfolding none_accepted
none_before line lines s e h = simp (h, line_before line s e h)

lines_before : (lines rest : List (List ℕ)) (s : List ℕ) → validated s ≡ None → none_accepted lines s ≡ true
    → lines_printed (lines ++ rest) s ≡ text_first (texts_before lines) (lines_printed rest s)
unfolding none_accepted texts_before lines_printed
lines_before [] rest s e h = refl
lines_before (line ∷ lines) rest s e h = go (is_accepted (call_of (request_of line)) s) refl (lines_before lines rest s e)
  where
    go : (b : Bool) → is_accepted (call_of (request_of line)) s ≡ b
        → (none_accepted lines s ≡ true → lines_printed (lines ++ rest) s ≡ text_first (texts_before lines) (lines_printed rest s))
        → lines_printed (line ∷ lines ++ rest) s ≡ text_first (texts_before (line ∷ lines)) (lines_printed rest s)
    go true p others = absurd (false≢true (simp p at h))
    go false p others = rw (line_before line s e p, others (sym (none_before line lines s e p) ∙ h)) (simp append_assoc)

-- and once an `n` is accepted, demand 3 holds after whatever lines follow
accepted_orderly : (o : Option Call) (s : List ℕ) (calls : List Call) → is_accepted o s ≡ true → OrderlyWords (run (with_call o calls) s)
unfolding run
accepted_orderly None s calls h = absurd (false≢true h)
accepted_orderly (Some c) s calls h =
    let accepted : (called c s).refusal ≡ 0 = eqb-true (called c s).refusal 0 (right_true (is_start c) (eqb (called c s).refusal 0) h) in
    let started = a_started_controller c s (record { starts = left_true (is_start c) (eqb (called c s).refusal 0) h; accepted = accepted }) in
    (stored_controls (run (c ∷ calls) s) (every_history calls (called c s).state started)).lawful.orderly

lines_after_lem : (lines : List (List ℕ)) (s : List ℕ) → validated s ≡ None → none_accepted lines s ≡ false → OrderlyWords (lines_printed lines s).state
unfolding none_accepted lines_printed calls_of
lines_after_lem [] s e h = absurd (true≢false h)
lines_after_lem (line ∷ lines) s e h = go (is_accepted (call_of (request_of line)) s) refl (lines_after_lem lines s e)
  where
    go : (b : Bool) → is_accepted (call_of (request_of line)) s ≡ b → (none_accepted lines s ≡ false → OrderlyWords (lines_printed lines s).state)
        → OrderlyWords (lines_printed (line ∷ lines) s).state
    go true p others = rw (a_script_is_a_history (line ∷ lines) s) (accepted_orderly (call_of (request_of line)) s (calls_of lines) p)
    go false p others = rw (line_before line s e p) (others (sym (none_before line lines s e p) ∙ h))

-- what the program starts from is no state
start_broken : (n : ℕ) → validated (start_words n) ≡ None
unfolding validated limited
start_broken zero = refl
start_broken (suc n) = refl

-- whatever lines follow, an accepted `n` or not
pub before_an_accepted_setup : (n : ℕ) (lines rest : List (List ℕ)) → none_accepted lines (start_words n) ≡ true
    → lines_printed (lines ++ rest) (start_words n) ≡ text_first (texts_before lines) (lines_printed rest (start_words n))
before_an_accepted_setup n lines rest h = lines_before lines rest (start_words n) (start_broken n) h

-- so as long as no `n` is accepted
pub none_accepted_lem : (n : ℕ) (lines : List (List ℕ)) → none_accepted lines (start_words n) ≡ true
    → lines_printed lines (start_words n) ≡ record { text = texts_before lines; state = start_words n }
unfolding lines_printed
none_accepted_lem n lines h = simp append-nil at (before_an_accepted_setup n lines [] h)

-- and as soon as one is
pub after_an_accepted_setup : (n : ℕ) (lines : List (List ℕ)) → none_accepted lines (start_words n) ≡ false → OrderlyWords (lines_printed lines (start_words n)).state
after_an_accepted_setup n lines h = lines_after_lem lines (start_words n) (start_broken n) h
