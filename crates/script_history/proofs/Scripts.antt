-- A script is a history: each line prints the answer of its call and leaves what the call leaves, and so what holds after every history holds
-- after every script that a setup begins. Assumes nothing.
use mathlib.Core.Path.{◌≡◌, refl, sym, subst, ◌∙◌}
use mathlib.Core.List.{List, [], ◌∷◌}
use Prim.Native.Nat.{ℕ}
use lib.ListN.{get_or}
use Rattle.std.specs.Prelude.{Option, Some, None}
use Rattle.state.specs.Lent.{shaped}
use Rattle.controller.specs.Start.{setup}
use Rattle.lawful.specs.Lawful.{Orderly}
use Rattle.script.specs.declared.request.Request.{Request}
use Rattle.script.specs.declared.request.Request.TheVariants.{Setup, ReadDistributor, WriteDistributor, ReadCpuInterface, WriteCpuInterface, SetLevel, Pulse}
use Rattle.script.specs.Line.{request_of}
use Rattle.runner.specs.Runner as runner
use Rattle.runner.specs.Runner.{line_answer, lines_printed}
use Rattle.history.specs.History as history
use Rattle.history.specs.History.{Call, run, Accepted}
use Rattle.history.proofs.Always.{demand_three}
use Rattle.script_history.specs.ScriptHistory.{call_of, with_call, calls_of, by_call}

pub a_line_is_a_call : (line s : List ℕ) → line_answer line s ≡ by_call (call_of (request_of line)) s
unfolding line_answer runner.request_printed
a_line_is_a_call line s = go (request_of line)
  where
    go : (r : Option Request) → runner.asked_printed r s ≡ by_call (call_of r) s
    go (Some (Setup n)) = refl
    go (Some (ReadDistributor d)) = refl
    go (Some (WriteDistributor d)) = refl
    go (Some (ReadCpuInterface c)) = refl
    go (Some (WriteCpuInterface c)) = refl
    go (Some (SetLevel l)) = refl
    go (Some (Pulse p)) = refl
    go None = refl

pub a_script_is_a_history : (lines : List (List ℕ)) (s : List ℕ) → (lines_printed lines s).state ≡ run (calls_of lines) s
unfolding lines_printed calls_of run
a_script_is_a_history [] s = refl
a_script_is_a_history (line ∷ lines) s =
    a_script_is_a_history lines (line_answer line s).state ∙ rw (a_line_is_a_call line s) (go (call_of (request_of line)))
  where
    go : (o : Option Call) → run (calls_of lines) (by_call o s).state ≡ run (with_call o (calls_of lines)) s
    go None = refl
    go (Some c) = refl

-- demand 3 of scripts: after an accepted setup and any lines at all. Count and limit are those that the words store, as in `demand_three`
abbrev pub OrderlyWords : List ℕ → Type 0
OrderlyWords s = Orderly (shaped (get_or s 0 0) (get_or s 1 0)) s

pub after_every_script : (count limit : ℕ) (words : List ℕ) → Accepted count limit words → (lines : List (List ℕ))
    → OrderlyWords (lines_printed lines (setup count limit words).state).state
unfolding run
after_every_script count limit words accepted lines =
    subst OrderlyWords (sym (a_script_is_a_history lines (setup count limit words).state)) (demand_three (history.Setup count limit) words (record { starts = refl; accepted = accepted }) (calls_of lines))
