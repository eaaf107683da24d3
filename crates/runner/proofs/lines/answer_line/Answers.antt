-- `runner::answer_line` meets its contract. Assumes nothing.
use mathlib.Core.Path.{refl}
use Rattle.runner.specs.Runner.{line_answer}
use Rattle.runner.proofs.lines.answer_line.Goals as goal

pub returns-in-Some-clause-prints : goal.returns-in-Some-clause-prints
unfolding line_answer
returns-in-Some-clause-prints c = simp (← c.in-Some.ensures, ← c.answer_request.ensures) (record { state = refl; put = c.put.ensures.put })

pub returns-in-None-clause-prints : goal.returns-in-None-clause-prints
unfolding line_answer
returns-in-None-clause-prints c = simp (← c.in-None.ensures) (record { state = refl; put = c.put_unknown.ensures.put })
