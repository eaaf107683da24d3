-- `runner::feed_rest` meets its contract. Assumes nothing.
use native.Mathlib.Omega.{arith}
use borrow.Author.Rules.{rules}
use Rattle.runner.proofs.Running.{rest_answered, no_rest}
use Rattle.runner.proofs.blocks.feed_rest.Goals as goal

pub returns-then-is_begun : goal.returns-then-is_begun
returns-then-is_begun c =
    let a = c.args in
    search (rules, rest_answered a.begun a.line.now a.words.now 0 a.out.now (search rules) (search rules) c.answer_line.ensures.prints)

pub returns : goal.returns
returns c =
    let a = c.args in
    no_rest a.begun a.line.now a.words.now 0 a.out.now (omega arith) (omega arith)
