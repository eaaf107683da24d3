-- `runner::step` meets its contract. Assumes nothing.
use mathlib.Core.Path.{sym}
use lib.Seq.{length-take-le}
use Rattle.runner.proofs.Running.{newline, byte_kept, byte_dropped}
use borrow.Author.Rules.{rules}
use Rattle.runner.proofs.blocks.step.Goals as goal

pub slice_bounds-answer_line-end-then-byte-eq10 : goal.slice_bounds-answer_line-end-then-byte-eq10
slice_bounds-answer_line-end-then-byte-eq10 c = sym (length-take-le c.args.begun c.args.line.now (search rules))

pub returns-then-byte-eq10-clause-ran : goal.returns-then-byte-eq10-clause-ran
returns-then-byte-eq10-clause-ran c =
    let a = c.args in
    newline a.begun a.line.now a.words.now a.writer.now.at a.writer.now.out.now a.byte c.if-byte-eq10.true c.answer_line.ensures.prints

pub returns-then-begun-lt-KEPT-clause-ran : goal.returns-then-begun-lt-KEPT-clause-ran
returns-then-begun-lt-KEPT-clause-ran c =
    let a = c.args in
    byte_kept a.begun a.line.now a.words.now a.writer.now.at a.writer.now.out.now a.byte c.if-byte-eq10.false c.if-begun-lt-KEPT.true (search rules) (search rules)

pub returns-clause-ran : goal.returns-clause-ran
returns-clause-ran c =
    let a = c.args in
    byte_dropped a.begun a.line.now a.words.now a.writer.now.at a.writer.now.out.now a.byte c.if-byte-eq10.false c.if-begun-lt-KEPT.false (search rules) (search rules) (search rules)
