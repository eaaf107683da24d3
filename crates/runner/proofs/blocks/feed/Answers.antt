-- `runner::feed` meets its contract: at each turn the bytes so far were run. Assumes nothing.
use mathlib.Core.Path.{refl, ◌∙◌}
use native.Mathlib.Omega.{arith}
use lib.Seq.{slice_empty}
use borrow.Author.Rules.{rules}
use Rattle.script.proofs.Puts.{put_inside, put_length}
use Rattle.runner.proofs.Running.{ran_none, ran_then, slice_more}
use Rattle.runner.proofs.blocks.feed.Goals as goal

pub loop-i-init : goal.loop-i-init
loop-i-init c =
    let a = c.args in
    (rw (slice_empty a.from a.input.now) (ran_none a.begun a.line.now a.words.now 0 a.out.now c.requires.0.some (search rules)), refl)

pub loop-i-preserved : goal.loop-i-preserved
loop-i-preserved c =
    let at_i = c.loop-i in
    let a = c.args in
    (rw (slice_more a.input.now a.from at_i.i (search rules) (search rules)) (ran_then a.begun a.line.now a.words.now 0 a.out.now at_i.invariant.0 c.step-kept.ensures.ran), c.step-kept.ensures.same_reference ∙ at_i.invariant.1)

pub overflow_sub-writer : goal.overflow_sub-writer
overflow_sub-writer c =
    let put = c.loop-i.invariant.0.put in
    let inside = put_inside put in
    let same = put_length put in
    omega arith
