-- `script::numbers` meets its contract: at each turn the numbers so far and the fields left give the line's numbers. Assumes nothing.
use mathlib.Core.Path.{refl, sym, ◌∙◌}
use native.Mathlib.Omega.{arith}
use lib.ListN.{drop_of_length-le}
use Rattle.script.specs.Line.{numbers_after}
use Rattle.script.proofs.Fields.{numbers_none, numbers_more, next_inside}
use Rattle.script.proofs.line.numbers.Goals as goal

pub loop-at-init : goal.loop-at-init
loop-at-init c = (c.requires, refl)

pub returns-in_default : goal.returns-in_default
returns-in_default c =
    let here = c.loop-at in
    sym (numbers_none c.args.line.now here.at c.loop-at-test.true here.so_far (sym c.number_at.ensures ∙ c.in_default.is)) ∙ here.invariant.1

pub loop-at-smaller : goal.loop-at-smaller
loop-at-smaller c =
    let here = c.loop-at in
    let inside = next_inside c.args.line.now here.at c.loop-at-test.true _ (sym c.number_at.ensures ∙ c.in-Some.is) in
    omega arith

pub loop-at-preserved : goal.loop-at-preserved
loop-at-preserved c =
    let here = c.loop-at in
    let line = c.args.line.now in
    let found = sym c.number_at.ensures ∙ c.in-Some.is in
    ((next_inside line here.at c.loop-at-test.true _ found).1, rw c.with-so_far.ensures (sym (numbers_more line here.at c.loop-at-test.true here.so_far _ found) ∙ here.invariant.1))

pub returns : goal.returns
unfolding numbers_after
returns c = let none = drop_of_length-le c.args.line.now c.loop-at-test.false in rw none at c.loop-at.invariant.1
