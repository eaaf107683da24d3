-- `lawful_test::stack_lawful` meets its contract. Assumes nothing.
use native.Mathlib.Numerals.{add-one}
use native.Mathlib.Omega.{arith}
use borrow.Author.Rules.{rules}
use Rattle.state.specs.Loop.{every_below}
use Rattle.service.specs.Service.{stack_to}
use Rattle.lawful_test.specs.LawfulTest.{entry_lawful_at}
use Rattle.lawful_test.proofs.Loops.{goes_on, leaves}
use Rattle.std.proofs.lemmas.Bool.{not_from_true, not_from_false}
use Rattle.lawful_test.proofs.stack_lawful.Goals as goal

pub loop-i-init : goal.loop-i-init
unfolding every_below stack_to
loop-i-init c = search rules

pub returns-then-not-entry_lawful : goal.returns-then-not-entry_lawful
returns-then-not-entry_lawful c =
    let a = c.args in
    let l = c.loop-i in
    let same = simp (l.invariant.0, c.stack_entry-entry.ensures) at c.entry_lawful.ensures in
    leaves (entry_lawful_at a.shape a.vcpu.0 a.words.now) l.i _ same _ (omega (arith, c.depth-held.ensures)) (not_from_false _ c.if-not-entry_lawful.true)

pub loop-i-preserved : goal.loop-i-preserved
unfolding stack_to
loop-i-preserved c =
    let a = c.args in
    let l = c.loop-i in
    let entry = c.stack_entry-entry.ensures in
    let same = simp (l.invariant.0, entry) at c.entry_lawful.ensures in
    (rw add-one (simp entry), goes_on (entry_lawful_at a.shape a.vcpu.0 a.words.now) l.i _ same l.invariant.1 (not_from_true _ c.if-not-entry_lawful.false))
