-- `load::walking::take_entries` meets its contract. Assumes nothing.
use mathlib.Core.Path.{refl, sym, ◌∙◌}
use Rattle.state.specs.Loop.{up_to}
use Rattle.state.specs.Words.{with_entry}
use Rattle.load.specs.Walking.{entry_spot, entries_stored}
use Rattle.load.proofs.Walks.{cond_same, stored_on, entry_taken, entry_refused}
use Rattle.load.proofs.walking.take_entries.Goals as goal

pub loop-i-init : goal.loop-i-init
unfolding entry_spot entries_stored up_to
loop-i-init c = (refl, sym (cond_same c.args.stores _))

pub returns-in_err-entry : goal.returns-in_err-entry
returns-in_err-entry c =
    let l = c.loop-i in
    let a = c.args in
    let found = sym c.entry_at.ensures ∙ c.in_err-entry.was in
    let gone = entry_refused a.shape a.image.now a.start a.vcpu.0 l.i l.at l.above.0 a.words.now l.invariant.0 a.depth c.loop-i-test.true found in
    (simp (c.from_residual.ensures, gone.0), simp gone.1 l.invariant.1)

pub loop-i-preserved : goal.loop-i-preserved
loop-i-preserved c =
    let l = c.loop-i in
    let a = c.args in
    let taken = entry_taken a.shape a.image.now a.start a.vcpu.0 l.i l.at l.above.0 a.words.now l.invariant.0 c.in_ok-entry.entry c.in_ok-entry.next (sym c.entry_at.ensures ∙ c.in_ok-entry.was) in
    (taken.0, stored_on a.stores (with_entry a.shape a.vcpu.0 l.i c.in_ok-entry.entry) _ _ _ _ _ l.invariant.1 c.store_entry.ensures taken.1)
