-- `lawful_test::sgi_lawful` meets its contract. Assumes nothing.
use mathlib.Core.Path.{sym, ◌∙◌}
use Rattle.lawful_test.proofs.Quiet.{quiet_sgi, number_sgi}
use Rattle.lawful_test.proofs.sgi_lawful.Goals as goal

pub returns-then-is_quiet-word : goal.returns-then-is_quiet-word
returns-then-is_quiet-word c =
    let a = c.args in
    let n = a.sgi.0 in
    let at = c.record_place-at.ensures.at in
    let both = rw (c.is_quiet.ensures, at) at c.if-is_quiet-word.true in
    c.sources_lawful-sourced.ensures
    ∙ rw (c.sgi_sources.ensures, c.decode-found.ensures, at)
    (sym (number_sgi a.shape a.vcpu.0 n a.words.now c.requires.exists.1 ∙ simp (quiet_sgi a.shape a.vcpu.0 n _ both)))

pub returns : goal.returns
returns c =
    let a = c.args in
    let at = c.record_place-at.ensures.at in
    rw (c.record_lawful.ensures, c.sources_lawful-sourced.ensures, c.sgi_sources.ensures, c.decode-found.ensures, at)
    (sym (number_sgi a.shape a.vcpu.0 a.sgi.0 a.words.now c.requires.exists.1))
