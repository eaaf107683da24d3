-- `lawful_test::ppi_lawful` meets its contract. Assumes nothing.
use mathlib.Core.Path.{sym, ◌∙◌}
use Rattle.lawful_test.proofs.Quiet.{quiet_ppi, number_plain}
use Rattle.lawful_test.proofs.ppi_lawful.Goals as goal

pub returns-then-is_quiet-word : goal.returns-then-is_quiet-word
returns-then-is_quiet-word c =
    let a = c.args in
    let n = a.ppi.0 in
    let at = c.record_place-at.ensures.at in
    let both = rw (c.is_quiet.ensures, at) at c.if-is_quiet-word.true in
    sym (number_plain a.shape a.vcpu.0 n a.words.now c.requires.1 ∙ quiet_ppi a.shape a.vcpu.0 n _ c.requires.1 both)

pub returns : goal.returns
returns c =
    let a = c.args in
    let at = c.record_place-at.ensures.at in
    c.record_lawful.ensures ∙ rw (c.decode.ensures, at) (sym (number_plain a.shape a.vcpu.0 a.ppi.0 a.words.now c.requires.1))
