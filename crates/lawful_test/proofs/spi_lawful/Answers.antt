-- `lawful_test::spi_lawful` meets its contract. Assumes nothing.
use mathlib.Core.Path.{sym, ◌∙◌}
use native.Mathlib.Omega.{arith}
use Rattle.word.proofs.Gathered.{one_shifted}
use Rattle.lawful_test.proofs.Quiet.{quiet_spi, number_plain, same_asked}
use Rattle.lawful_test.proofs.spi_lawful.Goals as goal

pub returns-then-is_quiet : goal.returns-then-is_quiet
returns-then-is_quiet c =
    let a = c.args in
    let at = c.record_place-at.ensures.at in
    let pass = rw (at, one_shifted a.shape.count 32 (omega arith)) at (sym c.is_quiet.ensures ∙ c.if-is_quiet.true) in
    let number = number_plain a.shape 0 a.spi.0 a.words.now (omega arith) ∙ quiet_spi a.shape 0 a.spi.0 _ c.requires.1 (omega arith) pass in
    rw (number, c.ready_bit.ensures, c.ready_word.ensures, at) (same_asked _ _)

pub returns : goal.returns
returns c =
    let a = c.args in
    let at = c.record_place-at.ensures.at in
    rw (c.record_lawful.ensures, c.decode.ensures, c.ready_bit.ensures, c.ready_word.ensures, at, number_plain a.shape 0 a.spi.0 a.words.now (omega arith), same_asked)
