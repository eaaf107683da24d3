-- `select::least_ready` meets its contract. Assumes nothing.
use mathlib.Core.Logic.{inl, inr}
use mathlib.Core.Path.{◌≡◌, sym, ap, ◌∙◌}
use Prim.Native.Nat.{◌-◌, ◌*◌}
use borrow.Author.Rules.{rules}
use Rattle.state.specs.Layout.{spi_start, summary_words}
use Rattle.select.proofs.SummaryWords.{least_of, first_word, next_word, last_word, low_enough}
use Rattle.select.proofs.least_ready.Goals as goal

pub loop-g-init : goal.loop-g-init
loop-g-init c = sym (first_word _ _ _ _ _)

pub returns-then-key-enough : goal.returns-then-key-enough
returns-then-key-enough c =
    let at_turn = c.loop-g in
    let a = c.args in
    inr (c.if-key-enough.true, low_enough a.shape a.test (spi_start a.shape - 32) a.words.now a.start at_turn.g a.enough (search rules) (search rules) (rw at_turn.invariant at c.if-key-enough.true))

pub loop-g-preserved : goal.loop-g-preserved
loop-g-preserved c =
    let a = c.args in
    c.with_summary_word-key.ensures
    ∙ rw (c.spi_start-offset.ensures, c.spi_end-summary.ensures, c.loop-g.invariant) (next_word a.shape a.test (spi_start a.shape - 32) a.words.now a.start c.loop-g.g)

pub returns : goal.returns
returns c =
    let at_end = c.loop-g in
    let a = c.args in
    let all : 32 * at_end.g ≡ 32 * summary_words a.shape = search rules in
    inl (at_end.invariant
    ∙ ap (least_of a.shape a.test (spi_start a.shape - 32) a.words.now a.start) all
    ∙ last_word a.shape a.test (spi_start a.shape - 32) a.words.now a.start (search rules))
