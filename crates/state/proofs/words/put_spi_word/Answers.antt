-- `state::words::put_spi_word` meets its contract. Assumes nothing.
use native.Mathlib.Omega.{arith}
use lib.ListN.{length-set}
use Rattle.state.specs.Words.{with_ready_bit}
use Rattle.state.proofs.words.put_spi_word.Goals as goal

pub bounds-words-summary : goal.bounds-words-summary
bounds-words-summary c =
    rw (length-set c.args.words.now c.args.at c.args.word) (omega (arith, c.summary_place-summary.ensures.1, c.requires.0.state.room))

pub bounds-words-summary-2 : goal.bounds-words-summary-2
bounds-words-summary-2 c =
    rw (length-set c.args.words.now c.args.at c.args.word) (omega (arith, c.summary_place-summary.ensures.1, c.requires.0.state.room))

pub returns : goal.returns
unfolding with_ready_bit
returns c = rw (c.with_bit.ensures, c.summary_place-summary.ensures.0, c.requires.1.at, c.ready_word.ensures)
