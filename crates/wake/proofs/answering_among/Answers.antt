-- `wake::answering_among` meets its contract. Assumes nothing.
use borrow.Author.Rules.{rules}
use Rattle.wake.proofs.WakeSets.{bits_fit}
use Rattle.wake.proofs.answering_among.Goals as goal

pub overflow_add-bits : goal.overflow_add-bits
overflow_add-bits c = record { fits = rw (c.loop-v.invariant, c.bit_at-bits.ensures, c.among_answers.ensures) (bits_fit c.args.answer c.args.among c.args.shape c.args.words.now c.loop-v.v (search rules)) }
