-- `lawful_test::is_quiet` meets its contract. Assumes nothing.
use borrow.Author.Rules.{rules}
use Rattle.lawful_test.specs.Quiet.{quiet}
use Rattle.lawful_test.proofs.is_quiet.Goals as goal

pub returns : goal.returns
unfolding quiet
returns c = search rules
