-- `lawful_test::sgis_lawful` meets its contract. Assumes nothing.
use mathlib.Core.Path.{refl}
use borrow.Author.Rules.{rules}
use borrow.Author.Tests.{tests}
use Rattle.lawful_test.specs.LawfulTest.{number_lawful}
use Rattle.lawful_test.proofs.Loops.{all_below}
use Rattle.lawful_test.proofs.sgis_lawful.Goals as goal

pub returns : goal.returns
returns c =
    let a = c.args in
    all_below (number_lawful a.shape a.vcpu.0 a.words.now) (λ x b q k. search (rules, tests)) 16 c.all.ensures.ran refl
