-- `lawful_test::vcpus_lawful` meets its contract. Assumes nothing.
use mathlib.Core.Path.{refl}
use borrow.Author.Rules.{rules}
use borrow.Author.Tests.{tests}
use Rattle.lawful_test.specs.LawfulTest.{vcpu_lawful}
use Rattle.lawful_test.proofs.Loops.{all_below}
use Rattle.lawful_test.proofs.vcpus_lawful.Goals as goal

pub returns : goal.returns
returns c =
    let a = c.args in
    all_below (vcpu_lawful a.shape a.words.now) (λ x b q k. search (rules, tests)) a.shape.count c.all.ensures.ran refl
