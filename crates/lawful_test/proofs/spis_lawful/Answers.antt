-- `lawful_test::spis_lawful` meets its contract. Assumes nothing.
use mathlib.Core.Path.{refl}
use Prim.Native.Nat.{◌-◌}
use borrow.Author.Rules.{rules}
use borrow.Author.Tests.{tests}
use Rattle.lawful_test.specs.LawfulTest.{spi_passes}
use Rattle.lawful_test.proofs.Loops.{all_numbers}
use Rattle.lawful_test.proofs.spis_lawful.Goals as goal

pub returns : goal.returns
returns c =
    let a = c.args in
    all_numbers (spi_passes a.shape a.words.now) (λ x b q k. search (rules, tests)) 32 a.shape.limit (a.shape.limit - 32) c.all.ensures.ran refl refl
