-- `lawful_test::is_lawful` meets its contract. Assumes nothing.
use Rattle.lawful_test.specs.LawfulTest.{is_lawful}
use Rattle.lawful_test.proofs.is_lawful.Goals as goal

pub returns-then-vcpus_lawful : goal.returns-then-vcpus_lawful
unfolding is_lawful
returns-then-vcpus_lawful c = simp (← c.vcpus_lawful.ensures, c.if-vcpus_lawful.true) c.spis_lawful.ensures

pub returns-else-vcpus_lawful : goal.returns-else-vcpus_lawful
unfolding is_lawful
returns-else-vcpus_lawful c = simp (← c.vcpus_lawful.ensures, c.if-vcpus_lawful.false)
