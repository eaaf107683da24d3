-- `lawful_test::vcpu_lawful` meets its contract. Assumes nothing.
use Rattle.lawful_test.specs.LawfulTest.{number_lawful}
use Rattle.lawful_test.proofs.Loops.{every_own}
use Rattle.lawful_test.proofs.vcpu_lawful.Goals as goal

pub returns-then-sgis_lawful : goal.returns-then-sgis_lawful
returns-then-sgis_lawful c =
    let a = c.args in
    rw (every_own (number_lawful a.shape a.vcpu.0 a.words.now))
    (simp (← c.stack_lawful.ensures, c.if-not-stack_lawful.false, ← c.sgis_lawful.ensures, c.if-sgis_lawful.true) c.ppis_lawful.ensures)

pub returns-else-sgis_lawful : goal.returns-else-sgis_lawful
returns-else-sgis_lawful c =
    let a = c.args in
    rw (every_own (number_lawful a.shape a.vcpu.0 a.words.now))
    (simp (← c.stack_lawful.ensures, c.if-not-stack_lawful.false, ← c.sgis_lawful.ensures, c.if-sgis_lawful.false))
