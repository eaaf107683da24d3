-- `lawful_test::record_lawful` meets its contract. Assumes nothing.
use Rattle.lawful_test.specs.LawfulTest.{record_lawful}
use Rattle.lawful_test.proofs.record_lawful.Goals as goal

pub returns : goal.returns
unfolding record_lawful
returns c = simp (c.owner_lawful.ensures, c.mask_lawful.ensures, c.edge_lawful.ensures)
