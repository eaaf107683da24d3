-- `select::best_key` meets its contract. Assumes nothing.
use borrow.Author.Rules.{rules}
use Rattle.select.proofs.KeyLaws.{private_inside, key_private, key_spis}
use Rattle.select.proofs.best_key.Goals as goal

pub least_key-private-requires : goal.least_key-private-requires
least_key-private-requires c =
    let a = c.args in
    record {
      order = search rules;
      numbers = search rules;
      inside = rw c.record_place-own.ensures.at (private_inside a.shape a.vcpu.0 a.words.now c.requires.looked);
    }

pub returns : goal.returns
returns c =
    let a = c.args in
    let limits = c.requires.looked.state.limits in
    rw (c.requires.masked, ← key_spis a.shape a.vcpu.0 a.words.now limits (search rules), ← key_private a.shape a.vcpu.0 a.words.now)
    (rw (c.spi_test.ensures, c.least_key-private.ensures, c.private_test.ensures, c.record_place-own.ensures.at, c.requires.masked) at c.least_ready.ensures)
