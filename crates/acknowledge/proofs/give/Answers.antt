-- `acknowledge::give` meets its contract. Assumes nothing.
-- the calls from the last to the first, each found from the one after it
use Rattle.acknowledge.specs.Acknowledge.{given}
use Rattle.acknowledge.proofs.give.Goals as goal

pub returns : goal.returns
unfolding given
returns c =
    let source = c.sgi_source-source.ensures.0 in
    (simp source, simp (c.take_sgi_source.ensures, c.serve.ensures, source))
