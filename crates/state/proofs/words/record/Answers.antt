-- `state::words::record` meets its contract. Assumes nothing.
use Rattle.state.proofs.words.record.Goals as goal

pub returns : goal.returns
returns c = simp (c.decode.ensures, c.record_place-at.ensures.at)
