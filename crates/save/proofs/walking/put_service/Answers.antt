-- `save::walking::put_service` meets its contract. Assumes nothing.
use native.Mathlib.Omega.{arith}
use Rattle.save.proofs.Pieces.{number_fits, number_puts, fits_first, fits_next, puts_more}
use Rattle.save.proofs.walking.put_service.Goals as goal

pub put_number-requires : goal.put_number-requires
put_number-requires c =
    let same = c.depth-held.ensures in
    let deep = c.requires.0.deep in
    rw same (number_fits _ (omega arith) (fits_first _ _ c.requires.1))

pub put_entries-requires : goal.put_entries-requires
put_entries-requires c =
    let same = c.depth-held.ensures in
    let first = rw same at (number_puts _ c.put_number.ensures) in
    rw same (c.requires.0, c.requires.0.deep, fits_next _ _ c.requires.1 first)

pub returns : goal.returns
returns c =
    let same = c.depth-held.ensures in
    let first = rw same at (number_puts _ c.put_number.ensures) in
    puts_more _ _ first (rw same at c.put_entries.ensures)
