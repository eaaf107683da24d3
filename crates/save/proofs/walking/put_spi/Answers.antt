-- `save::walking::put_spi` meets its contract. Assumes nothing.
use native.Mathlib.Omega.{arith}
use Rattle.word.proofs.RecordWord.{decoded_in_range}
use Rattle.save.proofs.Pieces.{fits_first, fits_next, puts_more}
use Rattle.save.proofs.walking.put_spi.Goals as goal

pub put_two-requires : goal.put_two-requires
put_two-requires c =
    let found = c.record-found.ensures in
    let flags = c.flags_number-flags.ensures in
    (omega arith, omega arith, rw (flags.0, found) (fits_first _ _ c.requires.1))

pub owner_number-requires : goal.owner_number-requires
owner_number-requires c =
    rw c.record-found.ensures (decoded_in_range _).owner_byte_lem

pub put_two-requires-2 : goal.put_two-requires-2
put_two-requires-2 c =
    let found = c.record-found.ensures in
    let flags = c.flags_number-flags.ensures in
    let owner = c.owner_number.ensures in
    let mask = c.mask_number.ensures in
    let first = rw (flags.0, found) at c.put_two.ensures in
    (omega arith, omega arith, rw (owner.0, mask.0, found) (fits_next _ _ c.requires.1 first))

pub returns : goal.returns
returns c =
    let found = c.record-found.ensures in
    let flags = c.flags_number-flags.ensures in
    let owner = c.owner_number.ensures in
    let mask = c.mask_number.ensures in
    let first = rw (flags.0, found) at c.put_two.ensures in
    puts_more _ _ first (rw (owner.0, mask.0, found) at c.put_two-2.ensures)
