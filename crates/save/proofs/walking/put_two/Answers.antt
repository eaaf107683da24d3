-- `save::walking::put_two` meets its contract. Assumes nothing.
use mathlib.Core.List.{[], ◌∷◌}
use Rattle.save.proofs.Pieces.{number_fits, number_puts, fits_first, fits_next, puts_more}
use Rattle.save.proofs.walking.put_two.Goals as goal

pub put_number-requires : goal.put_number-requires
put_number-requires c =
    let a = c.args in
    number_fits a.a c.requires.0 (fits_first (a.a ∷ []) (a.b ∷ []) c.requires.2)

pub put_number-requires-2 : goal.put_number-requires-2
put_number-requires-2 c =
    let a = c.args in
    let first = c.put_number.ensures in
    number_fits a.b c.requires.1 (fits_next (a.a ∷ []) (a.b ∷ []) c.requires.2 (number_puts a.a first))

pub returns : goal.returns
returns c =
    let a = c.args in
    let first = c.put_number.ensures in
    puts_more (a.a ∷ []) (a.b ∷ []) (number_puts a.a first) (number_puts a.b c.put_number-2.ensures)
