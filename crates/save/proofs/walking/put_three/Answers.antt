-- `save::walking::put_three` meets its contract. Assumes nothing.
use mathlib.Core.List.{[], ◌∷◌}
use Rattle.save.proofs.Pieces.{number_fits, number_puts, fits_first, fits_next, puts_more}
use Rattle.save.proofs.walking.put_three.Goals as goal

pub put_two-requires : goal.put_two-requires
put_two-requires c =
    let a = c.args in
    (c.requires.0, c.requires.1, fits_first (a.a ∷ a.b ∷ []) (a.c ∷ []) c.requires.3)

pub put_number-requires : goal.put_number-requires
put_number-requires c =
    let a = c.args in
    number_fits a.c c.requires.2 (fits_next (a.a ∷ a.b ∷ []) (a.c ∷ []) c.requires.3 c.put_two.ensures)

pub returns : goal.returns
returns c =
    let a = c.args in
    let first = c.put_two.ensures in
    puts_more (a.a ∷ a.b ∷ []) (a.c ∷ []) first (number_puts a.c c.put_number.ensures)
