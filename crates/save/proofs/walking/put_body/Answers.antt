-- `save::walking::put_body` meets its contract. Assumes nothing.
use Rattle.image.specs.Image.{body_numbers}
use Rattle.save.proofs.Pieces.{fits_first, fits_next, puts_more}
use Rattle.save.proofs.walking.put_body.Goals as goal

pub put_interfaces-requires : goal.put_interfaces-requires
unfolding body_numbers
put_interfaces-requires c =
    (c.requires.0, fits_first _ _ (fits_first _ _ (fits_first _ _ c.requires.1)))

pub put_stacks-requires : goal.put_stacks-requires
unfolding body_numbers
put_stacks-requires c =
    (c.requires.0, fits_next _ _ (fits_first _ _ (fits_first _ _ c.requires.1)) c.put_interfaces.ensures)

pub put_privates-requires : goal.put_privates-requires
unfolding body_numbers
put_privates-requires c =
    let before = puts_more _ _ c.put_interfaces.ensures c.put_stacks.ensures in
    (c.requires.0, fits_next _ _ (fits_first _ _ c.requires.1) before)

pub put_spis-requires : goal.put_spis-requires
unfolding body_numbers
put_spis-requires c =
    let before = puts_more _ _ (puts_more _ _ c.put_interfaces.ensures c.put_stacks.ensures) c.put_privates.ensures in
    (c.requires.0, fits_next _ _ c.requires.1 before)

pub returns : goal.returns
unfolding body_numbers
returns c =
    let before = puts_more _ _ (puts_more _ _ c.put_interfaces.ensures c.put_stacks.ensures) c.put_privates.ensures in
    puts_more _ _ before c.put_spis.ensures
