-- `save::walking::put_image` meets its contract. Assumes nothing.
use native.Mathlib.Omega.{arith}
use borrow.Author.Rules.{rules}
use Rattle.save.proofs.Pieces.{fits_first, fits_next, puts_more}
use Rattle.save.proofs.walking.put_image.Goals as goal

pub put_three-requires : goal.put_three-requires
put_three-requires c =
    let control = c.distributor_control-control.ensures in
    let limits = c.requires.0.state.limits in
    (omega arith, omega arith, omega arith, rw control (fits_first _ _ c.requires.1))

pub put_body-requires : goal.put_body-requires
put_body-requires c =
    let control = c.distributor_control-control.ensures in
    (c.requires.0, fits_next _ _ c.requires.1 (rw control at c.put_three.ensures))

pub returns : goal.returns
returns c =
    let control = c.distributor_control-control.ensures in
    let all = puts_more _ _ (rw control at c.put_three.ensures) c.put_body.ensures in
    search (rules, all.wrote)
