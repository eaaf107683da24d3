-- `load::image_shape` meets its contract. Assumes nothing.
use Rattle.std.specs.Prelude.{Some}
use mathlib.Core.Path.{◌≡◌}
use native.Mathlib.Omega.{arith}
use Rattle.load.specs.Load.{shape_found, shape_stated}
use Rattle.load.proofs.image_shape.Goals as goal

pub returns : goal.returns
unfolding shape_stated
returns c =
    let found : shape_found c.args.image.now ≡ Some (c.in_ok-shape.shape, c.in_ok-shape._next) = grind arith in
    simp (c.gave.ensures, found)
