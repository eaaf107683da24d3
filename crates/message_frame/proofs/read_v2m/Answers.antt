-- `message_frame::read_v2m` meets its contract. Assumes nothing.
use Rattle.std.specs.Prelude.{Some, Ok}
use mathlib.Core.Path.{◌≡◌, refl, ◌∙◌}
use native.Mathlib.Omega.{arith}
use Rattle.state.specs.Lent.{validated}
use Rattle.message_frame.specs.MessageFrame.{decoded_window, locate_v2m, read_v2m}
use Rattle.message_frame.proofs.Windows.{seen_fits}
use Rattle.message_frame.proofs.read_v2m.Goals as goal

pub read_register-requires : goal.read_register-requires
read_register-requires c =
    let sound : validated c.args.words.now ≡ Some c.in_ok-shape.shape = grind arith in
    let there : decoded_window c.in_ok-shape.shape c.args.first c.args.count ≡ Some c.in_ok-window.window = grind arith in
    seen_fits c.args.words.now _ refl c.in_ok-shape.shape sound c.args.first c.args.count _ refl c.in_ok-window.window there

pub returns : goal.returns
unfolding read_v2m
returns c =
    let sound : validated c.args.words.now ≡ Some c.in_ok-shape.shape = grind arith in
    let there : decoded_window c.in_ok-shape.shape c.args.first c.args.count ≡ Some c.in_ok-window.window = grind arith in
    let at : locate_v2m c.args.offset c.args.width ≡ Ok c.in_ok-register.register = grind arith in
    c.gave.ensures _ ∙ simp (c.read_register.ensures, sound, there, at)
