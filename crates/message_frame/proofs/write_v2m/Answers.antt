-- `message_frame::write_v2m` meets its contract. Assumes nothing.
use Rattle.std.specs.Prelude.{Some}
use mathlib.Core.Path.{◌≡◌, refl}
use native.Mathlib.Omega.{arith}
use Rattle.state.specs.Lent.{validated}
use Rattle.message_frame.specs.MessageFrame.{decoded_window}
use Rattle.message_frame.proofs.Windows.{seen_framed}
use Rattle.message_frame.proofs.write_v2m.Goals as goal

pub write_register-requires : goal.write_register-requires
write_register-requires c =
    let sound : validated c.args.words.now ≡ Some c.in_ok-shape.shape = grind arith in
    let there : decoded_window c.in_ok-shape.shape c.args.first c.args.count ≡ Some c.in_ok-window.window = grind arith in
    seen_framed c.args.words.now _ refl c.in_ok-shape.shape sound c.args.first c.args.count _ refl c.in_ok-window.window there
