-- `input::device_input` meets its contract. Assumes nothing.
use Rattle.std.specs.Prelude.{Some}
use mathlib.Core.Path.{◌≡◌}
use native.Mathlib.Omega.{arith}
use Rattle.state.specs.Lent.{validated}
use Rattle.service.proofs.Soundness.{validated_sound}
use Rattle.input.proofs.device_input.Goals as goal

pub input_at-requires : goal.input_at-requires
input_at-requires c = let sound : validated c.args.words.now ≡ Some c.in_ok-shape.shape = grind arith in validated_sound _ c.args.words.now sound
