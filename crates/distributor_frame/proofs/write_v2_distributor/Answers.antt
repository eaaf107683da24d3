-- `distributor_frame::write_v2_distributor` meets its contract. Assumes nothing.
use Rattle.std.specs.Prelude.{Some}
use mathlib.Core.Path.{◌≡◌, sym, ◌∙◌}
use native.Mathlib.Omega.{arith}
use Rattle.state.specs.Lent.{validated}
use Rattle.service.proofs.Soundness.{validated_sound}
use Rattle.distributor_frame.proofs.write_v2_distributor.Goals as goal

pub write_at-requires : goal.write_at-requires
write_at-requires c =
    let sound : validated c.args.words.now ≡ Some c.in_ok-shape.shape = grind arith in
    (validated_sound _ c.args.words.now sound, record { offset = c.args.offset; at = sym c.locate_distributor.ensures ∙ c.in-At.is })
