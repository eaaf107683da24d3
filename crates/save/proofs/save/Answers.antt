-- `save::save` meets its contract. Assumes nothing.
use Rattle.std.specs.Prelude.{Some}
use mathlib.Core.Path.{◌≡◌}
use native.Mathlib.Omega.{arith}
use Rattle.answer.proofs.Present.{found_sound}
use Rattle.save.proofs.Saved.{saved_lawful, saved_fits, saved_short, saved_whole}
use Rattle.std.proofs.lemmas.Bool.{not_from_true}
use Rattle.save.proofs.save.Goals as goal

pub is_lawful-unlawful-requires : goal.is_lawful-unlawful-requires
is_lawful-unlawful-requires c =
    let sound : c.validate_state.result ≡ Some c.in_ok-shape.shape = grind arith in
    search (found_sound, sound)

pub has_room-requires : goal.has_room-requires
has_room-requires c =
    let sound : c.validate_state.result ≡ Some c.in_ok-shape.shape = grind arith in
    search (saved_lawful, sound)

pub put_image-length-requires : goal.put_image-length-requires
put_image-length-requires c =
    let sound : c.validate_state.result ≡ Some c.in_ok-shape.shape = grind arith in
    let room = c.has_room.ensures in
    let fit = saved_fits _ _ _ c.validate_state.ensures _ sound _ c.is_lawful-unlawful.ensures (not_from_true _ c.if-unlawful.false) _ room.1 _ room.0 (not_from_true _ c.if-not-has_room.false) in
    (search (found_sound, sound), fit)

pub overflow_cast-length : goal.overflow_cast-length
overflow_cast-length c =
    let sound : c.validate_state.result ≡ Some c.in_ok-shape.shape = grind arith in
    search (saved_short, sound)

pub returns : goal.returns
returns c =
    let sound : c.validate_state.result ≡ Some c.in_ok-shape.shape = grind arith in
    search (saved_whole, sound, c.gave.ensures)
