-- `save::has_room` meets its contract. Assumes nothing.
use mathlib.Core.Bool.{false, false≢true}
use mathlib.Core.Path.{refl, sym}
use Prim.Native.Nat.{◌≤◌}
use native.Mathlib.Omega.{arith}
use lib.ListN.{length}
use borrow.Author.Tests.{le-leb}
use Rattle.image.specs.Image.{image}
use Rattle.save.proofs.Bound.{image_fits}
use Rattle.save.proofs.Saved.{lawful_sound, lawful_fits}
use Rattle.save.proofs.has_room.Goals as goal

pub returns-then-image_bytes-buffer : goal.returns-then-image_bytes-buffer
returns-then-image_bytes-buffer c =
    let most = image_fits c.args.shape c.args.words.now c.requires in
    let asked = c.image_bytes.ensures in
    let fits : length (image c.args.shape c.args.words.now) ≤ length c.args.buffer.now = omega arith in
    (sym (le-leb _ _ fits), refl)

pub put_image-length-requires : goal.put_image-length-requires
put_image-length-requires c =
    let lawful = c.requires in
    (lawful_sound lawful, lawful_fits false _ lawful (λ e. absurd (false≢true e)))
