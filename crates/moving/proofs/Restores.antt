-- That the images of lawful states load, and "save after load gives the same image". Nothing else rests on these two here. Assumes nothing.
use Rattle.std.proofs.Common.{◌≡◌, ◌≤◌, ◌∙◌, ℕ, List, ◌++◌, length, drop, sym, ap}
use Rattle.state.specs.declared.layout.Shape.{Shape}
use Rattle.state.specs.Layout.{size}
use Rattle.answer.specs.Answer.{Outcome, gave}
use Rattle.lawful.specs.Lawful.{Lawful}
use Rattle.image.specs.Image.{image}
use Rattle.load.specs.Load.{image_shape, load}
use Rattle.save.specs.Save.{save}
use Rattle.moving.proofs.Moving.{loads_as, into, only_images_load}

-- the image of a lawful state loads, wherever there is room for it
module _ (shape : Shape) (s : List ℕ) (law : Lawful shape s) (w : List ℕ) where
  pub images_load : size shape ≤ length w → load (image shape s) w ≡ gave 0 (load (image shape s) w).state
  images_load h = loads_as shape s law w h ∙ ap (λ (o : Outcome). gave 0 o.state) (sym (loads_as shape s law w h))

-- "save after load gives the same image"
pub save_after_load_gives_the_image : (bytes w buffer : List ℕ) → (load bytes w).refusal ≡ 0 → length bytes ≤ length buffer
    → save (load bytes w).state buffer ≡ record { outcome = gave (length bytes) (load bytes w).state; buffer = bytes ++ drop (length bytes) buffer }
save_after_load_gives_the_image bytes w buffer e h =
    let it = only_images_load bytes w e in
    let same = into (image_shape bytes) (load bytes w).state it.controls.lawful buffer (rw (← it.is) h) in
    rw (← it.is) at same
