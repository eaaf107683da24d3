-- Moving a guest: document 02, request One: "Hosts are drained weekly and we want proxies moved, not restarted. Save a controller into a lent
-- buffer and load it elsewhere."
use Rattle.std.specs.Prelude.{◌≡◌, List, ℕ, take}
use Rattle.state.specs.declared.layout.Shape.{Shape}
use Rattle.state.specs.Layout.{size}
use Rattle.state.specs.Lent.{shaped}
use Rattle.save.specs.Save.{save, image_bytes}
use Rattle.history.specs.History.{Save, Load, called}

-- the bytes that are carried: as many as the save of s answers, from the front of the buffer that it has written. "Saving answers the image's
-- length and leaves the buffer past it"
abbrev pub carried : List ℕ → List ℕ → List ℕ
carried s buffer = take (called (Save buffer) s).value (save s buffer).buffer

-- the words elsewhere, which held w, after the load
abbrev pub there : List ℕ → List ℕ → List ℕ → List ℕ
there s buffer w = (called (Load (carried s buffer)) w).state

-- every word of a state of this shape is the same
abbrev pub SameState : Shape → List ℕ → List ℕ → Type 0
SameState shape s r = take (size shape) s ≡ take (size shape) r

-- a room that suffices for any controller: that of 8 vCPUs and limit 1020
abbrev pub largest_image_bytes : ℕ
largest_image_bytes = image_bytes (shaped 8 1020)
