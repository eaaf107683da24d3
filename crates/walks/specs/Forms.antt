-- What the functions of src/lib.rt compute.
use Rattle.std.specs.Prelude.{Bool, ℕ, List, slice_index_or}
use Rattle.walks.specs.declared.Sample.{Sample}
use Rattle.walks.specs.declared.Mode.{Mode}

-- another level, and the mode as it was
unfoldable pub raised : Sample → ℕ → Bool → Sample
raised s level is_up = record { level = level; is_up = is_up; mode = s.mode }

-- another mode, and all else as it was
unfoldable pub in_mode : Sample → Mode → Sample
in_mode s mode = record { level = s.level; is_up = s.is_up; mode = mode }

-- the byte at a place of an image, or another where the image ends before it
unfoldable pub byte_at : List ℕ → ℕ → ℕ → ℕ
byte_at image at otherwise = slice_index_or image at otherwise
