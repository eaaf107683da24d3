-- The numbers that IMAGE.md spells, and bytes that are none. Assumes nothing.
use mathlib.Core.Path.{◌≡◌, refl}
use mathlib.Core.List.{[], ◌∷◌}
use Rattle.std.specs.Prelude.{Some, None}
use Rattle.groups.specs.Groups.{groups_within, groups, spelled, found_from, found_at}

-- `00`, `7f`, `80 01`, `80 02`, `81 04`
their_bytes : spelled (0 ∷ 127 ∷ 128 ∷ 256 ∷ 513 ∷ []) ≡ 0 ∷ 127 ∷ 128 ∷ 1 ∷ 128 ∷ 2 ∷ 129 ∷ 4 ∷ []
unfolding spelled groups groups_within
their_bytes = refl

-- 513 after another number
read : found_at 2 (127 ∷ 129 ∷ 4 ∷ 0 ∷ []) 1 ≡ Some (513, 3)
unfolding found_at found_from
read = refl

greatest : found_at 2 (255 ∷ 127 ∷ []) 0 ≡ Some (16383, 2)
unfolding found_at found_from
greatest = refl

-- `80 00`
lengthened : found_at 2 (128 ∷ 0 ∷ []) 0 ≡ None
unfolding found_at found_from
lengthened = refl

-- `81 80 00`
lengthened_above : found_at 4 (129 ∷ 128 ∷ 0 ∷ []) 0 ≡ None
unfolding found_at found_from
lengthened_above = refl

-- `80 80 01`, 16384
too_many : found_at 2 (128 ∷ 128 ∷ 1 ∷ []) 0 ≡ None
unfolding found_at found_from
too_many = refl

-- `ff` and the end of the image
cut_short : found_at 2 (255 ∷ []) 0 ≡ None
unfolding found_at found_from
cut_short = refl
