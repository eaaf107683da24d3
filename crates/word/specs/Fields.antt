-- Fields of a word: numbers side by side, each in as many bits as its width, the first in the lowest bits.
use Rattle.std.specs.Prelude.{List, [], ◌∷◌, ℕ, zero, suc, ◌+◌, ◌*◌, ◌/◌, ◌%◌, ◌^◌}

pub record Field : Type 0 where
  pub width : ℕ
  pub value : ℕ

abbrev pub bits : ℕ → ℕ → Field
bits k x = record { width = k; value = x }

-- the number in the `width` bits of w from `place` up
abbrev pub field : ℕ → ℕ → ℕ → ℕ
field place width w = w / 2 ^ place % 2 ^ width

-- the word of some fields
unfoldable pub packed : List Field → ℕ
packed [] = 0
packed (f ∷ fs) = packed fs * 2 ^ f.width + f.value

-- fields of one width, field 0 in the lowest bits: field i of a word
abbrev pub field_at : ℕ → ℕ → ℕ → ℕ
field_at w i x = field (w * i) w x

-- and the word of n of them
unfoldable pub gathered : ℕ → (ℕ → ℕ) → ℕ → ℕ
gathered w f zero = 0
gathered w f (suc n) = gathered w f n + f n * 2 ^ (w * n)
