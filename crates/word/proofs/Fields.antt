-- Laws of fields in a word, once for every place and width: a packed field is read back, fields that fit give a word that fits, and the
-- fields read off a word pack to it. Assumes nothing.
use mathlib.Core.Path.{◌≡◌, refl, sym}
use mathlib.Core.List.{List, [], ◌∷◌}
use Prim.Native.Nat.{ℕ, zero, suc, ◌+◌, ◌*◌, ◌/◌, ◌^◌, ◌<◌}
use native.Mathlib.Nat.{div-one, mod-one, add_comm}
use native.Mathlib.Omega.{arith}
use lib.Arith.{digits_lt}
use lib.Pow.{pow-add, shr-shr, high, low, mod-pow-add}
use Rattle.word.specs.Fields.{Field, bits, field, packed}

-- each value fits its width
abbrev pub Fit : List Field → Type 0
Fit [] = Unit
Fit (f ∷ fs) = (f.value < 2 ^ f.width) × Fit fs

-- how many bits the fields take together
unfoldable pub breadth : List Field → ℕ
breadth [] = 0
breadth (f ∷ fs) = f.width + breadth fs

pub packed_fits : (fs : List Field) → Fit fs → packed fs < 2 ^ breadth fs
unfolding packed breadth
packed_fits [] h = omega arith
packed_fits (f ∷ fs) h = rw (add_comm f.width (breadth fs), pow-add) (digits_lt (packed_fits fs h.1) h.0)

-- field i, and its place; past the last there is an empty one
unfoldable pub at : ℕ → List Field → Field
at i [] = bits 0 0
at zero (f ∷ fs) = f
at (suc i) (f ∷ fs) = at i fs

unfoldable pub place : ℕ → List Field → ℕ
place i [] = 0
place zero (f ∷ fs) = 0
place (suc i) (f ∷ fs) = f.width + place i fs

-- a packed field is read back
pub field_packed : (i : ℕ) (fs : List Field) → Fit fs → field (place i fs) (at i fs).width (packed fs) ≡ (at i fs).value
unfolding packed at place
field_packed i [] h = refl
field_packed zero (f ∷ fs) h = rw div-one (low (packed fs) f.width h.0)
field_packed (suc i) (f ∷ fs) h =
    rw (← shr-shr (packed fs * 2 ^ f.width + f.value) f.width (place i fs), high (packed fs) f.width h.0) (field_packed i fs h.1)

-- the fields of w from a place up, of these widths
unfoldable pub fields_from : ℕ → List ℕ → ℕ → List Field
fields_from p [] w = []
fields_from p (k ∷ ks) w = bits k (field p k w) ∷ fields_from (p + k) ks w

unfoldable pub sum : List ℕ → ℕ
sum [] = 0
sum (k ∷ ks) = k + sum ks

-- what is read off a word packs to it
pub packed_fields : (p : ℕ) (ks : List ℕ) (w : ℕ) → packed (fields_from p ks w) ≡ field p (sum ks) w
unfolding packed fields_from sum
packed_fields p [] w = sym (mod-one (w / 2 ^ p))
packed_fields p (k ∷ ks) w = rw (packed_fields (p + k) ks w, add_comm k (sum ks), mod-pow-add (w / 2 ^ p) (sum ks) k, shr-shr w p k)
