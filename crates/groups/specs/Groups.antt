-- A number in an image. Document 02, One: "The image is numbers in seven-bit groups, lowest group first, top bit meaning more, shortest form
-- only: each further group is read the same way, one group fewer left." IMAGE.md: "A number stands alone: no lengths, no padding".
use Rattle.std.specs.Prelude.{Bool, true, cond, Option, Some, None, List, [], ◌∷◌, ◌++◌, ◌≡◌, ℕ, zero, suc, ◌+◌, ◌-◌, ◌*◌, ◌/◌, ◌%◌, ◌≤◌, ◌<◌, eqb, ltb, length, drop}
use Rattle.std.proofs.lemmas.List.Edits.{sets}
use Rattle.groups.specs.declared.Group.{Group}
use Rattle.groups.specs.declared.Writer.{Writer}
use Rattle.groups.specs.declared.Group.TheVariants.{Last, More, Missing}

-- the bytes of n, after at most k groups that are not the last: "lowest first, top bit set where more follow, in the shortest form only"
unfoldable pub groups_within : ℕ → ℕ → List ℕ
groups_within zero n = n ∷ []
groups_within (suc k) n = cond (ltb n 128) (n ∷ []) ((128 + n % 128) ∷ groups_within k (n / 128))

-- n are always enough
unfoldable pub groups : ℕ → List ℕ
groups n = groups_within n n

-- the bytes of numbers, one after another
unfoldable pub spelled : List ℕ → List ℕ
spelled [] = []
spelled (n ∷ ns) = groups n ++ spelled ns

-- How numbers are read and written. A reader need not believe what follows: `found_reads` and `found_exact` (proofs/Reading.antt) say that a
-- number is found at a place exactly if its bytes stand there.

-- a group below what is found after it: a 0 there is a group too many ("`80 00` is no number")
abbrev pub with_group : ℕ → Option (ℕ × ℕ) → Option (ℕ × ℕ)
with_group group (Some (above, next)) = cond (eqb above 0) None (Some (group + 128 * above, next))
with_group group None = None

-- the number of at most `left` groups that begins some bytes, which stand from `at` on; what is from 256 up is no byte
unfoldable pub found_from : ℕ → List ℕ → ℕ → Option (ℕ × ℕ)
found_from zero s at = None
found_from (suc left) [] at = None
found_from (suc left) (b ∷ s) at =
    cond (ltb b 128) (Some (b, at + 1)) (cond (ltb b 256) (with_group (b - 128) (found_from left s (at + 1))) None)

-- .. and that begins at a place of the image, with the place after it
unfoldable pub found_at : ℕ → List ℕ → ℕ → Option (ℕ × ℕ)
found_at left image at = found_from left (drop at image) at

-- what one group says of the number that it begins
abbrev pub GroupHere : ℕ → List ℕ → ℕ → Group → Type 0
GroupHere left image at (Last n) = (at < length image) × (found_at left image at ≡ Some (n, at + 1))
GroupHere left image at (More group) =
    (at < length image) × ((0 < left) × ((group < 128) × (found_at left image at ≡ with_group group (found_at (left - 1) image (at + 1)))))
GroupHere left image at Missing = found_at left image at ≡ None

-- the text stands in the bytes from `at` up and nothing else changed, or nothing changed at all: measuring answers the same end
pub record Wrote (writes : Bool) (text : List ℕ) (at : ℕ) (before after : List ℕ) (end : ℕ) : Type 0 where
  pub fits : writes ≡ true → at + length text ≤ length before
  pub bytes : after ≡ cond writes (sets before at text) before
  pub past : end ≡ at + length text

-- a writer did it: its next place is then the end, and it still has the same bytes
pub record WroteBy (writes : Bool) (text : List ℕ) (before after : Writer) : Type 0 where
  pub wrote : Wrote writes text before.at before.out.now after.out.now after.at
  pub same_reference : after.out.ghost_name ≡ before.out.ghost_name
