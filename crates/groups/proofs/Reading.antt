-- A number at a place of the image: its first byte decides how it is read, and the number and its bytes determine each other (`found_reads`,
-- `found_exact`). Assumes nothing.
use mathlib.Core.Path.{◌≡◌, refl, sym, ap, ◌∙◌}
use mathlib.Core.Bool.{Bool, true, false, cond}
use mathlib.Core.List.{List, [], ◌∷◌, ◌++◌}
use Prim.Native.Nat.{ℕ, zero, suc, ◌+◌, ◌-◌, ◌*◌, ◌/◌, ◌%◌, ◌^◌, ◌≤◌, ◌<◌}
use native.Mathlib.Nat.{pow-suc, lt_irrefl}
use native.Mathlib.Numerals.{add-one}
use native.Mathlib.Omega.{arith}
use lib.Dec.{ltb, eqb}
use lib.ListN.{length, get_or, drop, drop_of_length-le, length-drop, length-append}
use lib.Seq.{drop-cons, drop-drop, drop-append_seam}
use borrow.Author.Tests.{lt-ltb, le-ltb, ltb-true, ltb-false, ne_eqb, eqb-false}
use Rattle.std.specs.Prelude.{Option, Some, None}
use Rattle.std.proofs.lemmas.Option.{none-some, some_pair_parts}
use Rattle.groups.specs.Groups.{groups, with_group, found_from, found_at}
use Rattle.groups.proofs.Numbers.{groups_short, groups_long, groups_below, groups_some, shorter}

pub found_no_group : (image : List ℕ) (at : ℕ) → found_at 0 image at ≡ None
unfolding found_at found_from
found_no_group image at = refl

pub found_past : (left : ℕ) (image : List ℕ) (at : ℕ) → length image ≤ at → found_at left image at ≡ None
unfolding found_at found_from
found_past zero image at h = refl
found_past (suc left) image at h = rw (drop_of_length-le image h)

pub found_last : (left : ℕ) (image : List ℕ) (at : ℕ) → 0 < left → at < length image → get_or image at 0 < 128 → found_at left image at ≡ Some (get_or image at 0, at + 1)
unfolding found_at found_from
found_last zero image at l h small = absurd (lt_irrefl 0 l)
found_last (suc left) image at l h small = rw (drop-cons image at 0 h, lt-ltb (get_or image at 0) 128 small)

pub found_more : (left : ℕ) (image : List ℕ) (at : ℕ) → 0 < left → at < length image → 128 ≤ get_or image at 0 → get_or image at 0 < 256
    → found_at left image at ≡ with_group (get_or image at 0 - 128) (found_at (left - 1) image (at + 1))
unfolding found_at found_from
found_more zero image at l h low high = absurd (lt_irrefl 0 l)
found_more (suc left) image at l h low high =
    let e : suc left - 1 ≡ left = omega arith in
    rw (drop-cons image at 0 h, le-ltb (get_or image at 0) 128 low, lt-ltb (get_or image at 0) 256 high, e, add-one at)

-- a group that more follow, where none may
pub found_alone : (image : List ℕ) (at : ℕ) → at < length image → 128 ≤ get_or image at 0 → get_or image at 0 < 256 → found_at 1 image at ≡ None
found_alone image at h low high = found_more 1 image at (omega arith) h low high ∙ rw (found_no_group image (at + 1))

last : (left b : ℕ) (s : List ℕ) (at : ℕ) → b < 128 → found_from (suc left) (b ∷ s) at ≡ Some (b, at + 1)
unfolding found_from
last left b s at h = simp (lt-ltb b 128 h)

more : (left g : ℕ) (s : List ℕ) (at : ℕ) → g < 128 → found_from (suc left) ((128 + g) ∷ s) at ≡ with_group g (found_from left s (at + 1))
unfolding found_from
more left g s at h = let e : 128 + g - 128 ≡ g = omega arith in simp (le-ltb (128 + g) 128 (omega arith), lt-ltb (128 + g) 256 (omega arith), e)

-- what was written is read back, whatever follows it
read_back : (left n : ℕ) (s : List ℕ) (at : ℕ) → n < 128 ^ suc left → found_from (suc left) (groups n ++ s) at ≡ Some (n, at + length (groups n))
read_back zero n s at h = let small : n < 128 = h in rw (groups_short n small) (last 0 n s at small)
read_back (suc left) n s at h = go (ltb n 128) refl (read_back left (n / 128) s (at + 1) (shorter n (suc left) h))
  where
    go : (b : Bool) → ltb n 128 ≡ b → found_from (suc left) (groups (n / 128) ++ s) (at + 1) ≡ Some (n / 128, at + 1 + length (groups (n / 128)))
        → found_from (suc (suc left)) (groups n ++ s) at ≡ Some (n, at + length (groups n))
    go true p rest = rw (groups_short n (ltb-true n 128 p)) (last (suc left) n s at (ltb-true n 128 p))
    go false p rest =
        let big = ltb-false n 128 p in
        let nonzero : n / 128 ≡ 0 → ⊥ = λ e. omega arith in
        let whole : n % 128 + 128 * (n / 128) ≡ n = omega arith in
        let end : at + 1 + length (groups (n / 128)) ≡ at + suc (length (groups (n / 128))) = omega arith in
        rw (groups_long n big) (more (suc left) (n % 128) (groups (n / 128) ++ s) at (omega arith) ∙ rw (rest, ne_eqb (n / 128) 0 nonzero, whole, end))

-- the bytes s, which stand from `at` on, begin with those of n, and `next` is past them
record Begins (left n next : ℕ) (s : List ℕ) (at : ℕ) : Type 0 where
  small : n < 128 ^ left
  past : next ≡ at + length (groups n)
  bytes : s ≡ groups n ++ drop (length (groups n)) s

power_pos : (k : ℕ) → 0 < 128 ^ k
power_pos zero = omega arith
power_pos (suc k) = let e : 128 ^ suc k ≡ 128 ^ k * 128 = pow-suc 128 k in let h = power_pos k in omega arith

begins_last : (left b : ℕ) (s : List ℕ) (at : ℕ) → b < 128 → Begins (suc left) b (at + 1) (b ∷ s) at
begins_last left b s at h =
    let one = groups_short b h in
    let e : 128 ^ suc left ≡ 128 ^ left * 128 = pow-suc 128 left in
    let positive = power_pos left in
    record { small = omega arith; past = rw one; bytes = rw one }

begins_more : (left b m next : ℕ) (s : List ℕ) (at : ℕ) → 128 ≤ b → b < 256 → (m ≡ 0 → ⊥) → Begins left m next s (at + 1) → Begins (suc left) (b - 128 + 128 * m) next (b ∷ s) at
begins_more left b m next s at low high nonzero it =
    let whole : 128 + (b - 128) ≡ b = omega arith in
    let long : groups (b - 128 + 128 * m) ≡ b ∷ groups m = groups_below (b - 128) m (omega arith) nonzero ∙ rw whole in
    let e : 128 ^ suc left ≡ 128 ^ left * 128 = pow-suc 128 left in
    let small = it.small in
    let past = it.past in
    record { small = omega arith; past = rw long (omega arith); bytes = rw long (ap (λ (x : List ℕ). b ∷ x) it.bytes) }

-- the bytes that give a number are its bytes
exact : (left n next : ℕ) (s : List ℕ) (at : ℕ) → found_from left s at ≡ Some (n, next) → Begins left n next s at
unfolding found_from
exact zero n next s at e = absurd (none-some _ e)
exact (suc left) n next [] at e = absurd (none-some _ e)
exact (suc left) n next (b ∷ s) at e = go (ltb b 128) (ltb b 256) refl refl (found_from left s (at + 1)) refl e (λ m end. exact left m end s (at + 1))
  where
    go : (x y : Bool) → ltb b 128 ≡ x → ltb b 256 ≡ y → (above : Option (ℕ × ℕ)) → found_from left s (at + 1) ≡ above → cond x (Some (b, at + 1)) (cond y (with_group (b - 128) above) None) ≡ Some (n, next)
        → ((m end : ℕ) → found_from left s (at + 1) ≡ Some (m, end) → Begins left m end s (at + 1)) → Begins (suc left) n next (b ∷ s) at
    go true y p q above f e rest =
        let same = some_pair_parts b n (at + 1) next e in
        rw (← same.0, ← same.1) (begins_last left b s at (ltb-true b 128 p))
    go false false p q above f e rest = absurd (none-some _ e)
    go false true p q None f e rest = absurd (none-some _ e)
    go false true p q (Some (m, end)) f e rest = pick (eqb m 0) refl e
      where
        pick : (z : Bool) → eqb m 0 ≡ z → cond {A = Option (ℕ × ℕ)} z None (Some (b - 128 + 128 * m, end)) ≡ Some (n, next) → Begins (suc left) n next (b ∷ s) at
        pick true r e = absurd (none-some _ e)
        pick false r e =
            let same = some_pair_parts (b - 128 + 128 * m) n end next e in
            rw (← same.0, ← same.1) (begins_more left b m end s at (ltb-false b 128 p) (ltb-true b 256 q) (eqb-false m 0 r) (rest m end f))

-- a number of at most three groups, with a group below it, fits 32 bits
pub above_small : (left n next : ℕ) (image : List ℕ) (at : ℕ) → left ≤ 3 → found_at left image at ≡ Some (n, next) → n < 2097152
unfolding found_at
above_small left n next image at h e = go left h (exact left n next (drop at image) at e).small
  where
    go : (k : ℕ) → k ≤ 3 → n < 128 ^ k → n < 2097152
    go zero h s = let e : n < 1 = s in omega arith
    go (suc zero) h s = let e : n < 128 = s in omega arith
    go (suc (suc zero)) h s = let e : n < 16384 = s in omega arith
    go (suc (suc (suc zero))) h s = s
    go (suc (suc (suc (suc k)))) h s = absurd (lt_irrefl 0 (omega arith))

-- past a text that stands at a place stands what follows it
pub drop_past : (image text rest : List ℕ) (at : ℕ) → drop at image ≡ text ++ rest → drop (at + length text) image ≡ rest
drop_past image text rest at e = sym (drop-drop (length text) at image) ∙ (ap (drop (length text)) e ∙ drop-append_seam text rest)

-- where the bytes of a number of the format stand, it is found
pub found_reads : (image : List ℕ) (at n : ℕ) (rest : List ℕ) → n < 16384 → drop at image ≡ groups n ++ rest → found_at 2 image at ≡ Some (n, at + length (groups n))
unfolding found_at
found_reads image at n rest small e = ap (λ (s : List ℕ). found_from 2 s at) e ∙ read_back 1 n rest at small

-- n stands in the image from `at` to `next`
pub record Stands (image : List ℕ) (at n next : ℕ) : Type 0 where
  pub small : n < 16384
  pub bytes : drop at image ≡ groups n ++ drop next image
  pub past : next ≡ at + length (groups n)
  pub onward : at < next
  pub there : next ≤ length image

-- .. and nowhere else is it found
pub found_exact : (image : List ℕ) (at n next : ℕ) → found_at 2 image at ≡ Some (n, next) → Stands image at n next
unfolding found_at
found_exact image at n next e =
    let it = exact 2 n next (drop at image) at e in
    let past = it.past in
    let some = groups_some n in
    let all = ap length it.bytes ∙ length-append (groups n) (drop (length (groups n)) (drop at image)) in
    let from = length-drop at image in
    record {
      small = it.small;
      bytes = it.bytes ∙ ap (λ (s : List ℕ). groups n ++ s) (drop-drop (length (groups n)) at image ∙ ap (λ (i : ℕ). drop i image) (sym past));
      past = past;
      onward = omega arith;
      there = omega arith;
    }
