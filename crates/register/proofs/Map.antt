-- The laws of the Distributor's map: a class and its number name each other, the ranges lie apart and are made of whole words, and they
-- end with the frame. Assumes nothing.
use mathlib.Core.Path.{◌≡◌, refl, sym, ap, ◌∙◌}
use mathlib.Core.Bool.{Bool, true, false, cond, ◌&&◌, and-false}
use mathlib.Core.List.{List, [], ◌∷◌}
use mathlib.Core.Logic.{◌⊎◌, inl, inr}
use Prim.Native.Nat.{ℕ, zero, suc, suc-le-suc, ◌+◌, ◌*◌, ◌/◌, ◌%◌, ◌≤◌, ◌<◌}
use native.Mathlib.Nat.{zero-add, le_of_suc-le-suc, not-suc-le-zero}
use native.Mathlib.Omega.{arith}
use lib.Dec.{T, leb, ltb, eqb, leb→le, ltb→lt, eqb→eq}
use lib.ListN.{length, get_or, get_or-eq_default}
use borrow.Author.Tests.{ltb-true, ltb-false, le-ltb}
use Rattle.register.specs.declared.ranges.BitRegister.{BitRegister}
use Rattle.register.specs.declared.ranges.BitRegister.TheVariants.{Igroupr, Isenabler, Icenabler, Ispendr, Icpendr, Isactiver, Icactiver, Icfgr}
use Rattle.register.specs.declared.ranges.ByteRegister.TheVariants.{Ipriorityr, Itargetsr, Cpendsgir, Spendsgir}
use Rattle.register.specs.declared.ranges.Class.{Class}
use Rattle.register.specs.declared.ranges.Class.TheVariants.{Ctlr, Typer, Iidr, Sgir, Bits, Bytes, Other}
use Rattle.register.specs.declared.ranges.RegisterRange.{RegisterRange}
use Rattle.register.specs.Distributor.{bit_numbers_per_byte}
use Rattle.register.specs.Ranges.{ranges, nowhere, holds, range_in, range_at, class_at, class_number, range_numbered, class_of, range_of}
use Rattle.register.proofs.Table.{every, at, tabulate, get_d_tabulate}
use Rattle.register.proofs.Tests.{both_left, both_right, is_true, leb_same}

-- no row has a number from 16 up
pub numbered_past : (n : ℕ) → 16 ≤ n → range_numbered n ≡ nowhere
unfolding range_numbered ranges
numbered_past n h = get_or-eq_default ranges nowhere h

-- n is none of the numbers below k, as a `match` with an arm for each of them leaves it
abbrev pub NoneOf : ℕ → ℕ → Type 0
NoneOf zero n = Unit {0}
NoneOf (suc k) n = NoneOf k n × (n ≡ k → ⊥)

pub none_below : (k n : ℕ) → NoneOf k n → k ≤ n
none_below zero n r = omega arith
none_below (suc k) n r = let i : k ≤ n = none_below k n r.0 in let no : n ≡ k → ⊥ = r.1 in omega (arith, i, no)

-- a class is the class of its number ..
pub class_of_number : (c : Class) → class_of (class_number c) ≡ c
unfolding class_of range_numbered ranges
class_of_number Ctlr = refl
class_of_number Typer = refl
class_of_number Iidr = refl
class_of_number (Bits Igroupr) = refl
class_of_number (Bits Isenabler) = refl
class_of_number (Bits Icenabler) = refl
class_of_number (Bits Ispendr) = refl
class_of_number (Bits Icpendr) = refl
class_of_number (Bits Isactiver) = refl
class_of_number (Bits Icactiver) = refl
class_of_number (Bytes Ipriorityr) = refl
class_of_number (Bytes Itargetsr) = refl
class_of_number (Bits Icfgr) = refl
class_of_number Sgir = refl
class_of_number (Bytes Cpendsgir) = refl
class_of_number (Bytes Spendsgir) = refl
class_of_number Other = refl

-- .. and a number is the number of its class, row by row
numbered : ℕ → RegisterRange → Bool
numbered n r = eqb (class_number r.class) n

numbered_row : (n : ℕ) → n < 16 → class_number (class_of n) ≡ n
unfolding class_of range_numbered ranges numbered
numbered_row n h = eqb→eq (class_number (range_numbered n).class) n (at numbered ranges tt n nowhere h)

pub number_of_class : (n : ℕ) → n ≤ 16 → class_number (class_of n) ≡ n
unfolding class_of
number_of_class n h = go (ltb n 16) refl
  where
    go : (t : Bool) → ltb n 16 ≡ t → class_number (class_of n) ≡ n
    go true e = numbered_row n (ltb-true n 16 e)
    go false e = let i : 16 ≤ n = ltb-false n 16 e in ap (λ (r : RegisterRange). class_number r.class) (numbered_past n i) ∙ omega arith

-- ranges are whole words: what holds an offset holds the word around it
in_words : ℕ → RegisterRange → Bool
in_words i r = eqb (r.first % 4) 0 && eqb (r.length % 4) 0

first_word : (a o : ℕ) → a % 4 ≡ 0 → leb a (4 * (o / 4)) ≡ leb a o
first_word a o h = leb_same a o a (4 * (o / 4)) (λ i. omega arith) (λ i. omega arith)

end_word : (b o : ℕ) → b % 4 ≡ 0 → ltb (4 * (o / 4)) b ≡ ltb o b
end_word b o h = leb_same (suc o) b (suc (4 * (o / 4))) b (λ i. omega arith) (λ i. omega arith)

holds_word : (r : RegisterRange) (i o : ℕ) → T (in_words i r) → holds r (4 * (o / 4)) ≡ holds r o
unfolding in_words
holds_word r i o t =
    let f : r.first % 4 ≡ 0 = eqb→eq (r.first % 4) 0 (both_left (eqb (r.first % 4) 0) (eqb (r.length % 4) 0) t) in
    let l : r.length % 4 ≡ 0 = eqb→eq (r.length % 4) 0 (both_right (eqb (r.first % 4) 0) (eqb (r.length % 4) 0) t) in
    simp (first_word r.first o f, end_word (r.first + r.length) o (omega arith))

word_in : (rs : List RegisterRange) (i o : ℕ) → T (every in_words i rs) → range_in rs (4 * (o / 4)) ≡ range_in rs o
unfolding range_in
word_in [] i o t = refl
word_in (r ∷ rs) i o t =
    simp (
      holds_word r i o (both_left (in_words i r) (every in_words (suc i) rs) t),
      word_in rs (suc i) o (both_right (in_words i r) (every in_words (suc i) rs) t),
    )

pub range_at_word : (o : ℕ) → range_at (4 * (o / 4)) ≡ range_at o
unfolding range_at ranges in_words
range_at_word o = word_in ranges 0 o tt

starts : (r : RegisterRange) (o : ℕ) → T (holds r o) → r.first ≤ o
starts r o t = leb→le r.first o (both_left (leb r.first o) (ltb o (r.first + r.length)) t)

below : (r : RegisterRange) (o : ℕ) → T (holds r o) → o < r.first + r.length
below r o t = ltb→lt o (r.first + r.length) (both_right (leb r.first o) (ltb o (r.first + r.length)) t)

not_held : (r : RegisterRange) (o : ℕ) → r.first + r.length ≤ o → holds r o ≡ false
not_held r o h = simp (le-ltb o (r.first + r.length) h, and-false (leb r.first o))

-- ranges lie apart, each behind those before it: whichever row holds an offset is the range that holds it
behind : RegisterRange → ℕ → RegisterRange → Bool
behind r i s = leb (r.first + r.length) s.first

apart : List RegisterRange → Bool
apart [] = true
apart (r ∷ rs) = every (behind r) 0 rs && apart rs

held_in : (rs : List RegisterRange) (o : ℕ) → T (apart rs) → (n : ℕ) → n < length rs → T (holds (get_or rs n nowhere) o) → range_in rs o ≡ get_or rs n nowhere
unfolding range_in apart behind
held_in [] o t n h hit = absurd (not-suc-le-zero h)
held_in (r ∷ rs) o t zero h hit = simp (is_true (holds r o) hit)
held_in (r ∷ rs) o t (suc n) h hit =
    let s = get_or rs n nowhere in
    let k : n < length rs = le_of_suc-le-suc h in
    let far : r.first + r.length ≤ s.first = leb→le (r.first + r.length) s.first (at (behind r) rs (both_left (every (behind r) 0 rs) (apart rs) t) n nowhere k) in
    let near : s.first ≤ o = starts s o hit in
    let out : holds r o ≡ false = not_held r o (omega arith) in
    simp (out, held_in rs o (both_right (every (behind r) 0 rs) (apart rs) t) n k hit)

pub ranges_apart : (n o : ℕ) → n < 16 → T (holds (range_numbered n) o) → range_at o ≡ range_numbered n
unfolding range_at range_numbered ranges apart behind
ranges_apart n o h hit = held_in ranges o tt n h hit

-- what holds of each row that holds the offset, and of none, holds of the range at the offset
by_range : (P : RegisterRange → Type 0) (o : ℕ) (rs : List RegisterRange) → ((n : ℕ) → n < length rs → T (holds (get_or rs n nowhere) o) → P (get_or rs n nowhere)) → P nowhere → P (range_in rs o)
unfolding range_in
by_range P o [] rows none = none
by_range P o (r ∷ rs) rows none = go (holds r o) (rows 0 (omega arith)) (by_range P o rs (λ n h. rows (suc n) (suc-le-suc h)) none)
  where
    go : (b : Bool) → (T b → P r) → P (range_in rs o) → P (cond b r (range_in rs o))
    go true p q = p tt
    go false p q = q

pub by_row : (P : RegisterRange → Type 0) (o : ℕ) → ((n : ℕ) → n < 16 → T (holds (range_numbered n) o) → P (range_numbered n)) → P nowhere → P (range_at o)
unfolding range_at range_numbered ranges
by_row P o rows none = by_range P o ranges rows none

-- no range holds an offset past the frame
inside : ℕ → RegisterRange → Bool
inside i r = leb (r.first + r.length) 0x1000

rows_inside : (n : ℕ) → n < 16 → (range_numbered n).first + (range_numbered n).length ≤ 0x1000
unfolding inside range_numbered ranges
rows_inside n h = leb→le ((range_numbered n).first + (range_numbered n).length) 0x1000 (at inside ranges tt n nowhere h)

pub range_past : (o : ℕ) → 0x1000 ≤ o → range_at o ≡ nowhere
range_past o h = by_row (λ r. r ≡ nowhere) o past refl
  where
    past : (n : ℕ) → n < 16 → T (holds (range_numbered n) o) → range_numbered n ≡ nowhere
    past n l t =
        let ends : (range_numbered n).first + (range_numbered n).length ≤ 0x1000 = rows_inside n l in
        let in-it : o < (range_numbered n).first + (range_numbered n).length = below (range_numbered n) o t in
        let no : ⊥ = omega arith in
        absurd no

-- the range that holds an offset starts at or before it ..
pub range_starts : (o : ℕ) → (range_at o).first ≤ o
range_starts o = by_row (λ r. r.first ≤ o) o (λ n h t. starts (range_numbered n) o t) (omega arith)

-- .. and is the range of its class
pub range_of_class : (o : ℕ) → range_of (class_at o) ≡ range_at o
unfolding range_of range_numbered class_of
range_of_class o = by_row (λ r. range_of r.class ≡ r) o (λ n h t. ap range_numbered (numbered_row n h)) (numbered_past 16 (omega arith))

-- where a register lies, the range is of whole words around the offset
pub record Whole (r : RegisterRange) (o : ℕ) : Type 0 where
  pub starts_before : r.first ≤ o
  pub ends_behind : o < r.first + r.length
  pub first_word : r.first % 4 ≡ 0
  pub length_word : r.length % 4 ≡ 0

whole : (r : RegisterRange) (i o : ℕ) → T (in_words i r) → T (holds r o) → Whole r o
unfolding in_words
whole r i o w t =
    record {
      starts_before = starts r o t;
      ends_behind = below r o t;
      first_word = eqb→eq (r.first % 4) 0 (both_left (eqb (r.first % 4) 0) (eqb (r.length % 4) 0) w);
      length_word = eqb→eq (r.length % 4) 0 (both_right (eqb (r.first % 4) 0) (eqb (r.length % 4) 0) w);
    }

rows_in_words : (n : ℕ) → n < 16 → T (in_words n (range_numbered n))
unfolding in_words range_numbered ranges
rows_in_words n h = at in_words ranges tt n nowhere h

pub range_whole : (o : ℕ) → (range_at o ≡ nowhere) ⊎ Whole (range_at o) o
range_whole o = by_row (λ r. (r ≡ nowhere) ⊎ Whole r o) o (λ n h t. inr (whole (range_numbered n) n o (rows_in_words n h) t)) (inl refl)

-- the class numbers of the 32 places of a row, computed: what a row of the dispatch table has to be ..
unfoldable pub class_row : ℕ → List ℕ
class_row k = tabulate (λ (place : ℕ). class_number (class_at (4 * place))) (32 * k) 32

-- .. and what stands at each entry, where k is the row's number n
pub class_row_lem : {n : ℕ} (k : ℕ) → n ≡ k → (i : ℕ) → i < 32 → get_or (class_row k) i 0 ≡ class_number (class_at (4 * (32 * n + i)))
unfolding class_row
class_row_lem k at i h = get_d_tabulate number (32 * k) 32 i 0 h ∙ ap (λ (m : ℕ). number (32 * m + i)) (sym at)
  where
    number : ℕ → ℕ
    number n = class_number (class_at (4 * n))

-- the rows of the table, and what stands at each entry of each
unfoldable pub class_rows : List (List ℕ)
class_rows = tabulate class_row 0 32

pub class_rows_lem : (row i : ℕ) → row < 32 → i < 32 → get_or (get_or class_rows row []) i 0 ≡ class_number (class_at (4 * (32 * row + i)))
unfolding class_rows
class_rows_lem row i above left =
    ap (λ (numbers : List ℕ). get_or numbers i 0) (get_d_tabulate class_row 0 32 row [] above ∙ ap class_row (zero-add row))
    ∙ class_row_lem row refl i left

-- a byte belongs to 8 interrupts at most
pub few_numbers : (r : BitRegister) → bit_numbers_per_byte r ≤ 8
few_numbers Igroupr = omega arith
few_numbers Isenabler = omega arith
few_numbers Icenabler = omega arith
few_numbers Ispendr = omega arith
few_numbers Icpendr = omega arith
few_numbers Isactiver = omega arith
few_numbers Icactiver = omega arith
few_numbers Icfgr = omega arith
