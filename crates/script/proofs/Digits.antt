-- A number read from the left: what the digits so far stand for, and what is left of the field, give the field's number. Assumes nothing.
use mathlib.Core.Path.{◌≡◌, refl, sym, ap, ◌∙◌}
use mathlib.Core.Bool.{Bool, true, false, cond, ◌&&◌}
use mathlib.Core.List.{List, [], ◌∷◌}
use Prim.Native.Nat.{ℕ, suc, ◌+◌, ◌-◌, ◌*◌, ◌^◌, ◌≤◌, ◌<◌}
use native.Mathlib.Nat.{add-zero}
use native.Mathlib.Numerals.{add-one}
use native.Mathlib.Omega.{arith}
use lib.Dec.{eqb, ltb}
use lib.ListN.{length, get_or, drop, drop_of_length-le}
use lib.Seq.{drop-cons}
use borrow.Author.Tests.{lt-ltb, le-ltb, eq-eqb, ne_eqb, ltb-true, ltb-false}
use Rattle.std.specs.Prelude.{Option, Some, None}
use Rattle.script.specs.declared.number.Field.{Field}
use Rattle.script.specs.Line.{is_digit, digits_only, value_after, is_number}
use Rattle.script.specs.Reading.{first_field, digit_after, parsed, ended_at, number_at}

pub and_false : (b : Bool) → (b && false) ≡ false
and_false true = refl
and_false false = refl

pub cond_same : {X : Type 0} (b : Bool) (x : X) → cond b x x ≡ x
cond_same true x = refl
cond_same false x = refl

-- a digit more is a number no smaller
grows : (v : ℕ) (f : List ℕ) → v ≤ value_after v f
unfolding value_after
grows v [] = omega arith
grows v (b ∷ bs) = let h = grows (10 * v + (b - 48)) bs in omega arith

-- the field f from the place i up, after digits that stand for v
unfoldable pub read_field : ℕ → ℕ → List ℕ → Option Field
read_field v i f = cond (digits_only f && ltb (value_after v f) (2 ^ 64)) (parsed (value_after v f) (i + length f)) None

unfoldable pub reading : ℕ → ℕ → List ℕ → Option Field
reading v i s = read_field v i (first_field s)

-- and after one digit more
abbrev pub read_on : Option ℕ → ℕ → List ℕ → Option Field
read_on (Some v) i s = reading v i s
read_on None i s = None

read_digit : (v i b : ℕ) (f : List ℕ) (d u : Bool) → is_digit b ≡ d → ltb (10 * v + (b - 48)) (2 ^ 64) ≡ u
    → read_field v i (b ∷ f) ≡ cond (d && u) (read_field (10 * v + (b - 48)) (i + 1) f) None
unfolding read_field digits_only value_after
read_digit v i b f false u p q = simp p
read_digit v i b f true true p q = let e : i + suc (length f) ≡ i + 1 + length f = omega arith in simp (p, e)
read_digit v i b f true false p q =
    let big = ltb-false (10 * v + (b - 48)) (2 ^ 64) q in
    simp (p, le-ltb (value_after (10 * v + (b - 48)) f) (2 ^ 64) (omega (arith, grows (10 * v + (b - 48)) f)), and_false)

read_on_lem : (v i b : ℕ) (t : List ℕ) → eqb b 32 ≡ false → reading v i (b ∷ t) ≡ read_on (digit_after v b) (i + 1) t
unfolding reading first_field digit_after
read_on_lem v i b t p = rw p (read_digit v i b (first_field t) (is_digit b) (ltb (10 * v + (b - 48)) (2 ^ 64)) refl refl ∙ chosen (is_digit b && ltb (10 * v + (b - 48)) (2 ^ 64)))
  where
    chosen : (x : Bool) → cond x (read_field (10 * v + (b - 48)) (i + 1) (first_field t)) None ≡ read_on (cond x (Some (10 * v + (b - 48))) None) (i + 1) t
    chosen true = refl
    chosen false = refl

read_none : (v i : ℕ) → v < 2 ^ 64 → read_field v i [] ≡ parsed v i
unfolding read_field digits_only value_after
read_none v i h = simp (lt-ltb v (2 ^ 64) h, add-zero)

module _ (line : List ℕ) (v i : ℕ) where
  -- the byte at i is no space
  pub at_byte : i < length line → (get_or line i 0 ≡ 32 → ⊥) → reading v i (drop i line) ≡ read_on (digit_after v (get_or line i 0)) (i + 1) (drop (i + 1) line)
  at_byte h p = rw (add-one i, drop-cons line i 0 h) (read_on_lem v i (get_or line i 0) (drop (suc i) line) (ne_eqb (get_or line i 0) 32 p) ∙ rw add-one)

  pub at_space : i < length line → get_or line i 0 ≡ 32 → v < 2 ^ 64 → reading v i (drop i line) ≡ parsed v i
  unfolding reading first_field
  at_space h p small = rw (drop-cons line i 0 h) (simp (eq-eqb (get_or line i 0) 32 p) (read_none v i small))

  pub at_end : length line ≤ i → v < 2 ^ 64 → reading v i (drop i line) ≡ parsed v i
  unfolding reading first_field
  at_end h small = rw (drop_of_length-le line h) (read_none v i small)

-- a digit more fits
pub digit_fits : (v b w : ℕ) → digit_after v b ≡ Some w → w < 2 ^ 64
unfolding digit_after
digit_fits v b w = go (is_digit b) (ltb (10 * v + (b - 48)) (2 ^ 64)) refl
  where
    go : (d u : Bool) → ltb (10 * v + (b - 48)) (2 ^ 64) ≡ u → cond (d && u) (Some (10 * v + (b - 48))) None ≡ Some w → w < 2 ^ 64
    go true true q e = let same : 10 * v + (b - 48) ≡ w = cc in let small = ltb-true (10 * v + (b - 48)) (2 ^ 64) q in omega arith
    go true false q e = let z : ◌≡◌ {A = ℕ} 0 1 = cc in omega arith
    go false u q e = let z : ◌≡◌ {A = ℕ} 0 1 = cc in omega arith

-- a whole field is a number if it has a digit
number_field : (at : ℕ) (f : List ℕ) → cond (is_number f) (parsed (value_after 0 f) (at + length f)) None ≡ cond (ltb 0 (length f)) (read_field 0 at f) None
unfolding is_number read_field
number_field at f = go (ltb 0 (length f))
  where
    go : (b : Bool) → cond (b && digits_only f && ltb (value_after 0 f) (2 ^ 64)) (parsed (value_after 0 f) (at + length f)) None
        ≡ cond b (cond (digits_only f && ltb (value_after 0 f) (2 ^ 64)) (parsed (value_after 0 f) (at + length f)) None) None
    go true = refl
    go false = refl

next_of : Option Field → ℕ
next_of (Some field) = field.next
next_of None = 0

-- where a field that is read ends
field_end : (at : ℕ) (f : List ℕ) (v i : ℕ) → read_field 0 at f ≡ parsed v i → at + length f ≡ i
unfolding read_field next_of
field_end at f v i = go (digits_only f && ltb (value_after 0 f) (2 ^ 64))
  where
    go : (b : Bool) → cond b (parsed (value_after 0 f) (at + length f)) None ≡ parsed v i → at + length f ≡ i
    go true e = ap next_of e
    go false e = let z : ◌≡◌ {A = ℕ} 0 1 = cc in omega arith

module _ (line : List ℕ) (at : ℕ) where
  pub number_none : reading 0 at (drop at line) ≡ None → None ≡ number_at line at
  unfolding reading number_at
  number_none e = let f = first_field (drop at line) in sym (number_field at f ∙ rw e (cond_same (ltb 0 (length f)) None))

  pub number_ended : (v i : ℕ) → reading 0 at (drop at line) ≡ parsed v i → ended_at at i v ≡ number_at line at
  unfolding reading number_at
  number_ended v i e =
      let f = first_field (drop at line) in
      let ends = field_end at f v i e in
      sym (number_field at f ∙ rw e (ap (λ (b : Bool). cond b (parsed v i) None) (same f ends)))
    where
      same : (f : List ℕ) → at + length f ≡ i → ltb 0 (length f) ≡ ltb at i
      same f ends = go (ltb at i) refl
        where
          go : (b : Bool) → ltb at i ≡ b → ltb 0 (length f) ≡ b
          go true p = let h = ltb-true at i p in lt-ltb 0 (length f) (omega arith)
          go false p = let h = ltb-false at i p in le-ltb 0 (length f) (omega arith)
