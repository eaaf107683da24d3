-- Pieces of an image, one after another: where all of them fit each does after those before it, and pieces that were written are one
-- piece. Assumes nothing.
use mathlib.Core.Bool.{Bool, true}
use mathlib.Core.List.{List, [], ◌∷◌, ◌++◌}
use mathlib.Core.Path.{◌≡◌, refl, ap, ◌∙◌}
use Prim.Native.Nat.{ℕ, ◌+◌, ◌-◌, ◌^◌, ◌≤◌, ◌<◌}
use native.Mathlib.Omega.{arith}
use lib.ListN.{length, length-append}
use Rattle.groups.specs.declared.Writer.{Writer}
use Rattle.groups.specs.Groups.{groups, spelled, WroteBy}
use Rattle.groups.proofs.Numbers.{groups_some, spelled_one, spelled_append}
use Rattle.groups.proofs.Writing.{wrote_none, wrote_length, puts_then}
use Rattle.image.specs.Image.{each}
use Rattle.image.proofs.ByParts.{each_none, each_more, each_plus}
use Rattle.save.specs.Fitting.{Fitting, FitsIn}

pub bytes_append : (xs ys : List ℕ) → length (spelled (xs ++ ys)) ≡ length (spelled xs) + length (spelled ys)
bytes_append xs ys = rw spelled_append (length-append (spelled xs) (spelled ys))

module _ {w : Bool} {at : ℕ} {s : List ℕ} where
  -- what one number needs and is
  pub number_fits : (n : ℕ) → n < 16384 → Fitting w (n ∷ []) at s → (at < 2 ^ 32) × (n < 16384) × (w ≡ true → at + length (groups n) ≤ length s)
  number_fits n small fit =
      let some = groups_some n in
      let same : length (spelled (n ∷ [])) ≡ length (groups n) = ap length (spelled_one n) in
      let near = fit.near in
      (omega arith, small, λ e. let room = fit.room e in omega arith)

  pub fits_first : (xs ys : List ℕ) → Fitting w (xs ++ ys) at s → Fitting w xs at s
  fits_first xs ys fit =
      let sum = bytes_append xs ys in
      let near = fit.near in
      record { near = omega arith; room = λ e. let room = fit.room e in omega arith }

module _ {b : Bool} {w w' : Writer} where
  pub number_puts : (n : ℕ) → WroteBy b (groups n) w w' → WroteBy b (spelled (n ∷ [])) w w'
  number_puts n put = rw spelled_one put

  pub fits_next : (xs ys : List ℕ) → FitsIn b (xs ++ ys) w → WroteBy b (spelled xs) w w' → FitsIn b ys w'
  fits_next xs ys fit put =
      let sum = bytes_append xs ys in
      let near = fit.near in
      let past = put.wrote.past in
      let same = wrote_length put.wrote in
      record { near = omega arith; room = λ e. let room = fit.room e in omega arith }

  pub puts_more : {w'' : Writer} (xs ys : List ℕ) → WroteBy b (spelled xs) w w' → WroteBy b (spelled ys) w' w'' → WroteBy b (spelled (xs ++ ys)) w w''
  puts_more xs ys first second = rw spelled_append (puts_then first second)

-- no number is no byte
none_puts : {b : Bool} (w : Writer) {xs : List ℕ} → FitsIn b xs w → WroteBy b (spelled []) w w
unfolding spelled
none_puts {b} w fit = record { wrote = wrote_none b w.out.now w.at (λ e. let room = fit.room e in omega arith); same_reference = refl }

-- a loop over pieces
module _ {b : Bool} (w : Writer) (f : ℕ → List ℕ) where
  pub loop_starts : (xs : List ℕ) → FitsIn b xs w → WroteBy b (spelled (each f 0)) w w
  loop_starts xs fit = rw each_none (none_puts w fit)

  module _ {w' : Writer} (k : ℕ) (put : WroteBy b (spelled (each f k)) w w') where
    pub loop_fits : (n : ℕ) → k < n → FitsIn b (each f n) w → FitsIn b (f k) w'
    loop_fits n below fit =
        let e : n ≡ k + 1 + (n - (k + 1)) = omega arith in
        let rest = each (λ i. f (k + 1 + i)) (n - (k + 1)) in
        let parted : each f n ≡ (each f k ++ f k) ++ rest = ap (each f) e ∙ rw (each_plus f (k + 1) (n - (k + 1)), each_more f k) in
        fits_next (each f k) (f k) (fits_first (each f k ++ f k) rest (rw parted at fit)) put

    pub loop_goes : {w'' : Writer} → WroteBy b (spelled (f k)) w' w'' → WroteBy b (spelled (each f (k + 1))) w w''
    loop_goes next = rw each_more (puts_more (each f k) (f k) put next)
