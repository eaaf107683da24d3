-- Numbers one after another in an image: where they stand they are found, and what is found stands there. Assumes nothing.
use mathlib.Core.Path.{◌≡◌, refl, sym, ap, ◌∙◌}
use mathlib.Core.Bool.{Bool, true, false, cond}
use mathlib.Core.List.{List, [], ◌∷◌, ◌++◌, append_assoc}
use Prim.Native.Nat.{ℕ, zero, suc, ◌+◌, ◌≤◌, ◌<◌}
use native.Mathlib.Nat.{add-zero}
use native.Mathlib.Omega.{arith}
use lib.Dec.{leb}
use lib.ListN.{length, drop, length-append}
use borrow.Author.Tests.{le-leb}
use Rattle.std.specs.Prelude.{Option, Some, None}
use Rattle.groups.specs.Groups.{groups, spelled, found_at}
use Rattle.groups.proofs.Numbers.{spelled_append}
use Rattle.groups.proofs.Reading.{drop_past, found_reads, Stands, found_exact}
use Rattle.word.proofs.Cases.{last_or}
use Rattle.image.specs.Image.{each}
use Rattle.load.specs.Reading.{then_number, passing, number_up_to}

-- the bytes from `at` to `next` are those of these numbers
pub record Row (image : List ℕ) (at next : ℕ) (ns : List ℕ) : Type 0 where
  pub bytes : drop at image ≡ spelled ns ++ drop next image
  pub past : next ≡ at + length (spelled ns)

pub row_none : (image : List ℕ) (at : ℕ) → Row image at at []
unfolding spelled
row_none image at = record { bytes = refl; past = sym (add-zero at) }

pub row_end : {image : List ℕ} {at next : ℕ} → Row image at next [] → next ≡ at
unfolding spelled
row_end {image} {at} {next} p = p.past ∙ add-zero at

pub row_here : (image : List ℕ) (at : ℕ) (ns rest : List ℕ) → drop at image ≡ spelled ns ++ rest → Row image at (at + length (spelled ns)) ns
row_here image at ns rest e =
    record { bytes = e ∙ ap (λ (s : List ℕ). spelled ns ++ s) (sym (drop_past image (spelled ns) rest at e)); past = refl }

pub row_append : {image : List ℕ} {at mid next : ℕ} {xs ys : List ℕ} → Row image at mid xs → Row image mid next ys → Row image at next (xs ++ ys)
row_append {image} {at} {mid} {next} {xs} {ys} p q = record {
  bytes = p.bytes ∙ rw (q.bytes, spelled_append xs ys) (sym (append_assoc (spelled xs) (spelled ys) (drop next image)));
  past = let first = p.past in let second = q.past in rw (spelled_append xs ys, length-append (spelled xs) (spelled ys)) (omega arith);
}

-- a row taken apart
pub record Parted (image : List ℕ) (at next : ℕ) (xs ys : List ℕ) : Type 0 where
  pub first : Row image at (at + length (spelled xs)) xs
  pub rest : Row image (at + length (spelled xs)) next ys

pub row_parts : {image : List ℕ} {at next : ℕ} (xs ys : List ℕ) → Row image at next (xs ++ ys) → Parted image at next xs ys
row_parts {image} {at} {next} xs ys p =
    let all : drop at image ≡ spelled xs ++ (spelled ys ++ drop next image) =
    p.bytes ∙ rw (spelled_append xs ys) (append_assoc (spelled xs) (spelled ys) (drop next image)) in
    record {
      first = row_here image at xs (spelled ys ++ drop next image) all;
      rest = record {
        bytes = drop_past image (spelled xs) (spelled ys ++ drop next image) at all;
        past = let e = p.past ∙ ap (λ (s : List ℕ). at + length s) (spelled_append xs ys) in let l = length-append (spelled xs) (spelled ys) in omega arith;
      };
    }

-- lists that f gives, one after another: list i by itself
pub row_each : {image : List ℕ} {at next : ℕ} (f : ℕ → List ℕ) (n : ℕ) → Row image at next (each f n) → (i : ℕ) → i < n
    → Row image (at + length (spelled (each f i))) (at + length (spelled (each f (suc i)))) (f i)
unfolding each
row_each {image} {at} {next} f zero p i h = absurd (omega arith)
row_each {image} {at} {next} f (suc n) p i h =
    let two = row_parts (each f n) (f n) p in
    last_or i n h (λ e. rw (e, ← p.past) two.rest) (λ below. row_each {next = at + length (spelled (each f n))} f n two.first i below)

-- a row's first number, as it is found, and the row past it
pub record First (image : List ℕ) (it : Option (ℕ × ℕ)) (next n : ℕ) (ns : List ℕ) : Type 0 where
  pub place : ℕ
  pub found : it ≡ Some (n, place)
  pub rest : Row image place next ns

pub row_first : {image : List ℕ} {at next n : ℕ} {ns : List ℕ} → n < 16384 → Row image at next (n ∷ ns) → First image (found_at 2 image at) next n ns
unfolding spelled
row_first {image} {at} {next} {n} {ns} small p =
    let all : drop at image ≡ groups n ++ (spelled ns ++ drop next image) = p.bytes ∙ append_assoc (groups n) (spelled ns) (drop next image) in
    record {
      place = at + length (groups n);
      found = found_reads image at n (spelled ns ++ drop next image) small all;
      rest = record {
        bytes = drop_past image (groups n) (spelled ns ++ drop next image) at all;
        past = let e = p.past in let l = length-append (groups n) (spelled ns) in omega arith;
      };
    }

pub row_passing : {image : List ℕ} {at next n : ℕ} {ns : List ℕ} (test : ℕ → Bool) → test n ≡ true → n < 16384 → Row image at next (n ∷ ns)
    → First image (passing test (found_at 2 image at)) next n ns
row_passing test passes small p = let it = row_first small p in record { place = it.place; found = simp (it.found, passes); rest = it.rest }

pub row_bounded : {image : List ℕ} {at next n : ℕ} {ns : List ℕ} (most : ℕ) → n ≤ most → n < 16384 → Row image at next (n ∷ ns) → First image (number_up_to most image at) next n ns
row_bounded {n = n} most h = row_passing (λ n. leb n most) (le-leb n most h)

-- a number that stands somewhere, and a row past it
pub row_cons : {image : List ℕ} {at place next n : ℕ} {ns : List ℕ} → Stands image at n place → Row image place next ns → Row image at next (n ∷ ns)
unfolding spelled
row_cons {image} {at} {place} {next} {n} {ns} p q = record {
  bytes = p.bytes ∙ rw q.bytes (sym (append_assoc (groups n) (spelled ns) (drop next image)));
  past = let first = p.past in let second = q.past in rw (length-append (groups n) (spelled ns)) (omega arith);
}

-- no number is found, or one of which Q holds
pub data Shows (Q : ℕ → ℕ → Type 0) : Option (ℕ × ℕ) → Type 0 where
  none : Shows Q None
  some : {n place : ℕ} → Q n place → Shows Q (Some (n, place))

pub shown : {Q : ℕ → ℕ → Type 0} {n place : ℕ} → Shows Q (Some (n, place)) → Q n place
shown (some q) = q

-- what is read after it: P of nothing, or of what follows such a number
pub onward : {A : Type 0} {Q : ℕ → ℕ → Type 0} {it : Option (ℕ × ℕ)} (P : A → Type 0) (nothing : A) (f : ℕ → ℕ → A) → P nothing → Shows Q it → ((n place : ℕ) → Q n place → P (f n place))
    → P (then_number nothing it f)
onward P nothing f refused none go = refused
onward P nothing f refused (some {n} {place} q) go = go n place q

pub found_shows : (image : List ℕ) (at : ℕ) → Shows (Stands image at) (found_at 2 image at)
found_shows image at = go (found_at 2 image at) refl
  where
    go : (it : Option (ℕ × ℕ)) → found_at 2 image at ≡ it → Shows (Stands image at) it
    go None e = none
    go (Some (n, place)) e = some (found_exact image at n place e)

-- a number that passes a test
pub record Passing (test : ℕ → Bool) (image : List ℕ) (at n place : ℕ) : Type 0 where
  pub passes : test n ≡ true
  pub stands : Stands image at n place

pub passing_shows : (test : ℕ → Bool) (image : List ℕ) (at : ℕ) → Shows (Passing test image at) (passing test (found_at 2 image at))
passing_shows test image at = go (found_shows image at)
  where
    go : {it : Option (ℕ × ℕ)} → Shows (Stands image at) it → Shows (Passing test image at) (passing test it)
    go none = none
    go (some {n} {place} stands) = pick (test n) refl
      where
        pick : (b : Bool) → test n ≡ b → Shows (Passing test image at) (cond {A = Option (ℕ × ℕ)} b (Some (n, place)) None)
        pick false p = none
        pick true p = some (record { passes = p; stands = stands })

-- .. that of being small
abbrev pub Bounded : ℕ → List ℕ → ℕ → ℕ → ℕ → Type 0
Bounded most = Passing (λ n. leb n most)

pub bounded_shows : (most : ℕ) (image : List ℕ) (at : ℕ) → Shows (Bounded most image at) (number_up_to most image at)
bounded_shows most = passing_shows (λ n. leb n most)
