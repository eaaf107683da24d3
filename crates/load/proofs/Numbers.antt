-- A number that was found has passed its test. Assumes nothing.
use mathlib.Core.Path.{◌≡◌, refl, sym, ap, ◌∙◌}
use mathlib.Core.Bool.{Bool, true, false, cond}
use mathlib.Core.List.{List, [], ◌∷◌}
use Prim.Native.Nat.{ℕ, ◌+◌, ◌-◌, ◌*◌, ◌≤◌, ◌<◌}
use native.Mathlib.Omega.{arith}
use lib.Dec.{eqb, leb, ltb}
use lib.ListN.{drop}
use borrow.Author.Tests.{leb-true, le-leb, lt-leb, ltb-true, eqb-false}
use Rattle.std.specs.Prelude.{Option, Some, None}
use Rattle.std.proofs.lemmas.Option.{none-some, cond_some}
use Rattle.groups.specs.Groups.{with_group, found_from, found_at}
use Rattle.load.specs.Reading.{passing, number_up_to}

pub passed : (test : ℕ → Bool) (f : Option (ℕ × ℕ)) (n next : ℕ) → passing test f ≡ Some (n, next) → test n ≡ true
passed test None n next e = absurd (none-some _ e)
passed test (Some (m, end)) n next e =
    let it = cond_some (test m) (m, end) (n, next) e in
    let same : m ≡ n = ap (λ (pair : ℕ × ℕ). pair.0) it.1 in
    rw (← same) it.0

-- what was read up to a bound is within it
pub within : (most : ℕ) (image : List ℕ) (at : ℕ) (r : Option (ℕ × ℕ)) (n next : ℕ) → r ≡ number_up_to most image at → r ≡ Some (n, next) → n ≤ most
within most image at r n next read e = leb-true n most (passed (λ k. leb k most) (found_at 2 image at) n next (sym read ∙ e))

-- a number below 128 has one group
pub small_found : (most : ℕ) (image : List ℕ) (at : ℕ) → most < 128 → number_up_to most image at ≡ passing (λ n. leb n most) (found_at 1 image at)
unfolding found_at found_from
small_found most image at small = first (drop at image)
  where
    above : (g : ℕ) (f : Option (ℕ × ℕ)) → passing (λ n. leb n most) (with_group g f) ≡ None
    above g None = refl
    above g (Some (m, next)) = go (eqb m 0) refl
      where
        go : (z : Bool) → eqb m 0 ≡ z → passing (λ n. leb n most) (cond {A = Option (ℕ × ℕ)} z None (Some (g + 128 * m, next))) ≡ None
        go true p = refl
        go false p = simp (lt-leb (g + 128 * m) most (omega (arith, eqb-false m 0 p)))

    long : (b : ℕ) (s : List ℕ) (y : Bool) → passing (λ n. leb n most) (cond y (with_group (b - 128) (found_from 1 s (at + 1))) None) ≡ passing (λ n. leb n most) (cond y None None)
    long b s true = above (b - 128) (found_from 1 s (at + 1))
    long b s false = refl

    first : (s : List ℕ) → passing (λ n. leb n most) (found_from 2 s at) ≡ passing (λ n. leb n most) (found_from 1 s at)
    first [] = refl
    first (b ∷ s) = go (ltb b 128)
      where
        go : (x : Bool) → passing (λ n. leb n most) (cond {A = Option (ℕ × ℕ)} x (Some (b, at + 1)) (cond (ltb b 256) (with_group (b - 128) (found_from 1 s (at + 1))) None))
            ≡ passing (λ n. leb n most) (cond {A = Option (ℕ × ℕ)} x (Some (b, at + 1)) (cond (ltb b 256) None None))
        go true = refl
        go false = long b s (ltb b 256)

-- .. and what has one group is below 128
pub one_group : (image : List ℕ) (at : ℕ) → found_at 1 image at ≡ passing (λ n. leb n 127) (found_at 1 image at)
unfolding found_at found_from
one_group image at = first (drop at image)
  where
    first : (s : List ℕ) → found_from 1 s at ≡ passing (λ n. leb n 127) (found_from 1 s at)
    first [] = refl
    first (b ∷ s) = go (ltb b 128) refl (ltb b 256)
      where
        go : (x : Bool) → ltb b 128 ≡ x → (y : Bool) → cond {A = Option (ℕ × ℕ)} x (Some (b, at + 1)) (cond y None None) ≡ passing (λ n. leb n 127) (cond {A = Option (ℕ × ℕ)} x (Some (b, at + 1)) (cond y None None))
        go true p y = let low = ltb-true b 128 p in simp (le-leb b 127 (omega arith))
        go false p true = refl
        go false p false = refl
