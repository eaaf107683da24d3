-- A number is another or it is not, and one that is not past the last is the last or before it: the two steps that inductions over an index
-- take. Assumes nothing.
use mathlib.Core.Path.{◌≡◌, refl}
use mathlib.Core.Bool.{Bool, true, false}
use Prim.Native.Nat.{ℕ, suc, ◌<◌}
use native.Mathlib.Omega.{arith}
use lib.Dec.{eqb}
use borrow.Author.Tests.{eqb-true, eqb-false}

pub same_or {ℓ} : {X : Type ℓ} (i j : ℕ) → (i ≡ j → X) → ((i ≡ j → ⊥) → X) → X
same_or {X = X} i j same other = go (eqb i j) refl
  where
    go : (b : Bool) → eqb i j ≡ b → X
    go true e = same (eqb-true i j e)
    go false e = other (eqb-false i j e)

pub last_or {ℓ} : {X : Type ℓ} (i n : ℕ) → i < suc n → (i ≡ n → X) → (i < n → X) → X
last_or i n h last earlier = same_or i n last (λ d. earlier (omega arith))
