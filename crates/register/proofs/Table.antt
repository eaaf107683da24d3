-- A rule of a list, proved at all of its entries by one test that is computed, one entry after the other. Assumes nothing.
use mathlib.Core.Path.{◌≡◌, ◌∙◌, ap, subst, sym}
use mathlib.Core.Bool.{Bool, true, cond, ◌&&◌}
use mathlib.Core.List.{List, [], ◌∷◌}
use Prim.Native.Nat.{ℕ, zero, suc, ◌+◌, ◌<◌}
use native.Mathlib.Nat.{add-zero, zero-add, add-suc, suc-add, le_of_suc-le-suc, not-suc-le-zero}
use lib.Dec.{T}
use lib.ListN.{length, get_or}
use Rattle.register.proofs.Tests.{both_left, both_right}

-- the test f passes at each entry of the list and its place, counted from i
abbrev pub every {ℓ} : {A : Type ℓ} → (ℕ → A → Bool) → ℕ → List A → Bool
every f i [] = true
every f i (x ∷ xs) = f i x && every f (suc i) xs

from {ℓ} : {A : Type ℓ} (f : ℕ → A → Bool) (xs : List A) (i : ℕ) → T (every f i xs) → (k : ℕ) (d : A) → k < length xs → T (f (i + k) (get_or xs k d))
from f [] i t k d h = absurd (not-suc-le-zero h)
from f (x ∷ xs) i t zero d h = subst (λ (m : ℕ). T (f m x)) (sym (add-zero i)) (both_left (f i x) (every f (suc i) xs) t)
from f (x ∷ xs) i t (suc k) d h =
    subst (λ (m : ℕ). T (f m (get_or xs k d))) (suc-add i k ∙ sym (add-suc i k))
    (from f xs (suc i) (both_right (f i x) (every f (suc i) xs) t) k d (le_of_suc-le-suc h))

pub at {ℓ} : {A : Type ℓ} (f : ℕ → A → Bool) (xs : List A) → T (every f 0 xs) → (k : ℕ) (d : A) → k < length xs → T (f k (get_or xs k d))
at f xs t k d h = subst (λ (m : ℕ). T (f m (get_or xs k d))) (zero-add k) (from f xs 0 t k d h)

-- the values of f at n numbers from i up
abbrev pub tabulate {ℓ} : {A : Type ℓ} → (ℕ → A) → ℕ → ℕ → List A
tabulate f i zero = []
tabulate f i (suc n) = f i ∷ tabulate f (suc i) n

pub get_d_tabulate {ℓ} : {A : Type ℓ} (f : ℕ → A) (i n k : ℕ) (d : A) → k < n → get_or (tabulate f i n) k d ≡ f (i + k)
get_d_tabulate f i zero k d h = absurd (not-suc-le-zero h)
get_d_tabulate f i (suc n) zero d h = ap f (sym (add-zero i))
get_d_tabulate f i (suc n) (suc k) d h = get_d_tabulate f (suc i) n k d (le_of_suc-le-suc h) ∙ ap f (suc-add i k ∙ sym (add-suc i k))

-- of n numbers from k up, those that pass the test
abbrev pub passing : (ℕ → Bool) → ℕ → ℕ → List ℕ
passing f k zero = []
passing f k (suc n) = cond (f k) (k ∷ passing f (suc k) n) (passing f (suc k) n)
