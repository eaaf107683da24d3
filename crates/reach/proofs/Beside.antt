-- Two changes of lent words that no slot sees but the count's and the limit's: words put behind the state, and another count and limit. So no
-- call but a setup or a load changes the count or the limit. Assumes nothing.
use Rattle.std.specs.Prelude.{Some}
use mathlib.Core.Path.{◌≡◌, refl, sym, ap, ◌∙◌}
use mathlib.Core.Bool.{false}
use mathlib.Core.List.{List, [], ◌∷◌, ◌++◌}
use Prim.Native.Nat.{ℕ, zero, suc, ◌≤◌}
use native.Mathlib.Omega.{arith}
use lib.ListN.{length, get_or, set, drop, get_or-append}
use lib.Seq.{set-append_left}
use Rattle.state.specs.declared.layout.Shape.{Shape}
use Rattle.state.specs.Lent.{validated}
use Rattle.state.proofs.Validated.{validated_held}
use Rattle.history.specs.History.{Call, is_start, called}
use Rattle.reach.proofs.Around.{Around, placewise_around}
use Rattle.reach.proofs.Calls.{call_carries}

-- words behind the state
pub behind : (shape : Shape) (x : List ℕ) → Around shape (λ s. s ++ x)
behind shape x = placewise_around shape (λ s. s ++ x) (record {
  gets = λ s h k from b. get_or-append s x 0 k (let r = h.room in omega arith);
  sets = λ s h k w from b. set-append_left s x k w (let r = h.room in omega arith);
})

-- the first two words
module _ (count limit : ℕ) where
  abbrev headed : List ℕ → List ℕ
  headed s = count ∷ limit ∷ drop 2 s

  headed_get : (s : List ℕ) (k : ℕ) → 2 ≤ k → get_or (headed s) k 0 ≡ get_or s k 0
  headed_get s zero h = absurd (omega (arith, h))
  headed_get s (suc zero) h = absurd (omega (arith, h))
  headed_get [] (suc (suc k)) h = refl
  headed_get (a ∷ []) (suc (suc k)) h = refl
  headed_get (a ∷ b ∷ s) (suc (suc k)) h = refl

  headed_set : (s : List ℕ) (k w : ℕ) → 2 ≤ k → set (headed s) k w ≡ headed (set s k w)
  headed_set s zero w h = absurd (omega (arith, h))
  headed_set s (suc zero) w h = absurd (omega (arith, h))
  headed_set [] (suc (suc k)) w h = refl
  headed_set (a ∷ []) (suc (suc k)) w h = refl
  headed_set (a ∷ b ∷ s) (suc (suc k)) w h = refl

  before : (shape : Shape) → Around shape headed
  before shape = placewise_around shape headed (record { gets = λ s h k from b. headed_get s k from; sets = λ s h k w from b. headed_set s k w from })

-- a state has them
own_head : (s : List ℕ) → 2 ≤ length s → headed (get_or s 0 0) (get_or s 1 0) s ≡ s
own_head [] h = absurd (omega (arith, h))
own_head (a ∷ []) h = absurd (omega (arith, h))
own_head (a ∷ b ∷ s) h = refl

pub head_stays : {shape : Shape} (c : Call) (s : List ℕ) → is_start c ≡ false → validated s ≡ Some shape
    → (get_or (called c s).state 0 0 ≡ get_or s 0 0) × (get_or (called c s).state 1 0 ≡ get_or s 1 0)
head_stays {shape} c s other valid =
    let same = ap (λ (r : List ℕ). (called c r).state) (sym own) ∙ ap (λ o. o.state) (call_carries (before (get_or s 0 0) (get_or s 1 0) shape) s valid (ap validated own ∙ valid) c other).same in
    (ap (λ (r : List ℕ). get_or r 0 0) same, ap (λ (r : List ℕ). get_or r 1 0) same)
  where
    own : headed (get_or s 0 0) (get_or s 1 0) s ≡ s
    own = own_head s (omega (arith, (validated_held s shape valid).state.room))
