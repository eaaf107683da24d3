-- One comparison tests several bits of a word: it holds exactly if each of them is as it is wanted. Assumes nothing.
use mathlib.Core.Path.{◌≡◌, refl, sym, ap, ap₂, ◌∙◌}
use mathlib.Core.Bool.{Bool, true, false, not, ◌&&◌}
use mathlib.Core.List.{List, [], ◌∷◌}
use Prim.Native.Nat.{ℕ, suc, ◌+◌, ◌*◌, ◌-◌, ◌/◌, ◌%◌, ◌^◌, ◌≤◌, ◌<◌}
use native.Mathlib.Nat.{le_refl, lt_of_le_of_lt, mod-lt, pow-suc}
use native.Mathlib.Omega.{arith}
use lib.Bits.{bit_and, and_zero_r, and_mask, and_block, and_le_r}
use lib.Dec.{eqb}
use lib.Pow.{pow_pos, pow_mono, split, mod-mod-pow}
use borrow.Author.Tests.{eqb-true, eqb-false, eq-eqb, ne_eqb}
use Rattle.word.specs.Word.{flag, bit_of}
use Rattle.select.specs.Keys.{WantedBit, care_of, wanted_of, test_of, ready_word}

-- the places fall, from below k
abbrev pub Falling : ℕ → List WantedBit → Type 0
Falling k [] = Unit
Falling k (b ∷ bs) = (b.place < k) × Falling b.place bs

-- a bit that is as it is wanted, and all of them
abbrev pub is_as : Bool → Bool → Bool
is_as true x = x
is_as false x = not x

abbrev pub bits_are : List WantedBit → ℕ → Bool
bits_are [] w = true
bits_are (b ∷ bs) w = bits_are bs w && is_as b.set (flag b.place w)

care_fits : (k : ℕ) (bs : List WantedBit) → Falling k bs → care_of bs < 2 ^ k
care_fits k [] f = pow_pos k
care_fits k (b ∷ bs) f =
    let i : ℕ = b.place in
    let below : care_of bs < 2 ^ i = care_fits i bs f.1 in
    let larger : 2 ^ suc i ≤ 2 ^ k = pow_mono f.0 in
    omega (arith, below, pow-suc 2 i, larger)

wanted_care : (bs : List WantedBit) → wanted_of bs ≤ care_of bs
wanted_care [] = le_refl 0
wanted_care (b ∷ bs) = go b.set (wanted_care bs)
  where
    go : (set : Bool) → wanted_of bs ≤ care_of bs → bit_of set * 2 ^ b.place + wanted_of bs ≤ 1 * 2 ^ b.place + care_of bs
    go true rest = omega (arith, rest)
    go false rest = omega (arith, rest)

-- a bit of what stands below k
pub bit_below : (x i k : ℕ) → i < k → x % 2 ^ k / 2 ^ i % 2 ≡ x / 2 ^ i % 2
bit_below x i k h =
    let above : k ≡ k - suc i + 1 + i = omega arith in
    ap (λ (j : ℕ). x % 2 ^ j / 2 ^ i % 2) above ∙ ap (λ (y : ℕ). y % 2) (lib.Pow.field x (k - suc i + 1) i) ∙ mod-mod-pow (x / 2 ^ i) (k - suc i) 1

bits_below : (j k : ℕ) (bs : List WantedBit) (w : ℕ) → j ≤ k → Falling j bs → bits_are bs (w % 2 ^ k) ≡ bits_are bs w
bits_below j k [] w h f = refl
bits_below j k (b ∷ bs) w h f =
    ap₂ (λ (x y : Bool). x && is_as b.set y) (bits_below b.place k bs w (omega (arith, h, f.0)) f.1)
    (ap (λ (x : ℕ). eqb x 1) (bit_below w b.place k (omega (arith, h, f.0))))

none_after : (x : Bool) → (x && false) ≡ false
none_after true = refl
none_after false = refl

-- a bit with what stands below it
top_and_rest : (set : Bool) (a t x y : ℕ) → a < 2 → x < t → y < t → eqb (a * t + x) (bit_of set * t + y) ≡ (eqb x y && is_as set (eqb a 1))
top_and_rest set a t x y two low lower = go set (eqb a 1) refl
  where
    alike : (c : ℕ) (q : Bool) → eqb x y ≡ q → eqb (c + x) (c + y) ≡ (q && true)
    alike c true e = eq-eqb (c + x) (c + y) (ap (λ (z : ℕ). c + z) (eqb-true x y e))
    alike c false e = ne_eqb (c + x) (c + y) (λ p. eqb-false x y e (omega (arith, p)))

    go : (set p : Bool) → eqb a 1 ≡ p → eqb (a * t + x) (bit_of set * t + y) ≡ (eqb x y && is_as set p)
    go true true f = rw (eqb-true a 1 f) (alike (1 * t) (eqb x y) refl)
    go false false f = let none : a ≡ 0 = omega (arith, two, eqb-false a 1 f) in rw none (alike (0 * t) (eqb x y) refl)
    go true false f =
        let none : a ≡ 0 = omega (arith, two, eqb-false a 1 f) in
        rw none (ne_eqb (0 * t + x) (1 * t + y) (λ p. omega (arith, p, low)) ∙ sym (none_after (eqb x y)))
    go false true f = rw (eqb-true a 1 f) (ne_eqb (1 * t + x) (0 * t + y) (λ p. omega (arith, p, lower)) ∙ sym (none_after (eqb x y)))

pub bits_test : (k : ℕ) (bs : List WantedBit) → Falling k bs → (w : ℕ) → ready_word (test_of bs) w ≡ bits_are bs w
bits_test k [] f w = ap (λ (x : ℕ). eqb x 0) (and_zero_r w)
bits_test k (b ∷ bs) f w =
    let i : ℕ = b.place in
    let t : ℕ = 2 ^ i in
    let low : w % t < t = mod-lt w (pow_pos i) in
    let care : care_of bs < t = care_fits i bs f.1 in
    let rest : ℕ = bit_and (w % t) (care_of bs) in
    let parts : bit_and w (1 * t + care_of bs) ≡ w / t % 2 * t + rest =
    ap (λ (x : ℕ). bit_and x (1 * t + care_of bs)) (sym (split w i))
    ∙ and_block i (w / t) 1 (w % t) (care_of bs) low care
    ∙ ap (λ (x : ℕ). x * t + rest) (and_mask (w / t) 1) in
    ap (λ (x : ℕ). eqb x (bit_of b.set * t + wanted_of bs)) parts
    ∙ top_and_rest b.set (w / t % 2) t rest (wanted_of bs) (omega arith) (lt_of_le_of_lt (and_le_r (w % t) (care_of bs)) care) (lt_of_le_of_lt (wanted_care bs) care)
    ∙ ap (λ (x : Bool). x && is_as b.set (flag i w)) (bits_test i bs f.1 (w % t) ∙ bits_below i i bs w (le_refl i) f.1)
