-- The bits of a source set: one that is set stays set if bits are joined, and if other bits are cleared; one that is cleared is gone. Assumes nothing.
use mathlib.Core.Path.{◌≡◌, refl, sym, ap, ◌∙◌}
use mathlib.Core.Bool.{Bool, true, false, not, cond}
use Prim.Native.Nat.{ℕ, ◌-◌, ◌/◌, ◌%◌, ◌^◌, ◌<◌}
use native.Mathlib.Omega.{arith}
use native.Mathlib.Nat.{div-eq_of_lt, lt_of_lt_of_le}
use lib.Bits.{bit_and, bit_or, or_shr, or_mod, and_shr, and_mod, and_le_r}
use lib.Dec.{eqb, leb}
use lib.Pow.{pow_mono, pow-lt}
use borrow.Author.Tests.{eqb-true, leb-true, leb-false, eqb-false, ne_eqb, not-true}
use Rattle.interrupt.specs.Types.{every_vcpu}
use Rattle.state.specs.Loop.{every_below}
use Rattle.state.proofs.Tests.{every_at}
use Rattle.acknowledge.specs.Acknowledge.{lowest_source}
use Rattle.acknowledge.proofs.Lowest.{lowest_is}
use Rattle.waiting.specs.Waiting.{bit}

-- a byte has eight bits
pub bit_below : (x u : ℕ) → x < 256 → bit u x ≡ true → u < 8
bit_below x u b e = go (leb 8 u) refl
  where
    go : (q : Bool) → leb 8 u ≡ q → u < 8
    go true p =
        let small : x < 2 ^ u = lt_of_lt_of_le b (pow_mono (leb-true 8 u p)) in
        absurd (omega (arith, eqb-true (x / 2 ^ u % 2) 1 e, div-eq_of_lt small))
    go false p = leb-false 8 u p

-- joined
joined_one : every_below (λ x. eqb (bit_or 1 x) 1) 2 ≡ true
unfolding every_below
joined_one = refl

pub bit_or_lem : (u a b : ℕ) → bit u a ≡ true → bit u (bit_or a b) ≡ true
bit_or_lem u a b e =
    let one : a / 2 ^ u % 2 ≡ 1 = eqb-true (a / 2 ^ u % 2) 1 e in
    let is : bit_or a b / 2 ^ u % 2 ≡ bit_or 1 (b / 2 ^ u % 2) = ap (λ (x : ℕ). x % 2) (or_shr a b u) ∙ or_mod (a / 2 ^ u) (b / 2 ^ u) 1 ∙ ap (λ (x : ℕ). bit_or x (b / 2 ^ u % 2)) one in
    ap (λ (x : ℕ). eqb x 1) is ∙ every_at (λ x. eqb (bit_or 1 x) 1) 2 (b / 2 ^ u % 2) joined_one (omega arith)

-- two tests that come out alike
alike : (a b : Bool) → cond a b (not b) ≡ true → b ≡ a
alike true b e = e
alike false b e = not-true b e

-- cleared: a byte's complement has the bits that the byte has not
complement : every_below (λ u. every_below (λ b. cond (not (bit u b)) (bit u (every_vcpu - b)) (not (bit u (every_vcpu - b)))) 256) 8 ≡ true
unfolding every_below
complement = refl

pub bit_complement : (u b : ℕ) → u < 8 → b < 256 → bit u (every_vcpu - b) ≡ not (bit u b)
bit_complement u b low byte =
    alike (not (bit u b)) (bit u (every_vcpu - b))
    (every_at (λ x. cond (not (bit u x)) (bit u (every_vcpu - x)) (not (bit u (every_vcpu - x)))) 256 b (every_at (λ v. every_below (λ x. cond (not (bit v x)) (bit v (every_vcpu - x)) (not (bit v (every_vcpu - x)))) 256) 8 u complement low) byte)

pub both_bits : (u a b : ℕ) → bit_and a b / 2 ^ u % 2 ≡ bit_and (a / 2 ^ u % 2) (b / 2 ^ u % 2)
both_bits u a b = ap (λ (x : ℕ). x % 2) (and_shr a b u) ∙ and_mod (a / 2 ^ u) (b / 2 ^ u) 1

pub bit_cleared : (u a b : ℕ) → u < 8 → b < 256 → bit u a ≡ true → bit u b ≡ false → bit u (bit_and a (every_vcpu - b)) ≡ true
bit_cleared u a b low byte e f =
    let left : a / 2 ^ u % 2 ≡ 1 = eqb-true (a / 2 ^ u % 2) 1 e in
    let right : (every_vcpu - b) / 2 ^ u % 2 ≡ 1 = eqb-true ((every_vcpu - b) / 2 ^ u % 2) 1 (bit_complement u b low byte ∙ ap not f) in
    ap (λ (x : ℕ). eqb x 1) (both_bits u a (every_vcpu - b) ∙ (λ i. bit_and (left i) (right i)))

-- .. and what it has goes
pub bit_gone : (u a b : ℕ) → u < 8 → b < 256 → bit u b ≡ true → bit u (bit_and a (every_vcpu - b)) ≡ false
bit_gone u a b low byte e =
    let off : (every_vcpu - b) / 2 ^ u % 2 ≡ 1 → ⊥ = eqb-false ((every_vcpu - b) / 2 ^ u % 2) 1 (bit_complement u b low byte ∙ ap not e) in
    ne_eqb (bit_and a (every_vcpu - b) / 2 ^ u % 2) 1 (λ p. off (omega (arith, sym (both_bits u a (every_vcpu - b)) ∙ p, and_le_r (a / 2 ^ u % 2) ((every_vcpu - b) / 2 ^ u % 2))))

-- a power of two has one bit
lone : every_below (λ u. every_below (λ l. cond (eqb l u) (bit u (2 ^ l)) (not (bit u (2 ^ l)))) 8) 8 ≡ true
unfolding every_below
lone = refl

pub bit_of_power : (u l : ℕ) → u < 8 → l < 8 → bit u (2 ^ l) ≡ eqb l u
bit_of_power u l a b =
    alike (eqb l u) (bit u (2 ^ l))
    (every_at (λ x. cond (eqb x u) (bit u (2 ^ x)) (not (bit u (2 ^ x)))) 8 l (every_at (λ v. every_below (λ x. cond (eqb x v) (bit v (2 ^ x)) (not (bit v (2 ^ x)))) 8) 8 u lone a) b)

-- the lowest source taken leaves the others
pub bit_left : (x u : ℕ) → x < 256 → bit u x ≡ true → (lowest_source x ≡ u → ⊥) → bit u (bit_and x (every_vcpu - 2 ^ lowest_source x)) ≡ true
bit_left x u b e apart =
    let low : u < 8 = bit_below x u b e in
    let lowest : lowest_source x < 8 = omega (arith, (lowest_is x u e low).1, low) in
    bit_cleared u x (2 ^ lowest_source x) low (pow-lt lowest) e (bit_of_power u (lowest_source x) low lowest ∙ ne_eqb (lowest_source x) u apart)
