-- "The bits of both": of fields, of flags, and of sets that are gathered bit by bit. Assumes nothing.
use mathlib.Core.Path.{◌≡◌, refl, sym, ap, ap₂, ◌∙◌}
use mathlib.Core.Bool.{Bool, true, false, not, ◌&&◌, ◌||◌}
use Prim.Native.Nat.{ℕ, zero, suc, ◌+◌, ◌*◌, ◌-◌, ◌/◌, ◌%◌, ◌^◌, ◌<◌}
use native.Mathlib.Nat.{add_comm}
use native.Mathlib.Omega.{arith}
use lib.Bits.{bit_and, bit_or, or_shr, or_mod, or_zero_l, and_zero_l, or_add_and, or_lt, or_block, and_le_l}
use lib.Dec.{eqb}
use Rattle.interrupt.specs.Types.{every_vcpu}
use Rattle.word.specs.Fields.{field, gathered}
use Rattle.word.specs.Word.{bit_of, flag}
use Rattle.word.proofs.Cases.{same_or}
use Rattle.word.proofs.Gathered.{gathered_below}
use Rattle.state.proofs.WordBits.{by_bits}
use Rattle.sgi.specs.Sgi.{merged_sources}
use Rattle.sgi.proofs.Rings.{merged_fits}
use Rattle.waiting.proofs.BitLaws.{bit_complement, both_bits}

-- of a field, and of one bit
pub or_field : (place width a b : ℕ) → field place width (bit_or a b) ≡ bit_or (field place width a) (field place width b)
or_field place width a b = ap (λ (x : ℕ). x % 2 ^ width) (or_shr a b place) ∙ or_mod (a / 2 ^ place) (b / 2 ^ place) width

one_or : (x y : ℕ) → x < 2 → y < 2 → eqb (bit_or x y) 1 ≡ (eqb x 1 || eqb y 1)
one_or x y a b =
    same_or x 1
    (λ p. rw p (same_or y 1 (λ q. rw q) (λ d. let z : y ≡ 0 = omega arith in rw z)))
    (λ d. let z : x ≡ 0 = omega arith in rw z (ap (λ (m : ℕ). eqb m 1) (or_zero_l y)))

one_and : (x y : ℕ) → x < 2 → y < 2 → eqb (bit_and x y) 1 ≡ (eqb x 1 && eqb y 1)
one_and x y a b =
    same_or x 1
    (λ p. rw p (same_or y 1 (λ q. rw q) (λ d. let z : y ≡ 0 = omega arith in rw z)))
    (λ d. let z : x ≡ 0 = omega arith in rw z (ap (λ (m : ℕ). eqb m 1) (and_zero_l y)))

pub flag_or : (i a b : ℕ) → flag i (bit_or a b) ≡ (flag i a || flag i b)
flag_or i a b = ap (λ (m : ℕ). eqb m 1) (or_field i 1 a b) ∙ one_or (field i 1 a) (field i 1 b) (omega arith) (omega arith)

flag_without : (i a b : ℕ) → i < 8 → b < 256 → flag i (bit_and a (every_vcpu - b)) ≡ (flag i a && not (flag i b))
flag_without i a b low byte =
    ap (λ (m : ℕ). eqb m 1) (both_bits i a (every_vcpu - b)) ∙ one_and (field i 1 a) (field i 1 (every_vcpu - b)) (omega arith) (omega arith)
    ∙ ap (λ (q : Bool). flag i a && q) (bit_complement i b low byte)

pub or_same : (p : Bool) → p ≡ (p || p)
or_same true = refl
or_same false = refl

-- sources merged twice
pub or_either : (p q r : Bool) → ((p || q) || r) ≡ (p || (q || r))
or_either true q r = refl
or_either false q r = refl

and_neither : (p q r : Bool) → ((p && not q) && not r) ≡ (p && not (q || r))
and_neither true true r = refl
and_neither true false r = refl
and_neither false q r = refl

pub merged_again : (on : Bool) (s x y : ℕ) → s < 256 → x < 256 → y < 256 → merged_sources on (merged_sources on s x) y ≡ merged_sources on s (bit_or x y)
merged_again on s x y a b c =
    by_bits 8 (merged_sources on (merged_sources on s x) y) (merged_sources on s (bit_or x y))
    (merged_fits on (merged_sources on s x) y (merged_fits on s x a b) c) (merged_fits on s (bit_or x y) a (or_lt 8 x y b c)) (λ i l. bits on i l)
  where
    bits : (set : Bool) (i : ℕ) → i < 8 → flag i (merged_sources set (merged_sources set s x) y) ≡ flag i (merged_sources set s (bit_or x y))
    bits true i l = flag_or i (bit_or s x) y ∙ ap (λ (p : Bool). p || flag i y) (flag_or i s x) ∙ or_either (flag i s) (flag i x) (flag i y)
        ∙ sym (flag_or i s (bit_or x y) ∙ ap (λ (p : Bool). flag i s || p) (flag_or i x y))
    bits false i l = flag_without i (bit_and s (every_vcpu - x)) y l c ∙ ap (λ (p : Bool). p && not (flag i y)) (flag_without i s x l b) ∙ and_neither (flag i s) (flag i x) (flag i y)
        ∙ sym (flag_without i s (bit_or x y) l (or_lt 8 x y b c) ∙ ap (λ (p : Bool). flag i s && not p) (flag_or i x y))

-- bits joined are some if either are
pub some_right : (x y : ℕ) → (y ≡ 0 → ⊥) → bit_or x y ≡ 0 → ⊥
some_right x y some e = some (omega (arith, e, or_add_and x y, and_le_l x y))

-- sets gathered bit by bit
bit_or_lem : (p q : Bool) → bit_or (bit_of p) (bit_of q) ≡ bit_of (p || q)
bit_or_lem true true = refl
bit_or_lem true false = refl
bit_or_lem false true = refl
bit_or_lem false false = refl

bit_below : (p : Bool) → bit_of p < 2 ^ 1
bit_below true = omega arith
bit_below false = omega arith

pub gathered_or : (f g : ℕ → Bool) (n : ℕ) → bit_or (gathered 1 (λ i. bit_of (f i)) n) (gathered 1 (λ i. bit_of (g i)) n) ≡ gathered 1 (λ i. bit_of (f i || g i)) n
unfolding gathered
gathered_or f g zero = refl
gathered_or f g (suc n) =
    let x : ℕ = gathered 1 (λ i. bit_of (f i)) n in
    let y : ℕ = gathered 1 (λ i. bit_of (g i)) n in
    ap₂ bit_or (add_comm x (bit_of (f n) * 2 ^ (1 * n))) (add_comm y (bit_of (g n) * 2 ^ (1 * n)))
    ∙ or_block (1 * n) (bit_of (f n)) (bit_of (g n)) x y (gathered_below 1 (λ i. bit_of (f i)) (λ i. bit_below (f i)) n) (gathered_below 1 (λ i. bit_of (g i)) (λ i. bit_below (g i)) n)
    ∙ ap₂ (λ (p q : ℕ). p * 2 ^ (1 * n) + q) (bit_or_lem (f n) (g n)) (gathered_or f g n)
    ∙ add_comm (bit_of (f n || g n) * 2 ^ (1 * n)) (gathered 1 (λ i. bit_of (f i || g i)) n)
