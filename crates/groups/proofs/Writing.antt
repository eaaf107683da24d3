-- What was written, or only measured: text after text is one text, and what stands past it is as it was. Assumes nothing.
use mathlib.Core.Path.{◌≡◌, refl, ap, ◌∙◌}
use mathlib.Core.Bool.{Bool, true, false, cond}
use mathlib.Core.List.{List, [], ◌∷◌, ◌++◌}
use Prim.Native.Nat.{ℕ, suc, ◌+◌, ◌≤◌, ◌<◌}
use native.Mathlib.Nat.{add-zero}
use native.Mathlib.Omega.{arith}
use lib.ListN.{length, take, drop, set, length-append}
use lib.Seq.{sets, length-sets, sets-eq, drop-set-lt, take-append_seam}
use Rattle.groups.specs.declared.Writer.{Writer}
use Rattle.groups.specs.Groups.{Wrote, WroteBy}

sets_append : (x y s : List ℕ) (i : ℕ) → sets (sets s i x) (i + length x) y ≡ sets s i (x ++ y)
sets_append [] y s i = rw add-zero
sets_append (a ∷ x) y s i = let e : i + suc (length x) ≡ suc i + length x = omega arith in rw e (sets_append x y (set s i a) (suc i))

drop_sets : (x s : List ℕ) (i n : ℕ) → i + length x ≤ n → drop n (sets s i x) ≡ drop n s
drop_sets [] s i n h = refl
drop_sets (a ∷ x) s i n h = drop_sets x (set s i a) (suc i) n (omega arith) ∙ drop-set-lt n s i a (omega arith)

pub wrote_length : {w : Bool} {x s s' : List ℕ} {at end : ℕ} → Wrote w x at s s' end → length s' ≡ length s
wrote_length {w} {x} {s} {s'} {at} {end} p = ap length p.bytes ∙ go w
  where
    go : (w : Bool) → length (cond w (sets s at x) s) ≡ length s
    go true = length-sets s at x
    go false = refl

pub wrote_none : (w : Bool) (s : List ℕ) (at : ℕ) → (w ≡ true → at ≤ length s) → Wrote w [] at s s at
wrote_none w s at h = record { fits = λ e. let room = h e in omega arith; bytes = go w; past = omega arith }
  where
    go : (w : Bool) → s ≡ cond w s s
    go true = refl
    go false = refl

pub wrote_then : {w : Bool} {x y s s' s'' : List ℕ} {at end end' : ℕ} → Wrote w x at s s' end → Wrote w y end s' s'' end' → Wrote w (x ++ y) at s s'' end'
wrote_then {w} {x} {y} {s} {s'} {s''} {at} {end} {end'} p q = record {
  fits = λ e. let room = q.fits e in let start = p.past in let same = wrote_length p in rw length-append (omega arith);
  bytes = go w p.bytes q.bytes;
  past = let first = p.past in let second = q.past in rw length-append (omega arith);
}
  where
    go : (w : Bool) → s' ≡ cond w (sets s at x) s → s'' ≡ cond w (sets s' end y) s' → s'' ≡ cond w (sets s at (x ++ y)) s
    go true f g = g ∙ rw (f, p.past) (sets_append x y s at)
    go false f g = g ∙ f

-- a text that was written at the start is what stands before its end
pub wrote_taken : {x s s' : List ℕ} {end : ℕ} → Wrote true x 0 s s' end → take end s' ≡ x
wrote_taken {x} {s} {s'} {end} p =
    let z : 0 + length x ≡ length x = omega arith in
    rw (p.bytes, p.past, sets-eq x s 0 (p.fits refl), z) (take-append_seam x _)

-- the bytes from the end on are as they were
pub wrote_rest : {w : Bool} {x s s' : List ℕ} {at end : ℕ} → Wrote w x at s s' end → drop end s' ≡ drop end s
wrote_rest {w} {x} {s} {s'} {at} {end} p = ap (drop end) p.bytes ∙ go w
  where
    go : (w : Bool) → drop end (cond w (sets s at x) s) ≡ drop end s
    go true = drop_sets x s at end (let past = p.past in omega arith)
    go false = refl

pub wrote_one : (w : Bool) (b : ℕ) (s : List ℕ) (at : ℕ) → (w ≡ true → at < length s) → Wrote w (b ∷ []) at s (cond w (set s at b) s) (at + 1)
wrote_one w b s at h = record { fits = λ e. let room = h e in omega arith; bytes = refl; past = refl }

pub puts_then : {b : Bool} {x y : List ℕ} {w w' w'' : Writer} → WroteBy b x w w' → WroteBy b y w' w'' → WroteBy b (x ++ y) w w''
puts_then p q = record { wrote = wrote_then p.wrote q.wrote; same_reference = q.same_reference ∙ p.same_reference }
