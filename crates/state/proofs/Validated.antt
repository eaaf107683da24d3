-- What the test of lent words means: a count and limit that pass are in the limits, and words pass exactly if they hold a state whose
-- depths fit. Assumes nothing.
use Rattle.std.specs.Prelude.{Option, Some, None}
use mathlib.Core.Path.{◌≡◌, refl, sym, ap}
use mathlib.Core.Bool.{Bool, true, false, cond, ◌&&◌, and-false}
use mathlib.Core.List.{List}
use Prim.Native.Nat.{ℕ}
use native.Mathlib.Omega.{arith}
use lib.Dec.{leb}
use lib.ListN.{length, get_or}
use borrow.Author.Tests.{leb-true, le-leb}
use Rattle.state.specs.declared.layout.Shape.{Shape}
use Rattle.state.specs.declared.layout.InterfaceValue.TheVariants.{Depth}
use Rattle.state.specs.Layout.{Interface, stack_capacity, size, Limits}
use Rattle.state.specs.Loop.{every_below}
use Rattle.state.specs.Words.{word_at}
use Rattle.state.specs.Lent.{in_limits, shaped, limited, stored_shape, depth_fits, lent_as, validated, HoldsState}
use Rattle.state.proofs.Tests.{left_true, right_true, every_at, every_true}

-- a limit of 0 is no limit
pub no_limit : (count : ℕ) → limited count 0 ≡ None
unfolding limited
no_limit count = simp and-false

shaped_limits : (count limit : ℕ) → in_limits count limit ≡ true → Limits (shaped count limit)
shaped_limits count limit e =
    let a = leb 1 count in
    let b = leb count 8 in
    let d = leb 32 limit in
    let f = leb limit 1020 in
    let abd = left_true (a && b && d) f e in
    let ab = left_true (a && b) d abd in
    record {
      some_vcpu = leb-true 1 count (left_true a b ab);
      few_vcpus = leb-true count 8 (right_true a b ab);
      private_numbers_lem = leb-true 32 limit (right_true (a && b) d abd);
      few_numbers = leb-true limit 1020 (right_true (a && b && d) f e);
    }

pub limited_shape : (count limit : ℕ) (shape : Shape) → limited count limit ≡ Some shape → shape ≡ shaped count limit
unfolding limited
limited_shape count limit shape = go (in_limits count limit)
  where
    go : (b : Bool) → cond b (Some (shaped count limit)) None ≡ Some shape → shape ≡ shaped count limit
    go true e = cc
    go false e = cc

pub limited_limits : (count limit : ℕ) (shape : Shape) → limited count limit ≡ Some shape → Limits shape
unfolding limited
limited_limits count limit shape = go (in_limits count limit) refl
  where
    go : (b : Bool) → in_limits count limit ≡ b → cond b (Some (shaped count limit)) None ≡ Some shape → Limits shape
    go true p e = let q : shape ≡ shaped count limit = cc in rw q (shaped_limits count limit p)
    go false p e = let z : ◌≡◌ {A = ℕ} 0 1 = cc in absurd (omega arith)

pub limits_limited : (shape : Shape) → Limits shape → limited shape.count shape.limit ≡ Some shape
unfolding limited
limits_limited shape l =
    simp (le-leb 1 shape.count l.some_vcpu, le-leb shape.count 8 l.few_vcpus, le-leb 32 shape.limit l.private_numbers_lem, le-leb shape.limit 1020 l.few_numbers)

pub validated_within : (s : List ℕ) (t : Shape) → stored_shape s ≡ Some t
    → validated s ≡ cond (leb (size t) (length s) && every_below (depth_fits t s) t.count) (Some t) None
unfolding validated
validated_within s t e = ap (lent_as s) e

-- words that pass hold a state whose depths fit ..
pub validated_held : (s : List ℕ) (shape : Shape) → validated s ≡ Some shape → HoldsState shape s
unfolding validated
validated_held s shape = from (stored_shape s) refl
  where
    tested : (t : Shape) (b c : Bool) → leb (size t) (length s) ≡ b → every_below (depth_fits t s) t.count ≡ c → cond (b && c) (Some t) None ≡ Some shape
        → stored_shape s ≡ Some t → HoldsState shape s
    tested t true true p q e w = let same : shape ≡ t = cc in rw same (record {
      stored = limited_shape (get_or s 0 0) (get_or s 1 0) t w;
      state = record { limits = limited_limits (get_or s 0 0) (get_or s 1 0) t w; room = leb-true (size t) (length s) p };
      depths = λ v h. leb-true (word_at t (Interface v Depth) s) stack_capacity (every_at (depth_fits t s) t.count v q h);
    })
    tested t true false p q e w = let z : ◌≡◌ {A = ℕ} 0 1 = cc in absurd (omega arith)
    tested t false c p q e w = let z : ◌≡◌ {A = ℕ} 0 1 = cc in absurd (omega arith)

    from : (l : Option Shape) → stored_shape s ≡ l → lent_as s l ≡ Some shape → HoldsState shape s
    from (Some t) w e = tested t (leb (size t) (length s)) (every_below (depth_fits t s) t.count) refl refl e w
    from None w e = let z : ◌≡◌ {A = ℕ} 0 1 = cc in absurd (omega arith)

-- .. and all such words pass
pub held_validated : (s : List ℕ) (shape : Shape) → HoldsState shape s → validated s ≡ Some shape
unfolding validated
held_validated s shape h =
    let c : get_or s 0 0 ≡ shape.count = ap (λ (t : Shape). t.count) (sym h.stored) in
    let l : get_or s 1 0 ≡ shape.limit = ap (λ (t : Shape). t.limit) (sym h.stored) in
    simp (c, l, limits_limited shape h.state.limits, le-leb (size shape) (length s) h.state.room, every_true (depth_fits shape s) shape.count (λ v b. le-leb (word_at shape (Interface v Depth) s) stack_capacity (h.depths v b)))
