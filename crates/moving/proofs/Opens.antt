-- An image's first numbers, count, limit and Distributor CTLR, and what is read of them. Assumes nothing.
use mathlib.Core.Path.{◌≡◌, refl, sym, subst}
use mathlib.Core.List.{List, ◌∷◌}
use Prim.Native.Nat.{ℕ, ◌≤◌}
use native.Mathlib.Omega.{arith}
use borrow.Author.Tests.{leb-true}
use Rattle.groups.proofs.Reading.{Stands}
use Rattle.state.specs.declared.layout.Shape.{Shape}
use Rattle.state.specs.Layout.{Limits}
use Rattle.state.specs.Lent.{limited}
use Rattle.state.proofs.Validated.{limited_shape, limited_limits, limits_limited}
use Rattle.std.specs.Prelude.{Option, Some, None}
use Rattle.load.specs.Reading.{then_number, number_up_to}
use Rattle.load.specs.Load.{shaped_at, shape_found, then_shape, image_shape, opened_as}
use Rattle.moving.proofs.BytesNumbers.{Row, row_first, row_bounded, row_cons, onward, found_shows, bounded_shows}

abbrev pub opening : Shape → ℕ → List ℕ → List ℕ
opening shape control rest = shape.count ∷ shape.limit ∷ control ∷ rest

-- what stands at the start is read
pub record Opens (image : List ℕ) (shape : Shape) (control next : ℕ) (rest : List ℕ) : Type 0 where
  pub start : ℕ
  pub opened : opened_as image ≡ Some (shape, control, start)
  pub body : Row image start next rest
  pub shaped : image_shape image ≡ shape

pub opens : (image : List ℕ) (shape : Shape) (control next : ℕ) (rest : List ℕ) → Limits shape → control ≤ 1 → Row image 0 next (opening shape control rest)
    → Opens image shape control next rest
unfolding opened_as shape_found image_shape
opens image shape control next rest limits small row =
    let few = limits.few_vcpus in
    let most = limits.few_numbers in
    let a = row_first {n = shape.count} (omega arith) row in
    let b = row_first {n = shape.limit} (omega arith) a.rest in
    let c = row_bounded {n = control} 1 small (omega arith) b.rest in
    record {
      start = c.place;
      opened = simp (a.found, b.found, limits_limited shape limits, c.found);
      body = c.rest;
      shaped = simp (a.found, b.found, limits_limited shape limits);
    }

-- and what is read stands there
pub record Opened (image : List ℕ) (shape : Shape) (control start : ℕ) : Type 0 where
  pub limits : Limits shape
  pub small : control ≤ 1
  pub rows : (next : ℕ) (rest : List ℕ) → Row image start next rest → Row image 0 next (opening shape control rest)
  pub shaped : image_shape image ≡ shape

record Shaped (image : List ℕ) (shape : Shape) (next : ℕ) : Type 0 where
  limits : Limits shape
  rows : (end : ℕ) (rest : List ℕ) → Row image next end rest → Row image 0 end (shape.count ∷ shape.limit ∷ rest)

abbrev ShapeStands : List ℕ → Option (Shape × ℕ) → Type 0
ShapeStands image None = Unit {0}
ShapeStands image (Some (shape, next)) = Shaped image shape next

shape_stands : (image : List ℕ) → ShapeStands image (shape_found image)
unfolding shape_found
shape_stands image =
    onward (ShapeStands image) None _ tt (found_shows image 0) (λ count a x.
    onward (ShapeStands image) None _ tt (found_shows image a) (λ limit b y. go count limit a b x y (limited count limit) refl))
  where
    go : (count limit a b : ℕ) → Stands image 0 count a → Stands image a limit b → (l : Option Shape) → limited count limit ≡ l → ShapeStands image (shaped_at l b)
    go count limit a b x y None p = tt
    go count limit a b x y (Some shape) p = record {
      limits = limited_limits count limit shape p;
      rows = λ end rest row. subst (λ (k : Shape). Row image 0 end (k.count ∷ k.limit ∷ rest)) (sym (limited_shape count limit shape p)) (row_cons x (row_cons y row));
    }

abbrev OpeningStands : List ℕ → Option (Shape × ℕ × ℕ) → Type 0
OpeningStands image None = Unit {0}
OpeningStands image (Some (shape, control, start)) = Opened image shape control start

opening_stands : (image : List ℕ) → OpeningStands image (opened_as image)
unfolding opened_as image_shape
opening_stands image = go (shape_found image) refl (shape_stands image)
  where
    go : (f : Option (Shape × ℕ)) → shape_found image ≡ f → ShapeStands image f
        → OpeningStands image (then_shape None f (λ shape a. then_number None (number_up_to 1 image a) (λ control next. Some (shape, control, next))))
    go None p it = tt
    go (Some (shape, a)) p it =
        onward (OpeningStands image) None _ tt (bounded_shows 1 image a) (λ control start x. record {
          limits = it.limits;
          small = leb-true control 1 x.passes;
          rows = λ end rest row. it.rows end (control ∷ rest) (row_cons x.stands row);
          shaped = simp p;
        })

pub opened_exact : (image : List ℕ) (shape : Shape) (control start : ℕ) → opened_as image ≡ Some (shape, control, start) → Opened image shape control start
opened_exact image shape control start e = subst (OpeningStands image) e (opening_stands image)
