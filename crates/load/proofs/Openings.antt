-- A shape that an image begins with is within the limits. Assumes nothing.
use mathlib.Core.Path.{◌≡◌, refl, sym, ap, ◌∙◌}
use mathlib.Core.List.{List}
use Prim.Native.Nat.{ℕ}
use Rattle.std.specs.Prelude.{Option, Some, None}
use Rattle.std.proofs.lemmas.Option.{none-some, same_Some, some_pair_parts}
use Rattle.groups.specs.Groups.{found_at}
use Rattle.state.specs.declared.layout.Shape.{Shape}
use Rattle.state.specs.Layout.{Limits}
use Rattle.state.specs.Lent.{limited}
use Rattle.state.proofs.Validated.{limited_limits}
use Rattle.load.specs.Reading.{then_number, number_up_to}
use Rattle.load.specs.Load.{shaped_at, shape_found, then_shape, opened_as}

pub found_limits : (image : List ℕ) (shape : Shape) (next : ℕ) → shape_found image ≡ Some (shape, next) → Limits shape
unfolding shape_found
found_limits image shape next = first (found_at 2 image 0)
  where
    shaped : (count limit a : ℕ) (l : Option Shape) → limited count limit ≡ l → shaped_at l a ≡ Some (shape, next) → Limits shape
    shaped count limit a None p e = absurd (none-some _ e)
    shaped count limit a (Some s) p e = rw (← (some_pair_parts s shape a next e).0) (limited_limits count limit s p)

    second : (count : ℕ) (f : Option (ℕ × ℕ)) → then_number None f (λ limit a. shaped_at (limited count limit) a) ≡ Some (shape, next) → Limits shape
    second count None e = absurd (none-some _ e)
    second count (Some (limit, a)) e = shaped count limit a (limited count limit) refl e

    first : (f : Option (ℕ × ℕ)) → then_number None f (λ count a. then_number None (found_at 2 image a) (λ limit b. shaped_at (limited count limit) b)) ≡ Some (shape, next) → Limits shape
    first None e = absurd (none-some _ e)
    first (Some (count, a)) e = second count (found_at 2 image a) e

pub opened_limits : (image : List ℕ) (r : Option (Shape × ℕ × ℕ)) (shape : Shape) (control start : ℕ) → r ≡ opened_as image → r ≡ Some (shape, control, start) → Limits shape
unfolding opened_as
opened_limits image r shape control start read is = go (shape_found image) refl (sym read ∙ is)
  where
    last : (s : Shape) (f : Option (ℕ × ℕ)) → Limits s → then_number {A = Option (Shape × ℕ × ℕ)} None f (λ n next. Some (s, n, next)) ≡ Some (shape, control, start) → Limits shape
    last s None l e = absurd (none-some _ e)
    last s (Some (n, next)) l e = rw (← ap (λ (it : Shape × ℕ × ℕ). it.0) (same_Some {A = Shape × ℕ × ℕ} (s, n, next) (shape, control, start) e)) l

    go : (f : Option (Shape × ℕ)) → shape_found image ≡ f → then_shape {A = Option (Shape × ℕ × ℕ)} None f (λ s a. then_number None (number_up_to 1 image a) (λ n next. Some (s, n, next))) ≡ Some (shape, control, start) → Limits shape
    go None p e = absurd (none-some _ e)
    go (Some (s, a)) p e = last s (number_up_to 1 image a) (found_limits image s a p) e
