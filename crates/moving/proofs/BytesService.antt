-- A stack, read from an image entry by entry: what is read stands there and is lawful, and back. Assumes nothing.
use mathlib.Core.Path.{◌≡◌, refl, sym, ap, subst, ◌∙◌}
use mathlib.Core.Bool.{Bool, true, false, cond}
use mathlib.Core.List.{List}
use Prim.Native.Nat.{ℕ, zero, suc, ◌+◌, ◌≤◌, ◌<◌}
use native.Mathlib.Nat.{add-zero}
use native.Mathlib.Omega.{arith}
use lib.ListN.{length}
use borrow.Author.Tests.{leb-true}
use Rattle.std.proofs.lemmas.Option.{some_pair_parts}
use Rattle.std.specs.Prelude.{Option, Some, None}
use Rattle.groups.specs.Groups.{spelled}
use Rattle.state.specs.declared.layout.Shape.{Shape}
use Rattle.state.specs.declared.words.Entry.{Entry}
use Rattle.state.specs.Layout.{stack_capacity}
use Rattle.state.specs.Words.{entry_at}
use Rattle.state.proofs.Tests.{every_at, every_true}
use Rattle.service.specs.Service.{depth_at, stack_to, running_of}
use Rattle.lawful_test.specs.LawfulTest.{entry_lawful, entry_lawful_at, stack_lawful}
use Rattle.image.specs.Image.{each, entry_numbers, service_numbers}
use Rattle.image.specs.Parts.{Service}
use Rattle.load.specs.Reading.{entry_from, entry_found}
use Rattle.load.specs.Walking.{spot, entry_spot, service_end}
use Rattle.moving.specs.Reads.{ServiceReads, SamePart}
use Rattle.moving.proofs.BytesNumbers.{Row, row_none, row_end, row_append, row_each, row_cons, row_first, row_bounded, Bounded, shown, onward, found_shows, bounded_shows}

module _ (shape : Shape) (above : ℕ) (image : List ℕ) (at : ℕ) where
  entry_read : (e : Entry) (next : ℕ) → e.intid.0 < 16384 → e.priority.0 ≤ 255 → entry_lawful shape above e ≡ true → Row image at next (entry_numbers e)
      → entry_found shape above image at ≡ Some (e, next)
  unfolding entry_found
  entry_read e next small byte lawful row =
      let x = row_first small row in
      let y = row_bounded 255 byte (omega arith) x.rest in
      simp (x.found, y.found, lawful) (ap (λ (i : ℕ). Some (e, i)) (sym (row_end y.rest)))

  -- what is read stands there and is lawful
  abbrev Standing : Option (Entry × ℕ) → Type 0
  Standing None = Unit {0}
  Standing (Some (e, next)) = (entry_lawful shape above e ≡ true) × Row image at next (entry_numbers e)

  entry_stands : Standing (entry_found shape above image at)
  unfolding entry_found
  entry_stands =
      onward Standing None _ tt (found_shows image at) (λ n a x.
      onward Standing None _ tt (bounded_shows 255 image a) (λ p next y.
      go (entry_from n p) next (row_cons x (row_cons y.stands (row_none image next))) (entry_lawful shape above (entry_from n p)) refl))
    where
      go : (e : Entry) (next : ℕ) → Row image at next (entry_numbers e) → (b : Bool) → entry_lawful shape above e ≡ b → Standing (cond b (Some (e, next)) None)
      go e next row true p = (p, row)
      go e next row false p = tt

  entry_exact : {e : Entry} {next : ℕ} → entry_found shape above image at ≡ Some (e, next) → (entry_lawful shape above e ≡ true) × Row image at next (entry_numbers e)
  entry_exact e = subst Standing e entry_stands

-- the numbers of entry i
abbrev pub entries_of : Shape → ℕ → List ℕ → ℕ → List ℕ
entries_of shape v s i = entry_numbers (entry_at shape v i s)

module _ (shape : Shape) (v : ℕ) (s image : List ℕ) (at next : ℕ) where
  pub service_read : depth_at shape v s ≤ stack_capacity → stack_lawful shape v s ≡ true → Row image at next (service_numbers shape s v) → ServiceReads shape image v at next s
  unfolding each spelled
  service_read deep lawful row =
      let first = row_bounded stack_capacity deep (omega arith) row in
      let f = entries_of shape v s in
      record {
        places = λ i. first.place + length (spelled (each f i));
        depth = first.found ∙ ap (λ (i : ℕ). Some (depth_at shape v s, i)) (sym (add-zero first.place));
        entries = λ i h. entry_read shape (running_of (stack_to shape v s i)) image (first.place + length (spelled (each f i))) (entry_at shape v i s)
            (first.place + length (spelled (each f (suc i)))) (omega arith) (omega arith) (every_at (entry_lawful_at shape v s) (depth_at shape v s) i lawful h)
            (row_each f (depth_at shape v s) first.rest i h);
        ends = sym first.rest.past;
      }

  module _ (h : ServiceReads shape image v at next s) where
    counted : Bounded stack_capacity image at (depth_at shape v s) (h.places 0)
    counted = shown (rw h.depth at (bounded_shows stack_capacity image at))

    pub service_deep : depth_at shape v s ≤ stack_capacity
    service_deep = leb-true _ _ counted.passes

    pub service_lawful : stack_lawful shape v s ≡ true
    service_lawful = every_true (entry_lawful_at shape v s) (depth_at shape v s) (λ i b. (entry_exact shape (running_of (stack_to shape v s i)) image (h.places i) (h.entries i b)).0)

    entries_row : (i : ℕ) → i ≤ depth_at shape v s → Row image (h.places 0) (h.places i) (each (entries_of shape v s) i)
    unfolding each
    entries_row zero b = row_none image (h.places 0)
    entries_row (suc i) b = row_append (entries_row i (omega arith)) (entry_exact shape (running_of (stack_to shape v s i)) image (h.places i) (h.entries i b)).1

    pub service_row : Row image at next (service_numbers shape s v)
    service_row = rw (← h.ends) (row_cons counted.stands (entries_row (depth_at shape v s) (omega arith)))

    -- where the walk stands after i entries
    pub service_spot : (i : ℕ) → i ≤ depth_at shape v s → entry_spot shape image (h.places 0) i ≡ spot (h.places i) (running_of (stack_to shape v s i))
    unfolding entry_spot stack_to
    service_spot zero b = refl
    service_spot (suc i) b = rw (service_spot i (omega arith)) (rw (h.entries i b))

    pub service_end_lem : service_end shape image at ≡ Some next
    unfolding service_end
    service_end_lem = simp (h.depth, service_spot (depth_at shape v s) (omega arith), h.ends)

-- one place is read as one meaning
pub service_same : {shape : Shape} {v : ℕ} {s r image : List ℕ} {at next next' : ℕ} → ServiceReads shape image v at next s → ServiceReads shape image v at next' r → SamePart shape (Service (record { 0 = v })) s r
service_same {shape} {v} {s} {r} {image} {at} {next} {next'} p q = (deep, same)
  where
    first : (depth_at shape v s ≡ depth_at shape v r) × (p.places 0 ≡ q.places 0)
    first = some_pair_parts _ _ _ _ (sym p.depth ∙ q.depth)

    deep : depth_at shape v s ≡ depth_at shape v r
    deep = first.0

    same : (i : ℕ) → i < depth_at shape v s → entry_at shape v i s ≡ entry_at shape v i r
    same i h =
        let below : i < depth_at shape v r = rw deep at h in
        let a = service_spot shape v s image at next p i (omega arith) in
        let b = service_spot shape v r image at next' q i (omega arith) in
        let x = p.entries i h in
        let y = q.entries i below in
        let z = first.1 in
        let e : ◌≡◌ {A = Option (Entry × ℕ)} (Some (entry_at shape v i s, p.places (suc i))) (Some (entry_at shape v i r, q.places (suc i))) = cc in
        (some_pair_parts _ _ _ _ e).0
