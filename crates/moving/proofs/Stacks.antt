-- An image tells the stacks of the state that it is of, lawful or not; so one with an odd entry is no lawful state's, and is refused by 9. Assumes
-- nothing.
use mathlib.Core.Path.{◌≡◌, refl, sym, ap, subst, ◌∙◌}
use mathlib.Core.List.{List, [], ◌∷◌, ◌++◌, append-nil}
use Prim.Native.Nat.{ℕ, zero, suc, ◌+◌, ◌-◌, ◌%◌, ◌≤◌, ◌<◌}
use native.Mathlib.Nat.{zero-add, le_refl}
use native.Mathlib.Omega.{arith}
use lib.ListN.{length, drop_of_length-le}
use Rattle.std.proofs.lemmas.Option.{some_pair_parts, same_Some}
use Rattle.std.specs.Prelude.{Some, Option}
use Rattle.groups.specs.Groups.{spelled, found_at}
use Rattle.groups.proofs.Numbers.{AllSmall}
use Rattle.register.specs.declared.frame.Refusal.TheVariants.{Unlawful}
use Rattle.state.specs.declared.layout.Shape.{Shape}
use Rattle.state.specs.Layout.{Limits}
use Rattle.state.specs.Lent.{HoldsState}
use Rattle.state.specs.Words.{distributor_control_at}
use Rattle.service.specs.Service.{depth_at}
use Rattle.answer.specs.Answer.{refused}
use Rattle.lawful.specs.Lawful.{priority_at, Lawful}
use Rattle.image.specs.Image.{each, interface_numbers, service_numbers, private_numbers_at, spi_numbers_at, body_numbers, image, IsImage}
use Rattle.load.specs.Load.{load}
use Rattle.moving.proofs.BytesNumbers.{Row, row_parts, row_each, First, row_first}
use Rattle.moving.proofs.BytesService.{entries_of}
use Rattle.moving.proofs.Moving.{others_are_refused_by_9}
use Rattle.moving.proofs.Opens.{Opens, opens}

-- as many numbers from one place are the same
row_same : {image : List ℕ} {at next next' : ℕ} (xs ys : List ℕ) → length xs ≡ length ys → AllSmall xs → AllSmall ys → Row image at next xs → Row image at next' ys → xs ≡ ys
row_same [] [] l a b p q = refl
row_same [] (y ∷ ys) l a b p q = absurd (omega (arith, l))
row_same (x ∷ xs) [] l a b p q = absurd (omega (arith, l))
row_same {image} {at} {next} {next'} (x ∷ xs) (y ∷ ys) l a b p q =
    let f = row_first a.0 p in
    let g = row_first b.0 q in
    let found : ◌≡◌ {A = Option (ℕ × ℕ)} (Some (x, f.place)) (Some (y, g.place)) = sym f.found ∙ g.found in
    let same = some_pair_parts _ _ _ _ found in
    let place = same.1 in
    let number = same.0 in
    λ i. number i ∷ row_same {at = f.place} {next = next} {next' = next'} xs ys (omega (arith, l)) a.1 b.1 f.rest (subst (λ (k : ℕ). Row image k next' ys) (sym place) g.rest) i

-- so are lists one after another, if each of them is
module _ {image : List ℕ} {at next next' : ℕ} (f g : ℕ → List ℕ) (n : ℕ) (p : Row image at next (each f n)) (q : Row image at next' (each g n))
    (same : (i : ℕ) → i < n → (k m m' : ℕ) → Row image k m (f i) → Row image k m' (g i) → f i ≡ g i) where
  at_same : (i : ℕ) → i < n → each f i ≡ each g i → f i ≡ g i
  at_same i b e =
      same i b _ _ _ (row_each f n p i b) (subst (λ (xs : List ℕ). Row image (at + length (spelled xs)) (at + length (spelled (each g (suc i)))) (g i)) (sym e) (row_each g n q i b))

  so_far : (i : ℕ) → i ≤ n → each f i ≡ each g i
  unfolding each
  so_far zero b = refl
  so_far (suc i) b = let before = so_far i (omega (arith, b)) in λ j. before j ++ at_same i (omega (arith, b)) before j

  each_row_same : (i : ℕ) → i < n → f i ≡ g i
  each_row_same i b = at_same i b (so_far i (omega (arith, b)))

-- bytes that are a state's image, as they are read
opens_as : (bytes : List ℕ) (shape : Shape) (t : List ℕ) → Limits shape → bytes ≡ image shape t → Opens bytes shape (distributor_control_at shape t) (length bytes) (body_numbers shape t)
opens_as bytes shape t limits e =
    opens bytes shape (distributor_control_at shape t) (length bytes) (body_numbers shape t) limits (omega arith)
    (record {
      bytes = e ∙ sym (ap (λ (x : List ℕ). image shape t ++ x) (drop_of_length-le bytes (le_refl (length bytes))) ∙ append-nil (image shape t));
      past = ap (λ (x : List ℕ). length x) e ∙ sym (zero-add (length (image shape t)));
    })

-- two states of one shape with one image
module _ (shape : Shape) (s r : List ℕ) (h : HoldsState shape s) (k : HoldsState shape r) (is : image shape s ≡ image shape r) where
  abbrev bytes : List ℕ
  bytes = image shape s

  abbrev opens_s : Opens bytes shape (distributor_control_at shape s) (length bytes) (body_numbers shape s)
  opens_s = opens_as bytes shape s h.state.limits refl

  abbrev opens_r : Opens bytes shape (distributor_control_at shape r) (length bytes) (body_numbers shape r)
  opens_r = opens_as bytes shape r h.state.limits is

  -- where the interfaces begin, and the stacks
  record Body (t : List ℕ) (at : ℕ) : Type 0 where
    mid : ℕ
    interfaces : Row bytes at mid (each (interface_numbers shape t) shape.count)
    end : ℕ
    services : Row bytes mid end (each (service_numbers shape t) shape.count)

  body : (t : List ℕ) (at : ℕ) → Row bytes at (length bytes) (body_numbers shape t) → Body t at
  unfolding body_numbers
  body t at row =
      let i = each (interface_numbers shape t) shape.count in
      let v = each (service_numbers shape t) shape.count in
      let p = each (λ v. each (private_numbers_at shape t v) 32) shape.count in
      let ivp = (row_parts (i ++ v ++ p) (each (spi_numbers_at shape t) (shape.limit - 32)) row).first in
      let iv = (row_parts (i ++ v) p ivp).first in
      let two = row_parts i v iv in
      record { mid = _; interfaces = two.first; end = _; services = two.rest }

  start_same : opens_s.start ≡ opens_r.start
  start_same = ap (λ (it : Shape × ℕ × ℕ). it.2) (same_Some _ _ (sym opens_s.opened ∙ opens_r.opened))

  of_s : Body s opens_s.start
  of_s = body s opens_s.start opens_s.body

  of_r : Body r opens_s.start
  of_r = subst (Body r) (sym start_same) (body r opens_r.start opens_r.body)

  interfaces_same : each (interface_numbers shape s) shape.count ≡ each (interface_numbers shape r) shape.count
  interfaces_same =
      so_far (interface_numbers shape s) (interface_numbers shape r) shape.count of_s.interfaces of_r.interfaces
      (λ i b k m m' p q. row_same (interface_numbers shape s i) (interface_numbers shape r i) refl (omega arith, (omega arith, (omega arith, tt))) (omega arith, (omega arith, (omega arith, tt))) p q)
      shape.count (le_refl shape.count)

  mid_same : of_s.mid ≡ of_r.mid
  mid_same = of_s.interfaces.past ∙ ap (λ (xs : List ℕ). opens_s.start + length (spelled xs)) interfaces_same ∙ sym of_r.interfaces.past

  -- one stack
  module _ (v : ℕ) (b : v < shape.count) (at m m' : ℕ) (p : Row bytes at m (service_numbers shape s v)) (q : Row bytes at m' (service_numbers shape r v)) where
    first_s : First bytes (found_at 2 bytes at) m (depth_at shape v s) (each (entries_of shape v s) (depth_at shape v s))
    first_s = row_first (omega (arith, h.depths v b)) p

    first_r : First bytes (found_at 2 bytes at) m' (depth_at shape v r) (each (entries_of shape v r) (depth_at shape v r))
    first_r = row_first (omega (arith, k.depths v b)) q

    found : ◌≡◌ {A = Option (ℕ × ℕ)} (Some (depth_at shape v s, first_s.place)) (Some (depth_at shape v r, first_r.place))
    found = sym first_s.found ∙ first_r.found

    depths : depth_at shape v s ≡ depth_at shape v r
    depths = (some_pair_parts _ _ _ _ found).0

    place : first_s.place ≡ first_r.place
    place = (some_pair_parts _ _ _ _ found).1

    rest_r : Row bytes first_s.place m' (each (entries_of shape v r) (depth_at shape v s))
    rest_r = rw (place, depths) first_r.rest

    entry_same : (i : ℕ) → i < depth_at shape v s → (n n₁ n₂ : ℕ) → Row bytes n n₁ (entries_of shape v s i) → Row bytes n n₂ (entries_of shape v r i) → entries_of shape v s i ≡ entries_of shape v r i
    entry_same i c n n₁ n₂ x y = row_same (entries_of shape v s i) (entries_of shape v r i) refl (omega arith, (omega arith, tt)) (omega arith, (omega arith, tt)) x y

    entries_same : (i : ℕ) → i < depth_at shape v s → entries_of shape v s i ≡ entries_of shape v r i
    entries_same = each_row_same (entries_of shape v s) (entries_of shape v r) (depth_at shape v s) first_s.rest rest_r entry_same

    service_same : service_numbers shape s v ≡ service_numbers shape r v
    service_same =
        let all = so_far (entries_of shape v s) (entries_of shape v r) (depth_at shape v s) first_s.rest rest_r entry_same (depth_at shape v s) (le_refl (depth_at shape v s)) in
        let lists = all ∙ ap (each (entries_of shape v r)) depths in
        λ j. depths j ∷ lists j

  services_r : Row bytes of_s.mid of_r.end (each (service_numbers shape r) shape.count)
  services_r = rw mid_same of_r.services

  -- every stack
  services_same : (v : ℕ) → v < shape.count → service_numbers shape s v ≡ service_numbers shape r v
  services_same = each_row_same (service_numbers shape s) (service_numbers shape r) shape.count of_s.services services_r service_same

  depth_same : (v : ℕ) → v < shape.count → depth_at shape v s ≡ depth_at shape v r
  depth_same v b = let lists = services_same v b in cc

  priority_same : (v i : ℕ) → v < shape.count → i < depth_at shape v s → priority_at shape v i s ≡ priority_at shape v i r
  priority_same v i b c =
      let row = row_each (service_numbers shape s) shape.count of_s.services v b in
      let entry = entries_same v b _ _ _ row (rw (services_same v b) at row) i c in
      cc

-- "9 refuses images of One with odd entries": of any words that hold a state, whatever else is in them
pub an_odd_entry_is_refused_by_9 : (shape : Shape) (s w : List ℕ) → HoldsState shape s → (v i : ℕ) → v < shape.count → i < depth_at shape v s → priority_at shape v i s % 2 ≡ 1
    → load (image shape s) w ≡ refused Unlawful w
an_odd_entry_is_refused_by_9 shape s w h v i b c odd = others_are_refused_by_9 (image shape s) w none
  where
    no_lawful : (r : List ℕ) → Lawful shape r → image shape s ≡ image shape r → ⊥
    no_lawful r law is =
        let same = priority_same shape s r h law.in_range is v i b c in
        let deep = depth_same shape s r h law.in_range is v b in
        omega (arith, odd, same, law.orderly.even v i b (rw deep at c))

    none : IsImage (image shape s) → ⊥
    none it =
        let shapes : it.shape ≡ shape =
        sym (opens_as (image shape s) it.shape it.state it.lawful.in_range.state.limits it.is).shaped ∙ (opens_as (image shape s) shape s h.state.limits refl).shaped in
        no_lawful it.state (subst (λ (q : Shape). Lawful q it.state) shapes it.lawful) (subst (λ (q : Shape). image shape s ≡ image q it.state) shapes it.is)
