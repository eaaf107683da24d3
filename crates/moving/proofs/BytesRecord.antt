-- A record, read from an image: flags and priority, then what its kind has; what is read stands there and is lawful, and back. Assumes nothing.
use mathlib.Core.Path.{◌≡◌, refl, sym, ap, subst, ◌∙◌}
use mathlib.Core.Bool.{Bool, true, false, cond}
use mathlib.Core.List.{List, [], ◌∷◌}
use Prim.Native.Nat.{ℕ, ◌^◌, ◌≤◌, ◌<◌}
use native.Mathlib.Omega.{arith}
use lib.Dec.{ltb}
use borrow.Author.Tests.{leb-true, ltb-true}
use Rattle.interrupt.specs.declared.record.InterruptRecord.{InterruptRecord}
use Rattle.word.specs.Word.{flag, mask_byte}
use Rattle.state.specs.declared.layout.Shape.{Shape}
use Rattle.image.specs.Image.{flags_number, owner_number, mask_number, unset_mark, record_numbers}
use Rattle.std.specs.Prelude.{Option, Some, None}
use Rattle.load.specs.declared.reading.RecordAndSources.{RecordAndSources}
use Rattle.load.specs.declared.reading.RecordRest.{RecordRest}
use Rattle.load.specs.Reading.{own_owner, sgi_rest, spi_rest, rest_at, record_from, lawful_number, record_if_lawful, then_rest, record_found, rest_from, record_and_sources}
use Rattle.moving.proofs.BytesNumbers.{Row, row_none, row_end, row_cons, row_bounded, Bounded, onward, bounded_shows}
use Rattle.moving.proofs.BytesFlags.{owner_back, owner_again, mask_back, mask_again, flags_fit, flags_again, record_back}
use Rattle.interrupt.specs.declared.types.GicVcpuId.{GicVcpuId}

-- what follows flags and priority, where n is an SGI or another private number, or neither
abbrev rest_of : Bool → Bool → Option GicVcpuId → Option ℕ → ℕ → List ℕ
rest_of sgi own owner mask x = cond sgi (x ∷ []) (cond own [] (owner_number owner ∷ mask_number mask ∷ []))

abbrev pub rest_numbers : ℕ → Option GicVcpuId → Option ℕ → ℕ → List ℕ
rest_numbers n = rest_of (ltb n 16) (ltb n 32)

-- what passes for an owner and a mask there
pub record Fits (v n : ℕ) (inflight : Bool) (owner : Option GicVcpuId) (mask : Option ℕ) : Type 0 where
  pub own : n < 32 → owner ≡ own_owner v inflight
  pub unmasked : n < 32 → mask ≡ None
  pub few : owner_number owner ≤ 8
  pub byte : mask_byte mask < 2 ^ 8

mask_fits : (m : Option ℕ) → mask_byte m < 2 ^ 8 → mask_number m ≤ unset_mark
mask_fits None h = omega arith
mask_fits (Some byte) h = omega arith

module _ (image : List ℕ) (at : ℕ) where
  sgi_read : (owner : Option GicVcpuId) (x next : ℕ) → x ≤ 255 → Row image at next (x ∷ []) → sgi_rest owner image at ≡ Some (rest_from owner None x, next)
  unfolding sgi_rest
  sgi_read owner x next small row =
      let a = row_bounded 255 small (omega arith) row in
      simp a.found (ap (λ (i : ℕ). Some (rest_from owner None x, i)) (sym (row_end a.rest)))

  spi_read : (owner : Option GicVcpuId) (mask : Option ℕ) (next : ℕ) → owner_number owner ≤ 8 → mask_byte mask < 2 ^ 8 → Row image at next (owner_number owner ∷ mask_number mask ∷ [])
      → spi_rest image at ≡ Some (rest_from owner mask 0, next)
  unfolding spi_rest
  spi_read owner mask next few byte row =
      let small = mask_fits mask byte in
      let a = row_bounded 8 few (omega arith) row in
      let b = row_bounded unset_mark small (omega arith) a.rest in
      simp (a.found, b.found, owner_back owner, mask_back mask byte) (ap (λ (i : ℕ). Some (rest_from owner mask 0, i)) (sym (row_end b.rest)))

  -- what is read stands there
  abbrev StandingRest : Bool → Bool → Option (RecordRest × ℕ) → Type 0
  StandingRest sgi own None = Unit {0}
  StandingRest sgi own (Some (rest, next)) = Row image at next (rest_of sgi own rest.owner rest.mask rest.sources)

  sgi_stands : (own : Bool) (owner : Option GicVcpuId) → StandingRest true own (sgi_rest owner image at)
  unfolding sgi_rest
  sgi_stands own owner = onward (StandingRest true own) None _ tt (bounded_shows 255 image at) (λ x next a. row_cons a.stands (row_none image next))

  spi_stands : StandingRest false false (spi_rest image at)
  unfolding spi_rest
  spi_stands =
      onward (StandingRest false false) None _ tt (bounded_shows 8 image at) (λ o place a.
      onward (StandingRest false false) None _ tt (bounded_shows unset_mark image place) (λ m next b.
      rw (owner_again o, mask_again m) (row_cons a.stands (row_cons b.stands (row_none image next)))))

module _ (v n : ℕ) (inflight : Bool) (image : List ℕ) (at : ℕ) where
  rest_read : (owner : Option GicVcpuId) (mask : Option ℕ) (x next : ℕ) → Fits v n inflight owner mask → x ≤ 255 → Row image at next (rest_numbers n owner mask x)
      → rest_at v n inflight image at ≡ Some (rest_from owner mask (cond (ltb n 16) x 0), next)
  unfolding rest_at
  rest_read owner mask x next fits small = go (ltb n 16) (ltb n 32) refl refl
    where
      go : (b c : Bool) → ltb n 16 ≡ b → ltb n 32 ≡ c → Row image at next (rest_of b c owner mask x)
          → cond b (sgi_rest (own_owner v inflight) image at) (cond {A = Option (RecordRest × ℕ)} c (Some (rest_from (own_owner v inflight) None 0, at)) (spi_rest image at)) ≡ Some (rest_from owner mask (cond b x 0), next)
      go true c p q row =
          let low : n < 32 = omega (arith, ltb-true n 16 p) in
          sgi_read image at (own_owner v inflight) x next small row ∙ rw (fits.own low, fits.unmasked low)
      go false true p q row = let low = ltb-true n 32 q in rw (fits.own low, fits.unmasked low, row_end row)
      go false false p q row = spi_read image at owner mask next fits.few fits.byte row

  rest_stands : StandingRest image at (ltb n 16) (ltb n 32) (rest_at v n inflight image at)
  unfolding rest_at
  rest_stands = go (ltb n 16) (ltb n 32)
    where
      go : (b c : Bool) → StandingRest image at b c (cond b (sgi_rest (own_owner v inflight) image at) (cond {A = Option (RecordRest × ℕ)} c (Some (rest_from (own_owner v inflight) None 0, at)) (spi_rest image at)))
      go true c = sgi_stands image at c (own_owner v inflight)
      go false true = row_none image at
      go false false = spi_stands image at

-- the record
module _ (shape : Shape) (v n : ℕ) (image : List ℕ) (at : ℕ) where
  pub record_read : (r : InterruptRecord) (x next : ℕ) → r.priority.0 ≤ 255 → Fits v n r.inflight r.owner r.cpu_target_mask → x ≤ 255
      → lawful_number shape v n r (cond (ltb n 16) x 0) ≡ true → Row image at next (record_numbers r (rest_numbers n r.owner r.cpu_target_mask x))
      → record_found shape v n image at ≡ Some (record_and_sources r (cond (ltb n 16) x 0), next)
  unfolding record_found
  record_read r x next byte fits small lawful row =
      let flags = flags_fit r in
      let a = row_bounded 127 (omega arith) (omega arith) row in
      let b = row_bounded 255 byte (omega arith) a.rest in
      let inflight : flag 3 (flags_number r) ≡ r.inflight = ap (λ (r : InterruptRecord). r.inflight) (record_back r) in
      let last : rest_at v n (flag 3 (flags_number r)) image b.place ≡ Some (rest_from r.owner r.cpu_target_mask (cond (ltb n 16) x 0), next) =
      rw inflight (rest_read v n r.inflight image b.place r.owner r.cpu_target_mask x next fits small b.rest) in
      simp (a.found, b.found, last) (ap (λ (r : InterruptRecord). record_if_lawful shape v n r (cond (ltb n 16) x 0) next) (record_back r) ∙ simp lawful)

  -- what is read stands there and is lawful
  abbrev Standing : Option (RecordAndSources × ℕ) → Type 0
  Standing None = Unit {0}
  Standing (Some (it, next)) =
      (lawful_number shape v n it.«record» it.sources ≡ true) × Row image at next (record_numbers it.«record» (rest_numbers n it.«record».owner it.«record».cpu_target_mask it.sources))

  record_stands : Standing (record_found shape v n image at)
  unfolding record_found
  record_stands =
      onward Standing None _ tt (bounded_shows 127 image at) (λ f a x.
      onward Standing None _ tt (bounded_shows 255 image a) (λ p b y.
      last f p a b x y (rest_at v n (flag 3 f) image b) (rest_stands v n (flag 3 f) image b)))
    where
      last : (f p a b : ℕ) → Bounded 127 image at f a → Bounded 255 image a p b → (it : Option (RecordRest × ℕ)) → StandingRest image b (ltb n 16) (ltb n 32) it
          → Standing (then_rest it (λ owner mask x next. record_if_lawful shape v n (record_from f p owner mask) x next))
      last f p a b x y None z = tt
      last f p a b x y (Some (rest, next)) z = go (lawful_number shape v n (record_from f p rest.owner rest.mask) rest.sources) refl
        where
          go : (l : Bool) → lawful_number shape v n (record_from f p rest.owner rest.mask) rest.sources ≡ l → Standing (cond l (Some (record_and_sources (record_from f p rest.owner rest.mask) rest.sources, next)) None)
          go true l = (l, rw (flags_again f p rest.owner rest.mask (leb-true f 127 x.passes)) (row_cons x.stands (row_cons y.stands z)))
          go false l = tt

  pub record_exact : {r : InterruptRecord} {x next : ℕ} → record_found shape v n image at ≡ Some (record_and_sources r x, next)
      → (lawful_number shape v n r x ≡ true) × Row image at next (record_numbers r (rest_numbers n r.owner r.cpu_target_mask x))
  record_exact e = subst Standing e record_stands
