-- The record of an SPI is lawful if its numbers are. Assumes nothing.
use mathlib.Core.Path.{◌≡◌, refl, sym, ap, ◌∙◌}
use mathlib.Core.Bool.{Bool, true, false, not, cond, ◌&&◌}
use mathlib.Core.List.{List}
use Prim.Native.Nat.{ℕ, ◌-◌, ◌%◌, ◌^◌, ◌≤◌, ◌<◌}
use native.Mathlib.Omega.{arith}
use lib.Pow.{pow_pos}
use lib.Dec.{eqb, leb, ltb}
use borrow.Author.Tests.{lt-ltb, le-ltb, ltb-true, ltb-false, le-leb, lt-leb, leb-false, eqb-true, eqb-false, ne_eqb}
use Rattle.word.specs.Word.{flag, owner_of}
use Rattle.state.specs.declared.layout.Shape.{Shape}
use Rattle.lawful_test.specs.LawfulTest.{implied, owner_lawful, mask_lawful, record_lawful}
use Rattle.std.specs.Prelude.{Option, Some, None}
use Rattle.groups.specs.Groups.{found_at}
use Rattle.load.specs.declared.reading.RecordAndSources.{RecordAndSources}
use Rattle.load.specs.Reading.{number_up_to, mask_from, record_and_sources, spi_rest, rest_at, record_from, spi_lawful, record_found}
use Rattle.load.proofs.Numbers.{within, small_found}

-- the vCPU that an owner's number is of is below the count
below : (o count : ℕ) → (o ≡ 0 → ⊥) → ltb (o - 1) count ≡ leb o count
below o count some = go (ltb (o - 1) count) refl
  where
    go : (b : Bool) → ltb (o - 1) count ≡ b → b ≡ leb o count
    go true p = let h = ltb-true (o - 1) count p in sym (le-leb o count (omega arith))
    go false p = let h = ltb-false (o - 1) count p in sym (lt-leb o count (omega arith))

-- the tests of a record in some vCPU's hands, and of one in nobody's, are those of its numbers
charged : (active inflight noted mask : Bool) (owner : Bool)
    → (implied inflight active && implied noted inflight && (inflight && owner) && mask && true) && true ≡ (inflight && active && owner) && mask
charged true true true true true = refl
charged true true true true false = refl
charged true true true false true = refl
charged true true true false false = refl
charged true true false true true = refl
charged true true false true false = refl
charged true true false false true = refl
charged true true false false false = refl
charged true false true mask owner = refl
charged true false false mask owner = refl
charged false true noted mask owner = refl
charged false false true mask owner = refl
charged false false false mask owner = refl

idle : (active inflight noted mask : Bool) → (implied inflight active && implied noted inflight && not inflight && mask && true) && true ≡ (not inflight && not noted) && mask
idle true true true mask = refl
idle true true false mask = refl
idle true false true mask = refl
idle true false false true = refl
idle true false false false = refl
idle false true noted mask = refl
idle false false true mask = refl
idle false false false true = refl
idle false false false false = refl

module _ (shape : Shape) (n : ℕ) (high : 32 ≤ n) where
  mask_lawful_lem : (m : ℕ) → m ≤ 256 → mask_lawful shape n (mask_from m) ≡ ltb (m % 256) (2 ^ shape.count)
  mask_lawful_lem m small = go (eqb m 256) refl
    where
      go : (b : Bool) → eqb m 256 ≡ b → mask_lawful shape n (cond b None (Some m)) ≡ ltb (m % 256) (2 ^ shape.count)
      go true p =
          let e : m ≡ 256 = eqb-true m 256 p in
          let some = pow_pos shape.count in
          sym (lt-ltb (m % 256) (2 ^ shape.count) (omega arith))
      go false p =
          let less : m < 256 = omega (arith, eqb-false m 256 p) in
          let same : m % 256 ≡ m = omega arith in
          simp (le-ltb n 32 high, same)

  no_such : (f o m : ℕ) → leb o shape.count ≡ false → 0 < o → spi_lawful shape f o m ≡ false
  no_such f o m past some = simp (ne_eqb o 0 (λ e. omega arith), past) (go (flag 3 f) (flag 2 f))
    where
      go : (x y : Bool) → (x && y && false) && ltb (m % 256) (2 ^ shape.count) ≡ false
      go true true = refl
      go true false = refl
      go false y = refl

  -- an SPI has no source set to test
  spi_lawful_lem : (f p o m : ℕ) → m ≤ 256 → record_lawful shape 0 n (record_from f p (owner_of o) (mask_from m)) && true ≡ spi_lawful shape f o m
  unfolding record_lawful
  spi_lawful_lem f p o m small = simp (le-ltb n 16 (omega arith), mask_lawful_lem m small) (go (eqb o 0) refl)
    where
      go : (b : Bool) → eqb o 0 ≡ b
          → (implied (flag 3 f) (flag 2 f) && implied (flag 4 f) (flag 3 f) && owner_lawful shape 0 n (flag 3 f) (cond b None (Some (record { 0 = o - 1 }))) && ltb (m % 256) (2 ^ shape.count) && true) && true
          ≡ cond b (not (flag 3 f) && not (flag 4 f)) (flag 3 f && flag 2 f && leb o shape.count) && ltb (m % 256) (2 ^ shape.count)
      go true e = idle (flag 2 f) (flag 3 f) (flag 4 f) (ltb (m % 256) (2 ^ shape.count))
      go false e =
          simp (le-ltb n 32 high, below o shape.count (eqb-false o 0 e))
          (charged (flag 2 f) (flag 3 f) (flag 4 f) (ltb (m % 256) (2 ^ shape.count)) (leb o shape.count))

  -- what is found at one number after another: an owner above 8 is none, and it is no lawful one either
  module _ (image : List ℕ) (at f a p b : ℕ) (flags : number_up_to 127 image at ≡ Some (f, a)) (priority : number_up_to 255 image a ≡ Some (p, b)) where
    no_owner : number_up_to 8 image b ≡ None → record_found shape 0 n image at ≡ None
    unfolding record_found rest_at spi_rest
    no_owner owner = simp (flags, priority, le-ltb n 16 (omega arith), le-ltb n 32 high, owner)

    pub spi_no_owner : found_at 1 image b ≡ None → record_found shape 0 n image at ≡ None
    spi_no_owner owner = no_owner (small_found 8 image b (omega arith) ∙ simp owner)

    module _ (o c : ℕ) (owner : found_at 1 image b ≡ Some (o, c)) where
      pub spi_no_mask : number_up_to 256 image c ≡ None → record_found shape 0 n image at ≡ None
      unfolding record_found rest_at spi_rest
      spi_no_mask mask = go (leb o 8) refl
        where
          go : (x : Bool) → leb o 8 ≡ x → record_found shape 0 n image at ≡ None
          go true e =
              let own : number_up_to 8 image b ≡ Some (o, c) = small_found 8 image b (omega arith) ∙ simp (owner, e) in
              simp (flags, priority, le-ltb n 16 (omega arith), le-ltb n 32 high, own, mask)
          go false e = no_owner (small_found 8 image b (omega arith) ∙ simp (owner, e))

      pub spi_read : (m next : ℕ) → shape.count ≤ 8 → number_up_to 256 image c ≡ Some (m, next)
          → record_found shape 0 n image at ≡ cond {A = Option (RecordAndSources × ℕ)} (spi_lawful shape f o m) (Some (record_and_sources (record_from f p (owner_of o) (mask_from m)) 0, next)) None
      unfolding record_found rest_at spi_rest
      spi_read m next few mask = go (leb o 8) refl
        where
          go : (x : Bool) → leb o 8 ≡ x → record_found shape 0 n image at ≡ cond {A = Option (RecordAndSources × ℕ)} (spi_lawful shape f o m) (Some (record_and_sources (record_from f p (owner_of o) (mask_from m)) 0, next)) None
          go true e =
              let own : number_up_to 8 image b ≡ Some (o, c) = small_found 8 image b (omega arith) ∙ simp (owner, e) in
              let small = within 256 image c (number_up_to 256 image c) m next refl mask in
              simp (flags, priority, le-ltb n 16 (omega arith), le-ltb n 32 high, own, mask)
              (ap (λ (x : Bool). cond {A = Option (RecordAndSources × ℕ)} x (Some (record_and_sources (record_from f p (owner_of o) (mask_from m)) 0, next)) None) (spi_lawful_lem f p o m small))
          go false e =
              let big = leb-false o 8 e in
              let off : spi_lawful shape f o m ≡ false = no_such f o m (lt-leb o shape.count (omega arith)) (omega arith) in
              no_owner (small_found 8 image b (omega arith) ∙ simp (owner, e)) ∙ simp off
