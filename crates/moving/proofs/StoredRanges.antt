-- What reading a part of an image found is in the range that its slots hold. Assumes nothing.
use mathlib.Core.Path.{◌≡◌, refl, subst}
use mathlib.Core.Bool.{Bool, true, false, cond, ◌&&◌}
use mathlib.Core.List.{List}
use Prim.Native.Nat.{ℕ, ◌-◌, ◌%◌, ◌^◌, ◌≤◌, ◌<◌}
use native.Mathlib.Omega.{arith}
use lib.Dec.{eqb, ltb}
use borrow.Author.Tests.{ltb-true, eqb-true, eqb-false}
use Rattle.std.specs.Prelude.{Option, Some, None}
use Rattle.groups.specs.Groups.{found_at}
use Rattle.interrupt.specs.declared.record.InterruptRecord.{InterruptRecord}
use Rattle.word.specs.Word.{flag, owner_of, mask_byte, owners_held, owner_in_range, InRange}
use Rattle.state.specs.declared.layout.Shape.{Shape}
use Rattle.state.specs.declared.layout.InterfaceValue.{InterfaceValue}
use Rattle.state.specs.declared.layout.InterfaceValue.TheVariants.{Control, PriorityMask, BinaryPoint}
use Rattle.state.specs.declared.words.Entry.{Entry}
use Rattle.state.specs.Layout.{Limits}
use Rattle.state.specs.Words.{kept, RecordThere}
use Rattle.state.proofs.Tests.{right_true}
use Rattle.lawful_test.specs.LawfulTest.{entry_lawful}
use Rattle.image.specs.Image.{unset_mark}
use Rattle.load.specs.declared.reading.RecordAndSources.{RecordAndSources}
use Rattle.load.specs.declared.reading.RecordRest.{RecordRest}
use Rattle.load.specs.declared.reading.InterfaceRegisters.{InterfaceRegisters}
use Rattle.load.proofs.Numbers.{passed, within}
use Rattle.load.specs.Reading.{then_number, number_up_to, register_found, registers_at, entry_from, entry_found, own_owner, mask_from, sgi_rest, spi_rest, rest_at, record_from, lawful_number, then_rest, record_found, registers_from, rest_from, record_and_sources}
use Rattle.interrupt.specs.declared.types.GicVcpuId.{GicVcpuId}

-- what holds whichever way a reading goes
pub then_all : {A : Type 0} (P : A → Type 0) (nothing : A) (f : Option (ℕ × ℕ)) (g : ℕ → ℕ → A)
    → P nothing → ((n next : ℕ) → f ≡ Some (n, next) → P (g n next)) → P (then_number nothing f g)
then_all P nothing None g none some = none
then_all P nothing (Some (n, next)) g none some = some n next refl

test_all : {A : Type 0} (P : A → Type 0) (b : Bool) (x y : A) → (b ≡ true → P x) → (b ≡ false → P y) → P (cond b x y)
test_all P true x y holds fails = holds refl
test_all P false x y holds fails = fails refl

-- a number up to a most is
pub number_most : (most : ℕ) (image : List ℕ) (at n next : ℕ) → number_up_to most image at ≡ Some (n, next) → n ≤ most
number_most most image at n next = within most image at (number_up_to most image at) n next refl

-- a register's value is as it is kept
register_kept : (k : InterfaceValue) (image : List ℕ) (at n next : ℕ) → register_found k image at ≡ Some (n, next) → kept k n ≡ n
register_kept k image at n next e = eqb-true (kept k n) n (passed (λ m. eqb (kept k m) m) (found_at 2 image at) n next e)

pub record RegistersRanged (control mask point : ℕ) : Type 0 where
  pub control_kept : kept Control control ≡ control
  pub mask_kept : kept PriorityMask mask ≡ mask
  pub point_kept : kept BinaryPoint point ≡ point

abbrev RegistersFine : Option (InterfaceRegisters × ℕ) → Type 0
RegistersFine None = Unit
RegistersFine (Some (r, next)) = RegistersRanged r.control r.mask r.point

pub registers_ranged : (image : List ℕ) (at control mask point next : ℕ) → registers_at image at ≡ Some (registers_from control mask point, next)
    → RegistersRanged control mask point
unfolding registers_at
registers_ranged image at control mask point next e = subst RegistersFine e
    (then_all RegistersFine None (register_found Control image at) _ tt (λ c a p.
    then_all RegistersFine None (register_found PriorityMask image a) _ tt (λ m b q.
    then_all RegistersFine None (register_found BinaryPoint image b) _ tt (λ x n r. record {
      control_kept = register_kept Control image at c a p;
      mask_kept = register_kept PriorityMask image a m b q;
      point_kept = register_kept BinaryPoint image b x n r;
    }))))

-- an entry of a stack
pub record EntryRanged (shape : Shape) (e : Entry) : Type 0 where
  pub numbered : e.intid.0 < shape.limit
  pub byte : e.priority.0 < 256

abbrev EntryFine : Shape → Option (Entry × ℕ) → Type 0
EntryFine shape None = Unit
EntryFine shape (Some (e, next)) = EntryRanged shape e

pub entry_ranged : (shape : Shape) (above : ℕ) (image : List ℕ) (at : ℕ) (e : Entry) (next : ℕ) → entry_found shape above image at ≡ Some (e, next) → EntryRanged shape e
unfolding entry_found
entry_ranged shape above image at e next found = subst (EntryFine shape) found
    (then_all (EntryFine shape) None (found_at 2 image at) _ tt (λ n a _.
    then_all (EntryFine shape) None (number_up_to 255 image a) _ tt (λ p b q.
    test_all (EntryFine shape) (entry_lawful shape above (entry_from n p)) (Some (entry_from n p, b)) None
    (λ t. let most : p ≤ 255 = number_most 255 image a p b q in
    record { numbered = ltb-true n shape.limit (right_true (ltb p above && eqb (p % 2) 0) (ltb n shape.limit) t); byte = omega arith })
    (λ _. tt))))

-- what follows a record's flags and priority
record RestRanged (n : ℕ) (owner : Option GicVcpuId) (mask : Option ℕ) (x : ℕ) : Type 0 where
  pub owner_byte_lem : owner_in_range owner
  pub mask_byte_lem : mask_byte mask < 2 ^ 8
  pub small : x < 256
  pub none : 16 ≤ n → x ≡ 0

abbrev RestFine : ℕ → Option (RecordRest × ℕ) → Type 0
RestFine n None = Unit
RestFine n (Some (rest, next)) = RestRanged n rest.owner rest.mask rest.sources

own_held : (v : ℕ) (inflight : Bool) → v < owners_held → owner_in_range (own_owner v inflight)
own_held v true b = b
own_held v false b = tt

owner_held : (o : ℕ) → o ≤ 8 → owner_in_range (owner_of o)
owner_held o most = test_all owner_in_range (eqb o 0) None (Some (record { 0 = o - 1 })) (λ _. tt) (λ p. let some : o ≡ 0 → ⊥ = eqb-false o 0 p in omega arith)

mask_held : (m : ℕ) → m ≤ unset_mark → mask_byte (mask_from m) < 2 ^ 8
mask_held m most =
    test_all (λ k. mask_byte k < 2 ^ 8) (eqb m unset_mark) None (Some m) (λ _. omega arith) (λ p. let set : m ≡ unset_mark → ⊥ = eqb-false m unset_mark p in omega arith)

rest_fine : (v n : ℕ) (inflight : Bool) (image : List ℕ) (at : ℕ) → (n < 32 → v < owners_held) → RestFine n (rest_at v n inflight image at)
unfolding rest_at sgi_rest spi_rest
rest_fine v n inflight image at few =
    test_all (RestFine n) (ltb n 16) (sgi_rest (own_owner v inflight) image at) _
    (λ p. let low : n < 16 = ltb-true n 16 p in
    then_all (RestFine n) None (number_up_to 255 image at) _ tt (λ x next q.
    let most : x ≤ 255 = number_most 255 image at x next q in
    record { owner_byte_lem = own_held v inflight (few (omega arith)); mask_byte_lem = omega arith; small = omega arith; none = λ high. absurd (omega arith) }))
    (λ _. test_all (RestFine n) (ltb n 32) (Some (rest_from (own_owner v inflight) None 0, at)) (spi_rest image at)
    (λ p. record { owner_byte_lem = own_held v inflight (few (ltb-true n 32 p)); mask_byte_lem = omega arith; small = omega arith; none = λ _. refl })
    (λ _. then_all (RestFine n) None (number_up_to 8 image at) _ tt (λ o a p.
    then_all (RestFine n) None (number_up_to unset_mark image a) _ tt (λ m next q. record {
      owner_byte_lem = owner_held o (number_most 8 image at o a p);
      mask_byte_lem = mask_held m (number_most unset_mark image a m next q);
      small = omega arith;
      none = λ _. refl;
    }))))

-- a record, with the source set of an SGI
pub record RecordRanged (n : ℕ) (r : InterruptRecord) (x : ℕ) : Type 0 where
  pub in_range : InRange r
  pub small : x < 256
  pub none : 16 ≤ n → x ≡ 0

abbrev RecordFine : ℕ → Option (RecordAndSources × ℕ) → Type 0
RecordFine n None = Unit
RecordFine n (Some (it, next)) = RecordRanged n it.«record» it.sources

then_rest_lem : (P : Option (RecordAndSources × ℕ) → Type 0) (n : ℕ) (f : Option (RecordRest × ℕ)) (g : Option GicVcpuId → Option ℕ → ℕ → ℕ → Option (RecordAndSources × ℕ))
    → P None → RestFine n f → ((o : Option GicVcpuId) (m : Option ℕ) (x next : ℕ) → RestRanged n o m x → P (g o m x next)) → P (then_rest f g)
then_rest_lem P n None g none fine some = none
then_rest_lem P n (Some (rest, next)) g none fine some = some rest.owner rest.mask rest.sources next fine

pub record_ranged : (shape : Shape) (v n : ℕ) (image : List ℕ) (at : ℕ) (r : InterruptRecord) (x next : ℕ) → Limits shape → RecordThere shape v n
    → record_found shape v n image at ≡ Some (record_and_sources r x, next) → RecordRanged n r x
unfolding record_found
record_ranged shape v n image at r x next l there found = subst (RecordFine n) found
    (then_all (RecordFine n) None (number_up_to 127 image at) _ tt (λ f a _.
    then_all (RecordFine n) None (number_up_to 255 image a) _ tt (λ p b q.
    then_rest_lem (RecordFine n) n (rest_at v n (flag 3 f) image b) _ tt (rest_fine v n (flag 3 f) image b few) (λ o m y c h.
    test_all (RecordFine n) (lawful_number shape v n (record_from f p o m) y) (Some (record_and_sources (record_from f p o m) y, c)) None
    (λ _. let most : p ≤ 255 = number_most 255 image a p b q in
    record { in_range = record { priority_byte = omega arith; mask_byte_lem = h.mask_byte_lem; owner_byte_lem = h.owner_byte_lem }; small = h.small; none = h.none })
    (λ _. tt)))))
  where
    few : n < 32 → v < owners_held
    few low = let b = there.banked low in omega (arith, l.few_vcpus)
