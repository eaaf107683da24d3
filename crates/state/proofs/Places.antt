-- What is said of each kind of slot and of each interface value, here alone: where it stands, that it stands alone there, and that it starts as
-- it is written. How large a state is. Assumes nothing.
use Rattle.std.specs.Prelude.{None, Some}
use mathlib.Core.Path.{◌≡◌, refl, sym, ap, ◌∙◌}
use mathlib.Core.Bool.{Bool, true, false, cond, and-false, true≢false}
use Prim.Native.Nat.{ℕ, zero, suc, ◌+◌, ◌*◌, ◌-◌, ◌/◌, ◌%◌, ◌≤◌, ◌<◌}
use native.Mathlib.Omega.{arith}
use lib.Dec.{eqb, leb, ltb}
use borrow.Author.Tests.{lt-ltb, le-ltb, ltb-true, ltb-false, le-leb, lt-leb, leb-true, eqb-true, eqb-false}
use Rattle.interrupt.specs.Record.{new_record, starting_record}
use Rattle.word.specs.Word.{word_of, InRange}
use Rattle.word.proofs.RecordWord.{decode_encode}
use Rattle.state.specs.declared.layout.Shape.{Shape}
use Rattle.state.specs.declared.layout.InterfaceValue.{InterfaceValue}
use Rattle.state.specs.declared.layout.InterfaceValue.TheVariants.{Control, PriorityMask, BinaryPoint, Depth}
use Rattle.state.specs.Layout.{Slot, Count, Limit, DistributorControl, Interface, Sources, Private, Spi, Stack, interface_number, header_words, sources_start, private_start, vcpu_words, first_spi, stack_capacity, spi_start, spi_end, summary_place, stack_start, size, largest_size, place, Exists, Limits, interface_of, header_slot, vcpu_slot, tail_slot, in_summary, slot_at, kind_of, spi_of}
use Rattle.state.specs.Words.{kept, start_of, start_at, CanonicalWord}
use Rattle.state.proofs.Tests.{left_true, right_true}

-- no state is larger than that of 8 vCPUs and limit 1020, which takes less than 32 KiB (document 02, Five, would allow 33)
pub size_bound : (shape : Shape) → Limits shape → size shape ≤ largest_size
size_bound shape l = omega arith

pub largest_fits : 4 * largest_size < 32 * 1024
largest_fits = omega arith

-- the interface values: their numbers, there and back, and what is kept of each
interface_below : (k : InterfaceValue) → interface_number k < sources_start
interface_below Control = omega arith
interface_below PriorityMask = omega arith
interface_below BinaryPoint = omega arith
interface_below Depth = omega arith

interface_back : (k : InterfaceValue) → interface_of (interface_number k) ≡ k
unfolding interface_of
interface_back Control = refl
interface_back PriorityMask = refl
interface_back BinaryPoint = refl
interface_back Depth = refl

interface_forth : (r : ℕ) → r < sources_start → interface_number (interface_of r) ≡ r
unfolding interface_of
interface_forth zero h = refl
interface_forth (suc zero) h = refl
interface_forth (suc (suc zero)) h = refl
interface_forth (suc (suc (suc n))) h = omega arith

-- what is kept of a value is kept again, and a value starts as it is kept
pub kept_kept : (k : InterfaceValue) (x : ℕ) → kept k (kept k x) ≡ kept k x
kept_kept Control x = omega arith
kept_kept PriorityMask x = omega arith
kept_kept BinaryPoint x = omega arith
kept_kept Depth x = refl

start_kept : (k : InterfaceValue) → kept k 0 ≡ 0
start_kept Control = refl
start_kept PriorityMask = refl
start_kept BinaryPoint = refl
start_kept Depth = refl

-- inside the size
pub place_inside : (shape : Shape) (t : Slot) → Limits shape → Exists shape t → place shape t < size shape
place_inside shape Count l e = omega arith
place_inside shape Limit l e = omega arith
place_inside shape DistributorControl l e = omega arith
place_inside shape (Interface v k) l e = let b : interface_number k < sources_start = interface_below k in omega arith
place_inside shape (Sources v n) l e = omega arith
place_inside shape (Private v n) l e = omega arith
place_inside shape (Spi n) l e = omega arith
place_inside shape (Stack v i) l e = omega arith

-- the slot at a place: a vCPU's words
of_vcpu_lem : (shape : Shape) (v r : ℕ) → v < shape.count → r < vcpu_words → slot_at shape (header_words + vcpu_words * v + r) ≡ vcpu_slot v r
unfolding slot_at
of_vcpu_lem shape v r hv hr =
    let a : (header_words + vcpu_words * v + r - header_words) / vcpu_words ≡ v = omega arith in
    let b : (header_words + vcpu_words * v + r - header_words) % vcpu_words ≡ r = omega arith in
    simp (le-ltb (header_words + vcpu_words * v + r) header_words (omega arith), lt-ltb (header_words + vcpu_words * v + r) (spi_start shape) (omega arith), a, b)

past_spis : (shape : Shape) (k : ℕ) → spi_end shape ≤ k → slot_at shape k ≡ tail_slot shape k
unfolding slot_at
past_spis shape k h = simp (le-ltb k header_words (omega arith), le-ltb k (spi_start shape) (omega arith), le-ltb k (spi_end shape) (omega arith))

-- what stands at a slot's place is that slot
pub slot_back : (shape : Shape) (t : Slot) → Exists shape t → slot_at shape (place shape t) ≡ t
unfolding slot_at header_slot vcpu_slot
slot_back shape Count e = refl
slot_back shape Limit e = refl
slot_back shape DistributorControl e = refl
slot_back shape (Interface v k) e =
    let b : interface_number k < sources_start = interface_below k in
    of_vcpu_lem shape v (interface_number k) e (omega arith) ∙ simp (lt-ltb (interface_number k) sources_start b, interface_back k)
slot_back shape (Sources v n) e =
    let r : sources_start + n - sources_start ≡ n = omega arith in
    of_vcpu_lem shape v (sources_start + n) e.0 (omega arith) ∙ simp (le-ltb (sources_start + n) sources_start (omega arith), lt-ltb (sources_start + n) private_start (omega arith), r)
slot_back shape (Private v n) e =
    let r : private_start + n - private_start ≡ n = omega arith in
    of_vcpu_lem shape v (private_start + n) e.0 (omega arith) ∙ simp (le-ltb (private_start + n) sources_start (omega arith), le-ltb (private_start + n) private_start (omega arith), r)
slot_back shape (Spi n) e =
    let k : ℕ = spi_start shape + (n - first_spi) in
    let r : k - spi_start shape + first_spi ≡ n = omega arith in
    simp (le-ltb k header_words (omega arith), le-ltb k (spi_start shape) (omega arith), lt-ltb k (spi_end shape) (omega arith), r)
slot_back shape (Stack v i) e =
    let k : ℕ = stack_start shape + (stack_capacity * v + i) in
    let a : (k - stack_start shape) / stack_capacity ≡ v = omega arith in
    let b : (k - stack_start shape) % stack_capacity ≡ i = omega arith in
    past_spis shape k (omega arith) ∙ simp (a, b)

-- no two slots stand at one place
pub place_apart : (shape : Shape) (t u : Slot) → Exists shape t → Exists shape u → place shape t ≡ place shape u → t ≡ u
place_apart shape t u et eu p = sym (slot_back shape t et) ∙ ap (slot_at shape) p ∙ slot_back shape u eu

-- a slot that is neither the count's nor the limit's, which are the first kinds
abbrev pub Inner : Slot → Type 0
Inner t = kind_of Limit < kind_of t

pub inner_place : (shape : Shape) (t : Slot) → Inner t → 2 ≤ place shape t
inner_place shape Count inner = inner
inner_place shape Limit inner = inner
inner_place shape DistributorControl inner = omega arith
inner_place shape (Interface v k) inner = omega arith
inner_place shape (Sources v n) inner = omega arith
inner_place shape (Private v n) inner = omega arith
inner_place shape (Spi n) inner = omega arith
inner_place shape (Stack v i) inner = omega arith

-- k is the place of t, and t is a slot of the state
pub record At (shape : Shape) (k : ℕ) (t : Slot) : Type 0 where
  pub exists : Exists shape t
  pub stands : place shape t ≡ k

header_at : (shape : Shape) (k : ℕ) → k < header_words → At shape k (header_slot k)
unfolding header_slot
header_at shape k h = go (eqb k 0) (eqb k 1) refl refl
  where
    go : (a b : Bool) → eqb k 0 ≡ a → eqb k 1 ≡ b → At shape k (cond a Count (cond b Limit DistributorControl))
    go true b p q = record { exists = tt; stands = sym (eqb-true k 0 p) }
    go false true p q = record { exists = tt; stands = sym (eqb-true k 1 q) }
    go false false p q =
        let x : k ≡ 0 → ⊥ = eqb-false k 0 p in
        let y : k ≡ 1 → ⊥ = eqb-false k 1 q in
        record { exists = tt; stands = omega arith }

vcpu_at : (shape : Shape) (v r : ℕ) → v < shape.count → r < vcpu_words → At shape (header_words + vcpu_words * v + r) (vcpu_slot v r)
unfolding vcpu_slot
vcpu_at shape v r b h = go (ltb r sources_start) (ltb r private_start) refl refl
  where
    go : (x y : Bool) → ltb r sources_start ≡ x → ltb r private_start ≡ y → At shape (header_words + vcpu_words * v + r) (cond x (Interface v (interface_of r)) (cond y (Sources v (r - sources_start)) (Private v (r - private_start))))
    go true y p q = record { exists = b; stands = ap (λ (n : ℕ). header_words + vcpu_words * v + n) (interface_forth r (ltb-true r sources_start p)) }
    go false true p q =
        let x : sources_start ≤ r = ltb-false r sources_start p in
        let y : r < private_start = ltb-true r private_start q in
        record { exists = (b, omega arith); stands = omega arith }
    go false false p q =
        let y : private_start ≤ r = ltb-false r private_start q in
        record { exists = (b, omega arith); stands = omega arith }

tail_at : (shape : Shape) (k : ℕ) → Limits shape → stack_start shape ≤ k → k < size shape → At shape k (tail_slot shape k)
tail_at shape k l past h = record { exists = (omega arith, omega arith); stands = omega arith }

no_spi : (n : ℕ) → None ≡ Some n → ⊥
no_spi n e = let z : ◌≡◌ {A = ℕ} 0 1 = cc in omega arith

-- the summary stands between the SPIs and the stacks, and no slot in it
pub summary_from : (shape : Shape) (k : ℕ) → in_summary shape k ≡ true → (spi_end shape ≤ k) × (k < stack_start shape)
summary_from shape k e = (leb-true (spi_end shape) k (left_true _ (ltb k (stack_start shape)) e), ltb-true k (stack_start shape) (right_true (leb (spi_end shape) k) _ e))

pub before_summary : (shape : Shape) (k : ℕ) → k < spi_end shape → in_summary shape k ≡ false
before_summary shape k h = simp (lt-leb (spi_end shape) k h)

pub after_summary : (shape : Shape) (k : ℕ) → stack_start shape ≤ k → in_summary shape k ≡ false
after_summary shape k h = simp (le-ltb k (stack_start shape) h, and-false)

pub off_summary : (shape : Shape) (t : Slot) → Exists shape t → in_summary shape (place shape t) ≡ false
off_summary shape Count e = before_summary shape 0 (omega arith)
off_summary shape Limit e = before_summary shape 1 (omega arith)
off_summary shape DistributorControl e = before_summary shape 2 (omega arith)
off_summary shape (Interface v k) e = let b : interface_number k < sources_start = interface_below k in before_summary shape _ (omega arith)
off_summary shape (Sources v n) e = before_summary shape _ (omega arith)
off_summary shape (Private v n) e = before_summary shape _ (omega arith)
off_summary shape (Spi n) e = before_summary shape _ (omega arith)
off_summary shape (Stack v i) e = after_summary shape _ (omega arith)

-- the slot of an SPI's record
pub spi_slot : (t : Slot) (n : ℕ) → spi_of t ≡ Some n → t ≡ Spi n
spi_slot Count n e = absurd (no_spi n e)
spi_slot Limit n e = absurd (no_spi n e)
spi_slot DistributorControl n e = absurd (no_spi n e)
spi_slot (Interface v k) n e = absurd (no_spi n e)
spi_slot (Sources v m) n e = absurd (no_spi n e)
spi_slot (Private v m) n e = absurd (no_spi n e)
spi_slot (Spi m) n e = cc
spi_slot (Stack v i) n e = absurd (no_spi n e)

-- an SPI's bit stands in it
pub bit_in_summary : (shape : Shape) (n : ℕ) → Exists shape (Spi n) → in_summary shape (summary_place shape n) ≡ true
bit_in_summary shape n e = simp (le-leb (spi_end shape) (summary_place shape n) (omega arith), lt-ltb (summary_place shape n) (stack_start shape) (omega arith))

-- every other place of a state has its slot
pub every_place : (shape : Shape) (k : ℕ) → Limits shape → k < size shape → in_summary shape k ≡ false → At shape k (slot_at shape k)
unfolding slot_at
every_place shape k l h off = go (ltb k header_words) (ltb k (spi_start shape)) (ltb k (spi_end shape)) refl refl refl
  where
    in_vcpu : header_words ≤ k → k < spi_start shape → At shape k (vcpu_slot ((k - header_words) / vcpu_words) ((k - header_words) % vcpu_words))
    in_vcpu a b =
        let e : header_words + vcpu_words * ((k - header_words) / vcpu_words) + (k - header_words) % vcpu_words ≡ k = omega arith in
        rw e at (vcpu_at shape ((k - header_words) / vcpu_words) ((k - header_words) % vcpu_words) (omega arith) (omega arith))

    go : (x y z : Bool) → ltb k header_words ≡ x → ltb k (spi_start shape) ≡ y → ltb k (spi_end shape) ≡ z
        → At shape k (cond x (header_slot k) (cond y (vcpu_slot ((k - header_words) / vcpu_words) ((k - header_words) % vcpu_words)) (cond z (Spi (k - spi_start shape + first_spi)) (tail_slot shape k))))
    go true y z p q r = header_at shape k (ltb-true k header_words p)
    go false true z p q r = in_vcpu (ltb-false k header_words p) (ltb-true k (spi_start shape) q)
    go false false true p q r =
        let a : spi_start shape ≤ k = ltb-false k (spi_start shape) q in
        let b : k < spi_end shape = ltb-true k (spi_end shape) r in
        record { exists = (omega arith, omega arith); stands = omega arith }
    go false false false p q r = tail_at shape k l (past (ltb k (stack_start shape)) refl (ltb-false k (spi_end shape) r)) h
      where
        past : (b : Bool) → ltb k (stack_start shape) ≡ b → spi_end shape ≤ k → stack_start shape ≤ k
        past true e from = absurd (true≢false (sym (simp (le-leb (spi_end shape) k from, e)) ∙ off))
        past false e from = ltb-false k (stack_start shape) e

-- a slot starts as it is written
pub starting_in_range : (n : ℕ) → InRange (starting_record (record { 0 = n }))
unfolding starting_record new_record
starting_in_range n = record { priority_byte = omega arith; mask_byte_lem = omega arith; owner_byte_lem = tt }

-- past the records of the SPIs a word starts as 0
pub tail_starts : (shape : Shape) (k : ℕ) → spi_end shape ≤ k → start_at shape k ≡ 0
tail_starts shape k h = rw (past_spis shape k h) (go (in_summary shape k))
  where
    go : (b : Bool) → cond b 0 (start_of shape (tail_slot shape k)) ≡ 0
    go true = refl
    go false = refl

pub start_written : (shape : Shape) (t : Slot) → CanonicalWord t (start_of shape t)
start_written shape Count = refl
start_written shape Limit = refl
start_written shape DistributorControl = refl
start_written shape (Interface v k) = start_kept k
start_written shape (Sources v n) = refl
start_written shape (Private v n) = ap word_of (decode_encode (starting_record (record { 0 = n })) (starting_in_range n))
start_written shape (Spi n) = ap word_of (decode_encode (starting_record (record { 0 = n })) (starting_in_range n))
start_written shape (Stack v i) = refl
