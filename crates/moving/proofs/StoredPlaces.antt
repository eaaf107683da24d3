-- Which part of an image each slot of a state is stored by, by the part's number: every slot is of one part, but for the count, the limit and the
-- Distributor's CTLR, which are of none. Assumes nothing.
use mathlib.Core.Path.{◌≡◌, refl, ap, ◌∙◌}
use mathlib.Core.Bool.{Bool, true, false, cond}
use Prim.Native.Nat.{ℕ, ◌+◌, ◌-◌, ◌*◌, ◌/◌, ◌%◌, ◌≤◌, ◌<◌}
use native.Mathlib.Omega.{arith}
use lib.Dec.{ltb}
use borrow.Author.Tests.{lt-ltb, le-ltb, ltb-true, ltb-false}
use Rattle.state.specs.declared.layout.Shape.{Shape}
use Rattle.state.specs.declared.layout.InterfaceValue.TheVariants.{Control, PriorityMask, BinaryPoint, Depth}
use Rattle.state.specs.Layout.{Slot, Count, Limit, DistributorControl, Interface, Sources, Private, Spi, Stack, Limits}
use Rattle.state.specs.Words.{record_slot}
use Rattle.image.specs.Parts.{Part, Registers, Service, Interrupt, part_count, part_at, PartThere}
use Rattle.image.proofs.Cases.{spi_part}

abbrev pub part_index : Shape → Slot → ℕ
part_index shape Count = part_count shape
part_index shape Limit = part_count shape
part_index shape DistributorControl = part_count shape
part_index shape (Interface v Control) = v
part_index shape (Interface v PriorityMask) = v
part_index shape (Interface v BinaryPoint) = v
part_index shape (Interface v Depth) = shape.count + v
part_index shape (Sources v n) = 2 * shape.count + 32 * v + n
part_index shape (Private v n) = 2 * shape.count + 32 * v + n
part_index shape (Spi n) = 34 * shape.count + (n - 32)
part_index shape (Stack v i) = shape.count + v

-- a slot of the part, which has the number of all of them
abbrev pub slot_of : Part → Slot
slot_of (Registers v) = Interface v.0 Control
slot_of (Service v) = Interface v.0 Depth
slot_of (Interrupt v n) = record_slot v.0 n.0

abbrev pub OfPart : Shape → Part → Slot → Type 0
OfPart shape p t = part_index shape t ≡ part_index shape (slot_of p)

-- the part of a slot has the slot's number
module _ (shape : Shape) where
  pub index_spi : (n : ℕ) → 32 ≤ n → part_at shape (34 * shape.count + (n - 32)) ≡ Interrupt (record { 0 = 0 }) (record { 0 = n })
  index_spi n high = let same : 32 + (n - 32) ≡ n = omega arith in spi_part shape (n - 32) ∙ ap (λ (x : ℕ). Interrupt (record { 0 = 0 }) (record { 0 = x })) same

  -- and back: part k is there, and its slots have the number k
  pub record Stands (k : ℕ) (p : Part) : Type 0 where
    pub there : PartThere shape p
    pub stands : part_index shape (slot_of p) ≡ k

  pub part_stands : (k : ℕ) → Limits shape → k < part_count shape → Stands k (part_at shape k)
  unfolding part_at record_slot
  part_stands k l b = go (ltb k shape.count) (ltb k (2 * shape.count)) (ltb k (34 * shape.count)) refl refl refl
    where
      go : (x y z : Bool) → ltb k shape.count ≡ x → ltb k (2 * shape.count) ≡ y → ltb k (34 * shape.count) ≡ z
          → Stands k (cond x (Registers (record { 0 = k })) (cond y (Service (record { 0 = k - shape.count }))
          (cond z (Interrupt (record { 0 = (k - 2 * shape.count) / 32 }) (record { 0 = (k - 2 * shape.count) % 32 })) (Interrupt (record { 0 = 0 }) (record { 0 = k - 34 * shape.count + 32 })))))
      go true y z p q r = record { there = ltb-true k shape.count p; stands = refl }
      go false true z p q r =
          let a : shape.count ≤ k = ltb-false k shape.count p in
          let c : k < 2 * shape.count = ltb-true k (2 * shape.count) q in
          record { there = omega arith; stands = omega arith }
      go false false true p q r =
          let a : 2 * shape.count ≤ k = ltb-false k (2 * shape.count) q in
          let c : k < 34 * shape.count = ltb-true k (34 * shape.count) r in
          record {
            there = record { numbered = omega (arith, l.private_numbers_lem); banked = λ _. omega arith };
            stands = rw (lt-ltb ((k - 2 * shape.count) % 32) 32 (omega arith)) (omega arith);
          }
      go false false false p q r =
          let a : 34 * shape.count ≤ k = ltb-false k (34 * shape.count) r in
          record {
            there = record { numbered = omega (arith, l.private_numbers_lem); banked = λ _. l.some_vcpu };
            stands = rw (le-ltb (k - 34 * shape.count + 32) 32 (omega arith)) (omega arith);
          }
