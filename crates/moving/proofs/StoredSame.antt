-- Words that mean the same at every part of an image mean the same at every slot, but past the depths of the stacks; as we write them they are the
-- same words. Assumes nothing.
use mathlib.Core.Path.{◌≡◌, refl, sym, ap, subst, ◌∙◌}
use mathlib.Core.Bool.{Bool, true, false}
use mathlib.Core.List.{List}
use Prim.Native.Nat.{ℕ, ◌+◌, ◌*◌, ◌-◌, ◌≤◌, ◌<◌}
use native.Mathlib.Omega.{arith}
use lib.Dec.{ltb}
use lib.ListN.{take}
use borrow.Author.Tests.{lt-ltb, le-ltb, ltb-true, ltb-false}
use Rattle.word.specs.Word.{word_of}
use Rattle.state.specs.declared.layout.Shape.{Shape}
use Rattle.state.specs.declared.layout.InterfaceValue.TheVariants.{Control, PriorityMask, BinaryPoint, Depth}
use Rattle.state.specs.Layout.{Slot, Count, Limit, DistributorControl, Interface, Sources, Private, Spi, Stack, stack_capacity, size, Exists}
use Rattle.state.specs.Lent.{HoldsState}
use Rattle.state.specs.Words.{word_at, record_slot, distributor_control_at, entry_word, rewritten, Canonical, Exact}
use Rattle.state.proofs.Equal.{canonical_equal}
use Rattle.service.specs.Service.{depth_at}
use Rattle.image.specs.Parts.{Part, Registers, Service, Interrupt, part_at, part_count}
use Rattle.image.proofs.Cases.{part_registers, service_part, private_part}
use Rattle.moving.specs.Means.{InUse}
use Rattle.moving.specs.Reads.{SamePart}
use Rattle.moving.proofs.StoredPlaces.{index_spi}

module _ (shape : Shape) (s r : List ℕ) (hs : HoldsState shape s) (hr : HoldsState shape r) (control : distributor_control_at shape s ≡ distributor_control_at shape r)
    (same : (k : ℕ) → k < part_count shape → SamePart shape (part_at shape k) s r) where
  same_as : (k : ℕ) (p : Part) → k < part_count shape → part_at shape k ≡ p → SamePart shape p s r
  same_as k p b e = subst (λ (q : Part). SamePart shape q s r) e (same k b)

  registers_same : (v : ℕ) → v < shape.count → SamePart shape (Registers (record { 0 = v })) s r
  registers_same v b = same_as v (Registers (record { 0 = v })) (omega arith) (part_registers shape v b)

  service_same : (v : ℕ) → v < shape.count → SamePart shape (Service (record { 0 = v })) s r
  service_same v b = same_as (shape.count + v) (Service (record { 0 = v })) (omega arith) (service_part shape v b)

  private_same : (v n : ℕ) → v < shape.count → n < 32 → SamePart shape (Interrupt (record { 0 = v }) (record { 0 = n })) s r
  private_same v n b low = same_as (2 * shape.count + 32 * v + n) (Interrupt (record { 0 = v }) (record { 0 = n })) (omega arith) (private_part shape v n b low)

  spi_same : (n : ℕ) → 32 ≤ n → n < shape.limit → SamePart shape (Interrupt (record { 0 = 0 }) (record { 0 = n })) s r
  spi_same n high b = same_as (34 * shape.count + (n - 32)) (Interrupt (record { 0 = 0 }) (record { 0 = n })) (omega arith) (index_spi shape n high)

  pub same_meaning : (t : Slot) → Exists shape t → InUse shape s t → rewritten t (word_at shape t s) ≡ rewritten t (word_at shape t r)
  unfolding record_slot
  same_meaning Count e u = ap (λ (x : Shape). x.count) (sym hs.stored ∙ hr.stored)
  same_meaning Limit e u = ap (λ (x : Shape). x.limit) (sym hs.stored ∙ hr.stored)
  same_meaning DistributorControl e u = control
  same_meaning (Interface v Control) e u = (registers_same v e).0
  same_meaning (Interface v PriorityMask) e u = (registers_same v e).1
  same_meaning (Interface v BinaryPoint) e u = (registers_same v e).2
  same_meaning (Interface v Depth) e u = (service_same v e).0
  same_meaning (Sources v n) e u = (private_same v n e.0 (omega arith)).1 e.1
  same_meaning (Private v n) e u = ap word_of (rw (lt-ltb n 32 e.1) at (private_same v n e.0 e.1).0)
  same_meaning (Spi n) e u = ap word_of (rw (le-ltb n 32 e.0) at (spi_same n e.0 e.1).0)
  same_meaning (Stack v i) e u = ap entry_word ((service_same v e.0).1 i u)

  same_unused : Canonical shape s → Canonical shape r → (v i : ℕ) → v < shape.count → i < stack_capacity → depth_at shape v s ≤ i → word_at shape (Stack v i) s ≡ word_at shape (Stack v i) r
  same_unused cs cr v i b c deep = cs.cleared v i b deep c ∙ sym (cr.cleared v i b (rw (service_same v b).0 at deep) c)

  same_written : Canonical shape s → Canonical shape r → (t : Slot) → Exists shape t → rewritten t (word_at shape t s) ≡ rewritten t (word_at shape t r)
  same_written cs cr Count e = same_meaning Count e tt
  same_written cs cr Limit e = same_meaning Limit e tt
  same_written cs cr DistributorControl e = same_meaning DistributorControl e tt
  same_written cs cr (Interface v k) e = same_meaning (Interface v k) e tt
  same_written cs cr (Sources v n) e = same_meaning (Sources v n) e tt
  same_written cs cr (Private v n) e = same_meaning (Private v n) e tt
  same_written cs cr (Spi n) e = same_meaning (Spi n) e tt
  same_written cs cr (Stack v i) e = go (ltb i (depth_at shape v s)) refl
    where
      go : (b : Bool) → ltb i (depth_at shape v s) ≡ b → rewritten (Stack v i) (word_at shape (Stack v i) s) ≡ rewritten (Stack v i) (word_at shape (Stack v i) r)
      go true p = same_meaning (Stack v i) e (ltb-true i (depth_at shape v s) p)
      go false p = ap (rewritten (Stack v i)) (same_unused cs cr v i e.0 e.1 (ltb-false i (depth_at shape v s) p))

  pub same_state : Canonical shape s → Canonical shape r → Exact shape s → Exact shape r → take (size shape) s ≡ take (size shape) r
  same_state cs cr xs xr = canonical_equal shape s r hs.state hr.state cs cr xs xr (same_written cs cr)
