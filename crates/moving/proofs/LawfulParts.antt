-- Words that hold a state are lawful exactly if each of its parts is. Assumes nothing.
use mathlib.Core.Path.{◌≡◌}
use mathlib.Core.Bool.{true}
use mathlib.Core.List.{List}
use Prim.Native.Nat.{ℕ, ◌+◌, ◌-◌, ◌*◌, ◌<◌}
use native.Mathlib.Omega.{arith}
use Rattle.state.specs.declared.layout.Shape.{Shape}
use Rattle.state.specs.Words.{Exact}
use Rattle.state.specs.Lent.{HoldsState}
use Rattle.state.specs.Loop.{every_below}
use Rattle.state.proofs.Tests.{every_true}
use Rattle.lawful.specs.Lawful.{Lawful}
use Rattle.lawful_test.specs.LawfulTest.{number_lawful, stack_lawful, vcpu_lawful, spi_passes, is_lawful}
use Rattle.lawful_test.proofs.Passing.{both_true, number_passes, stack_passes, passes_lawful, bit_passes}
use Rattle.image.specs.Parts.{Part, Registers, Service, Interrupt, part_count, part_at, PartThere}
use Rattle.image.proofs.Cases.{service_part, private_part}
use Rattle.moving.specs.Reads.{LawfulPart}
use Rattle.moving.proofs.StoredPlaces.{index_spi, part_stands}

module _ (shape : Shape) (s : List ℕ) where
  lawful_part : Lawful shape s → (p : Part) → PartThere shape p → LawfulPart shape s p
  lawful_part h (Registers v) there = tt
  lawful_part h (Service v) there = (h.in_range.depths v.0 there, stack_passes shape s h v.0 there)
  lawful_part h (Interrupt v n) there = number_passes shape s h v.0 n.0 there

  pub lawful_parts : Lawful shape s → (k : ℕ) → k < part_count shape → LawfulPart shape s (part_at shape k)
  lawful_parts h k b = lawful_part h (part_at shape k) (part_stands shape k h.in_range.state.limits b).there

  module _ (h : HoldsState shape s) (summary : Exact shape s) (each : (k : ℕ) → k < part_count shape → LawfulPart shape s (part_at shape k)) where
    stack_lawful_lem : (v : ℕ) → v < shape.count → stack_lawful shape v s ≡ true
    stack_lawful_lem v b = (rw (service_part shape v b) at (each (shape.count + v) (omega arith))).1

    private_lawful : (v n : ℕ) → v < shape.count → n < 32 → number_lawful shape v s n ≡ true
    private_lawful v n b low = rw (private_part shape v n b low) at (each (2 * shape.count + 32 * v + n) (omega arith))

    spi_lawful_lem : (k : ℕ) → k < shape.limit - 32 → number_lawful shape 0 s (32 + k) ≡ true
    spi_lawful_lem k b = rw (index_spi shape (32 + k) (omega arith)) at (each (34 * shape.count + (32 + k - 32)) (omega arith))

    passes : is_lawful shape s ≡ true
    unfolding is_lawful
    passes =
        both_true (every_below (vcpu_lawful shape s) shape.count) _
        (every_true (vcpu_lawful shape s) shape.count (λ v b. both_true (stack_lawful shape v s) _ (stack_lawful_lem v b)
        (every_true (λ k. number_lawful shape v s (0 + k)) 32 (λ k low. private_lawful v (0 + k) b (omega arith)))))
        (every_true (λ k. spi_passes shape s (32 + k)) (shape.limit - 32) (λ k b. both_true (number_lawful shape 0 s (32 + k)) _ (spi_lawful_lem k b) (bit_passes shape s summary (32 + k) (omega arith) (omega arith))))

    pub parts_lawful : Lawful shape s
    parts_lawful = passes_lawful shape s h passes
