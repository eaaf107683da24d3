-- The image of a state, and the test whether it is lawful, go by its slots, never by the count's and the limit's: words that agree on the others
-- have one image and pass alike. Assumes nothing.
use mathlib.Core.Path.{◌≡◌, refl, ap, ◌∙◌}
use mathlib.Core.Bool.{Bool, true, false, ◌&&◌}
use mathlib.Core.List.{List, [], ◌∷◌, ◌++◌}
use Prim.Native.Nat.{ℕ, zero, suc, ◌+◌, ◌-◌, ◌≤◌, ◌<◌}
use native.Mathlib.Omega.{arith}
use lib.Dec.{ltb}
use borrow.Author.Tests.{ltb-true}
use Rattle.groups.specs.Groups.{spelled}
use Rattle.state.specs.declared.layout.Shape.{Shape}
use Rattle.state.specs.declared.layout.InterfaceValue.TheVariants.{Control, PriorityMask, BinaryPoint, Depth}
use Rattle.state.specs.declared.words.Entry.{Entry}
use Rattle.state.specs.Layout.{Stack}
use Rattle.state.specs.Loop.{every_below}
use Rattle.state.specs.Words.{RecordThere, record_at, sources_at, entry_of, entry_at}
use Rattle.service.specs.Service.{depth_at, stack_to, running_of, Sound}
use Rattle.interrupt.specs.Record.{is_ready}
use Rattle.lawful_test.specs.LawfulTest.{implied, record_lawful, sources_lawful, number_lawful, entry_lawful, entry_lawful_at, stack_lawful, vcpu_lawful, says_same, spi_passes, is_lawful}
use Rattle.image.specs.Image.{each, entry_numbers, interface_numbers, service_numbers, record_numbers, private_numbers_at, spi_numbers, spi_numbers_at, body_numbers, image}
use Rattle.reach.proofs.Readings.{Alike, when, record_alike, bit_alike, control_alike, interface_alike, sources_alike}

-- what is the same one by one
each_same : (f g : ℕ → List ℕ) (n : ℕ) → ((i : ℕ) → i < n → f i ≡ g i) → each f n ≡ each g n
unfolding each
each_same f g zero same = refl
each_same f g (suc n) same = λ i. each_same f g n (λ k h. same k (omega arith)) i ++ same n (omega arith) i

pub every_same : (f g : ℕ → Bool) (n : ℕ) → ((i : ℕ) → i < n → f i ≡ g i) → every_below f n ≡ every_below g n
unfolding every_below
every_same f g zero same = refl
every_same f g (suc n) same = λ i. every_same f g n (λ k h. same k (omega arith)) i && same n (omega arith) i

module _ {shape : Shape} {r s : List ℕ} (same : Alike shape r s) (h : Sound shape s) where
  -- an interrupt's
  number_alike : (v n : ℕ) → RecordThere shape v n → number_lawful shape v r n ≡ number_lawful shape v s n
  unfolding number_lawful
  number_alike v n there = λ i. record_lawful shape v n (own i) && sourced (ltb n 16) refl i
    where
      own : record_at shape v n r ≡ record_at shape v n s
      own = record_alike same v n there

      sourced : (b : Bool) → ltb n 16 ≡ b
          → implied b (sources_lawful (sources_at shape v n r) (record_at shape v n r).pending) ≡ implied b (sources_lawful (sources_at shape v n s) (record_at shape v n s).pending)
      sourced true e =
          let sgi = ltb-true n 16 e in
          λ i. sources_lawful (sources_alike same v (there.banked (omega arith)) n sgi i) (own i).pending
      sourced false e = refl

  spi_there : (i : ℕ) → i < shape.limit - 32 → RecordThere shape 0 (32 + i)
  spi_there i b = record { numbered = omega arith; banked = λ low. absurd (omega arith) }

  -- a vCPU's
  module _ (v : ℕ) (exists : v < shape.count) where
    private_there : (n : ℕ) → n < 32 → RecordThere shape v n
    private_there n low = record { numbered = omega (arith, h.state.limits.private_numbers_lem); banked = λ x. exists }

    private_alike : (n : ℕ) → n < 32 → private_numbers_at shape r v n ≡ private_numbers_at shape s v n
    private_alike n low =
        λ i. record_numbers (record_alike same v n (private_there n low) i)
        (when (ltb n 16) [] (λ e. ap (λ (x : ℕ). x ∷ []) (sources_alike same v exists n (ltb-true n 16 e))) i)

    registers_alike : interface_numbers shape r v ≡ interface_numbers shape s v
    registers_alike = λ i. interface_alike same v exists Control i ∷ interface_alike same v exists PriorityMask i ∷ interface_alike same v exists BinaryPoint i ∷ []

    depth_alike : depth_at shape v r ≡ depth_at shape v s
    depth_alike = interface_alike same v exists Depth

    entry_alike : (i : ℕ) → i < depth_at shape v s → entry_at shape v i r ≡ entry_at shape v i s
    entry_alike i b = ap entry_of (same.agree (Stack v i) (exists, omega (arith, h.depths v exists)) (omega arith))

    entries_alike : service_numbers shape r v ≡ service_numbers shape s v
    entries_alike =
        (λ j. depth_alike j ∷ each (λ i. entry_numbers (entry_at shape v i r)) (depth_alike j))
        ∙ ap (λ (l : List ℕ). depth_at shape v s ∷ l) (each_same _ _ (depth_at shape v s) (λ i b. ap entry_numbers (entry_alike i b)))

    above_alike : (i : ℕ) → i ≤ depth_at shape v s → running_of (stack_to shape v r i) ≡ running_of (stack_to shape v s i)
    unfolding stack_to
    above_alike zero b = refl
    above_alike (suc i) b = ap (λ (e : Entry). e.priority.0) (entry_alike i (omega arith))

    stack_alike : stack_lawful shape v r ≡ stack_lawful shape v s
    stack_alike =
        ap (every_below (entry_lawful_at shape v r)) depth_alike
        ∙ every_same (entry_lawful_at shape v r) (entry_lawful_at shape v s) (depth_at shape v s) (λ i b j. entry_lawful shape (above_alike i (omega arith) j) (entry_alike i b j))

    vcpu_alike : vcpu_lawful shape r v ≡ vcpu_lawful shape s v
    vcpu_alike = λ j. stack_alike j && every_same (λ k. number_lawful shape v r (0 + k)) (λ k. number_lawful shape v s (0 + k)) 32 (λ k low. number_alike v (0 + k) (private_there (0 + k) (omega arith))) j

  spi_alike : (k : ℕ) → k < shape.limit - 32 → spi_passes shape r (32 + k) ≡ spi_passes shape s (32 + k)
  spi_alike k b =
      λ j. number_alike 0 (32 + k) (spi_there k b) j && says_same (bit_alike same (32 + k) (omega arith, omega arith) j) (is_ready (record_alike same 0 (32 + k) (spi_there k b) j))

  pub lawful_alike : is_lawful shape r ≡ is_lawful shape s
  unfolding is_lawful
  lawful_alike =
      λ j. every_same (vcpu_lawful shape r) (vcpu_lawful shape s) shape.count vcpu_alike j
      && every_same (λ k. spi_passes shape r (32 + k)) (λ k. spi_passes shape s (32 + k)) (shape.limit - 32) (λ k b. spi_alike k b) j

  body_alike : body_numbers shape r ≡ body_numbers shape s
  unfolding body_numbers
  body_alike =
      λ j. each_same (interface_numbers shape r) (interface_numbers shape s) shape.count registers_alike j
      ++ each_same (service_numbers shape r) (service_numbers shape s) shape.count entries_alike j
      ++ each_same (λ v. each (private_numbers_at shape r v) 32) (λ v. each (private_numbers_at shape s v) 32) shape.count (λ v b. each_same (private_numbers_at shape r v) (private_numbers_at shape s v) 32 (private_alike v b)) j
      ++ each_same (spi_numbers_at shape r) (spi_numbers_at shape s) (shape.limit - 32) (λ i b. ap spi_numbers (record_alike same 0 (32 + i) (spi_there i b))) j

  pub image_alike : image shape r ≡ image shape s
  image_alike = λ j. spelled (shape.count ∷ shape.limit ∷ control_alike same j ∷ body_alike j)
