-- Words that mean the same have one image: stray bits, and what lies past the newest entry of a stack, count for nothing. Assumes nothing.
use mathlib.Core.Path.{◌≡◌, refl, sym, ap, ap₂, ◌∙◌}
use mathlib.Core.Bool.{Bool, true, false, cond}
use mathlib.Core.List.{List, [], ◌∷◌}
use Prim.Native.Nat.{ℕ, ◌≤◌, ◌<◌}
use native.Mathlib.Omega.{arith}
use lib.Dec.{ltb}
use borrow.Author.Tests.{ltb-true}
use Rattle.groups.specs.Groups.{spelled}
use Rattle.interrupt.specs.declared.record.InterruptRecord.{InterruptRecord}
use Rattle.word.specs.Word.{record_of, word_of}
use Rattle.word.proofs.RecordWord.{decode_encode, decoded_in_range}
use Rattle.state.specs.declared.layout.Shape.{Shape}
use Rattle.state.specs.declared.layout.InterfaceValue.TheVariants.{Control, PriorityMask, BinaryPoint, Depth}
use Rattle.state.specs.Layout.{DistributorControl, Interface, Sources, Private, Spi, Stack, Exists, Limits, stack_capacity}
use Rattle.state.specs.Words.{word_at, record_slot, RecordThere, record_at, sources_at, entry_of, entry_word, entry_at, distributor_control_at}
use Rattle.state.proofs.Accessors.{entry_back, record_exists}
use Rattle.service.specs.Service.{depth_at}
use Rattle.image.specs.Parts.{Part, Registers, Service, Interrupt, part_count, part_at, part_numbers, PartThere}
use Rattle.image.specs.Image.{each, entry_numbers, record_numbers, spi_numbers, body_numbers, image}
use Rattle.image.proofs.ByParts.{each_same, numbers_of, body_by_parts}
use Rattle.moving.proofs.StoredPlaces.{part_stands}
use Rattle.moving.specs.Means.{MeansSame}
use Rattle.moving.specs.Reads.{SamePart}

module _ (shape : Shape) (s r : List ℕ) where
  same_numbers : (p : Part) → SamePart shape p s r → part_numbers shape s p ≡ part_numbers shape r p
  same_numbers (Registers v) h = λ i. h.0 i ∷ h.1 i ∷ h.2 i ∷ []
  same_numbers (Service v) h =
      ap₂ ◌∷◌ h.0
      (each_same (λ i. entry_numbers (entry_at shape v.0 i s)) (λ i. entry_numbers (entry_at shape v.0 i r)) (depth_at shape v.0 s) (λ i b. ap entry_numbers (h.1 i b))
      ∙ ap (each (λ i. entry_numbers (entry_at shape v.0 i r))) h.0)
  same_numbers (Interrupt v n) h =
      ap₂ (λ (q : InterruptRecord) (xs : List ℕ). cond (ltb n.0 32) (record_numbers q xs) (spi_numbers q)) h.0 (sets (ltb n.0 16) refl)
    where
      sets : (b : Bool) → ltb n.0 16 ≡ b → cond b (sources_at shape v.0 n.0 s ∷ []) [] ≡ cond b (sources_at shape v.0 n.0 r ∷ []) []
      sets true e = ap (λ (x : ℕ). x ∷ []) (h.1 (ltb-true n.0 16 e))
      sets false e = refl

  pub same_parts_same_image : distributor_control_at shape s ≡ distributor_control_at shape r → ((k : ℕ) → k < part_count shape → SamePart shape (part_at shape k) s r)
      → image shape s ≡ image shape r
  same_parts_same_image control parts =
      let body : body_numbers shape s ≡ body_numbers shape r =
      body_by_parts shape s
      ∙ each_same (numbers_of shape s) (numbers_of shape r) (part_count shape) (λ k b. same_numbers (part_at shape k) (parts k b))
      ∙ sym (body_by_parts shape r) in
      λ i. spelled (shape.count ∷ shape.limit ∷ control i ∷ body i)

-- what is written for a word tells what it means
record_told : (w x : ℕ) → word_of (record_of w) ≡ word_of (record_of x) → record_of w ≡ record_of x
record_told w x e = sym (decode_encode (record_of w) (decoded_in_range w)) ∙ ap record_of e ∙ decode_encode (record_of x) (decoded_in_range x)

entry_told : (w x : ℕ) → entry_word (entry_of w) ≡ entry_word (entry_of x) → entry_of w ≡ entry_of x
entry_told w x e = sym (back w) ∙ ap entry_of e ∙ back x
  where
    back : (w : ℕ) → entry_of (entry_word (entry_of w)) ≡ entry_of w
    back w = entry_back (entry_of w) (omega arith) (omega arith)

module _ (shape : Shape) (limits : Limits shape) (s r : List ℕ) (h : MeansSame shape s r) where
  record_same : (v n : ℕ) → RecordThere shape v n → record_at shape v n s ≡ record_at shape v n r
  unfolding record_slot
  record_same v n there = go (ltb n 32) refl (record_exists shape v n there)
    where
      go : (b : Bool) → ltb n 32 ≡ b → Exists shape (cond b (Private v n) (Spi n))
          → record_of (word_at shape (cond b (Private v n) (Spi n)) s) ≡ record_of (word_at shape (cond b (Private v n) (Spi n)) r)
      go true e exists = record_told _ _ (h.at (Private v n) exists tt)
      go false e exists = record_told _ _ (h.at (Spi n) exists tt)

  same_part : (p : Part) → PartThere shape p → ((v : ℕ) → v < shape.count → depth_at shape v s ≤ stack_capacity) → SamePart shape p s r
  same_part (Registers v) there deep = (h.at (Interface v.0 Control) there tt, h.at (Interface v.0 PriorityMask) there tt, h.at (Interface v.0 BinaryPoint) there tt)
  same_part (Service v) there deep =
      (h.at (Interface v.0 Depth) there tt, λ i b. entry_told _ _ (h.at (Stack v.0 i) (there, (let d = deep v.0 there in omega arith)) b))
  same_part (Interrupt v n) there deep = (record_same v.0 n.0 there, λ sgi. h.at (Sources v.0 n.0) (there.banked (omega arith), sgi) tt)

  -- "Equal states give equal bytes"
  pub equal_states_give_equal_bytes : ((v : ℕ) → v < shape.count → depth_at shape v s ≤ stack_capacity) → image shape s ≡ image shape r
  equal_states_give_equal_bytes deep =
      same_parts_same_image shape s r (h.at DistributorControl tt tt) (λ k b. same_part (part_at shape k) (part_stands shape k limits b).there deep)
