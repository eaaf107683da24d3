-- How long the image of a lawful state can be: at most `image_bytes`. Assumes nothing.
use Rattle.std.specs.Prelude.{Option, Some, None}
use mathlib.Core.Bool.{Bool, true, false, not}
use mathlib.Core.List.{List, [], ◌∷◌}
use mathlib.Core.Path.{◌≡◌, refl, ap, ◌∙◌}
use Prim.Native.Nat.{ℕ, zero, suc, ◌+◌, ◌-◌, ◌*◌, ◌^◌, ◌≤◌, ◌<◌}
use native.Mathlib.Omega.{arith}
use lib.ListN.{length, length-append}
use borrow.Author.Tests.{lt-ltb, le-ltb}
use Rattle.groups.specs.Groups.{spelled}
use Rattle.groups.proofs.Numbers.{groups_one, groups_few, spelled_append}
use Rattle.interrupt.specs.Types.{is_level}
use Rattle.interrupt.specs.declared.record.InterruptRecord.{InterruptRecord}
use Rattle.word.specs.Word.{mask_byte, InRange}
use Rattle.word.proofs.RecordWord.{bit_fits, decoded_in_range}
use Rattle.state.specs.declared.layout.Shape.{Shape}
use Rattle.state.specs.Words.{record_at, entry_at, RecordThere, distributor_control_at}
use Rattle.service.specs.Service.{depth_at}
use Rattle.lawful.specs.Lawful.{Lawful, Charged}
use Rattle.image.specs.Image.{each, flags_number, owner_number, mask_number, interface_numbers, entry_numbers, service_numbers, record_numbers, private_numbers_at, spi_numbers_at, body_numbers, numbers}
use Rattle.image.proofs.ByParts.{each_plus}
use Rattle.save.specs.Save.{image_bytes}
use Rattle.save.proofs.Pieces.{bytes_append}
use Rattle.interrupt.specs.declared.types.GicVcpuId.{GicVcpuId}

-- how many bytes some numbers are
abbrev pub bytes_of : List ℕ → ℕ
bytes_of ns = length (spelled ns)

one_more : (n : ℕ) (ns : List ℕ) (b : ℕ) → n < 128 → bytes_of ns ≤ b → bytes_of (n ∷ ns) ≤ 1 + b
unfolding spelled
one_more n ns b small rest = let one = groups_one n small in rw length-append (omega arith)

two_more : (n : ℕ) (ns : List ℕ) (b : ℕ) → n < 16384 → bytes_of ns ≤ b → bytes_of (n ∷ ns) ≤ 2 + b
unfolding spelled
two_more n ns b small rest = let two = groups_few n small in rw length-append (omega arith)

none : bytes_of [] ≤ 0
unfolding spelled
none = omega arith

each_most : (f : ℕ → List ℕ) (n b : ℕ) → ((i : ℕ) → i < n → bytes_of (f i) ≤ b) → bytes_of (each f n) ≤ b * n
unfolding each spelled
each_most f zero b most = omega arith
each_most f (suc n) b most =
    let before = each_most f n b (λ i h. most i (omega arith)) in
    let last = most n (omega arith) in
    let sum = bytes_append (each f n) (f n) in
    omega arith

flags_small : (r : InterruptRecord) → flags_number r < 128
unfolding flags_number
flags_small r =
    let a = bit_fits r.enabled in
    let b = bit_fits r.pending in
    let c = bit_fits r.active in
    let d = bit_fits r.inflight in
    let e = bit_fits r.redelivery_pending in
    let f = bit_fits r.line_asserted in
    let g = bit_fits (not (is_level r.trigger)) in
    omega arith

record_most : (r : InterruptRecord) (ns : List ℕ) (b : ℕ) → InRange r → bytes_of ns ≤ b → bytes_of (record_numbers r ns) ≤ 3 + b
record_most r ns b h rest =
    let priority = h.priority_byte in
    let all = one_more (flags_number r) (r.priority.0 ∷ ns) (2 + b) (flags_small r) (two_more r.priority.0 ns b (omega arith) rest) in
    omega arith

mask_small : (m : Option ℕ) → mask_byte m < 2 ^ 8 → mask_number m < 16384
mask_small None h = omega arith
mask_small (Some byte) h = omega arith

module _ (shape : Shape) (s : List ℕ) (h : Lawful shape s) where
  interface_most : (v : ℕ) → bytes_of (interface_numbers shape s v) ≤ 5
  interface_most v = two_more _ _ 3 (omega arith) (two_more _ _ 1 (omega arith) (one_more _ _ 0 (omega arith) none))

  service_most : (v : ℕ) → v < shape.count → bytes_of (service_numbers shape s v) ≤ 514
  service_most v b =
      let deep = h.in_range.depths v b in
      let entries = each_most (λ i. entry_numbers (entry_at shape v i s)) (depth_at shape v s) 4 (λ i _. two_more _ _ 2 (omega arith) (two_more _ _ 0 (omega arith) none)) in
      two_more _ _ 512 (omega arith) (omega arith)

  private_most : (v : ℕ) → bytes_of (each (private_numbers_at shape s v) 32) ≤ 128
  private_most v =
      let sgis = each_most (private_numbers_at shape s v) 16 5 sgi in
      let ppis = each_most (λ i. private_numbers_at shape s v (16 + i)) 16 3 ppi in
      let sum = ap bytes_of (each_plus (private_numbers_at shape s v) 16 16) ∙ bytes_append (each (private_numbers_at shape s v) 16) (each (λ i. private_numbers_at shape s v (16 + i)) 16) in
      omega arith
    where
      sgi : (i : ℕ) → i < 16 → bytes_of (private_numbers_at shape s v i) ≤ 5
      sgi i b = rw (lt-ltb i 16 b) (record_most _ _ 2 (decoded_in_range _) (two_more _ _ 0 (omega arith) none))

      ppi : (i : ℕ) → i < 16 → bytes_of (private_numbers_at shape s v (16 + i)) ≤ 3
      ppi i b = rw (le-ltb (16 + i) 16 (omega arith)) (record_most _ _ 0 (decoded_in_range _) none)

  owner_small : (v n : ℕ) → RecordThere shape v n → owner_number (record_at shape v n s).owner < 128
  owner_small v n there = go (record_at shape v n s).inflight refl
    where
      charged : (o : Option GicVcpuId) → Charged shape o → owner_number o < 128
      charged None c = absurd c
      charged (Some u) c = let few = h.in_range.state.limits.few_vcpus in omega arith

      go : (b : Bool) → (record_at shape v n s).inflight ≡ b → owner_number (record_at shape v n s).owner < 128
      go true e = charged (record_at shape v n s).owner ((h.orderly.records v n there).charged e)
      go false e = rw ((h.records v n there).idle e) (omega arith)

  spi_most : (i : ℕ) → i < shape.limit - 32 → bytes_of (spi_numbers_at shape s i) ≤ 6
  spi_most i b =
      let there : RecordThere shape 0 (32 + i) = record { numbered = omega arith; banked = λ low. absurd (omega arith) } in
      let r = record_at shape 0 (32 + i) s in
      record_most r _ 3 (decoded_in_range _) (one_more _ _ 2 (owner_small 0 (32 + i) there) (two_more _ _ 0 (mask_small r.cpu_target_mask (decoded_in_range _).mask_byte_lem) none))

  body_most : bytes_of (body_numbers shape s) ≤ 647 * shape.count + 6 * (shape.limit - 32)
  unfolding body_numbers
  body_most =
      let interfaces = each_most (interface_numbers shape s) shape.count 5 (λ v _. interface_most v) in
      let services = each_most (service_numbers shape s) shape.count 514 service_most in
      let privates = each_most (λ v. each (private_numbers_at shape s v) 32) shape.count 128 (λ v _. private_most v) in
      let spis = each_most (spi_numbers_at shape s) (shape.limit - 32) 6 spi_most in
      simp spelled_append (simp length-append (omega arith))

  pub image_fits : bytes_of (numbers shape s) ≤ image_bytes shape
  image_fits =
      let all = one_more shape.count _ _ (omega arith) (two_more shape.limit _ _ (omega arith) (one_more (distributor_control_at shape s) _ _ (omega arith) body_most)) in
      omega arith
