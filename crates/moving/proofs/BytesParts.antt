-- A part of an image and what some words hold there: a lawful part's bytes are read as it, what is read is lawful and its bytes stand there,
-- and its end and its meaning are read off them alone. Assumes nothing.
use mathlib.Core.Path.{◌≡◌, refl, sym, ap, ◌∙◌}
use mathlib.Core.Bool.{Bool, true, false, cond, ◌&&◌}
use mathlib.Core.List.{List, ◌++◌}
use Prim.Native.Nat.{ℕ, ◌+◌, ◌≤◌, ◌<◌}
use native.Mathlib.Omega.{arith}
use lib.Dec.{ltb}
use lib.ListN.{length, drop}
use borrow.Author.Tests.{ltb-true, lt-ltb}
use Rattle.groups.specs.Groups.{spelled}
use Rattle.interrupt.specs.declared.record.InterruptRecord.{InterruptRecord}
use Rattle.word.specs.Word.{InRange}
use Rattle.word.proofs.RecordWord.{decoded_in_range}
use Rattle.state.specs.declared.layout.Shape.{Shape}
use Rattle.state.specs.declared.layout.InterfaceValue.TheVariants.{Control, PriorityMask, BinaryPoint}
use Rattle.state.specs.Layout.{Limits}
use Rattle.state.specs.Words.{RecordThere, word_at, record_slot, record_at, sources_at, interface_at}
use Rattle.state.proofs.Tests.{left_true}
use Rattle.lawful.specs.Lawful.{Charged}
use Rattle.lawful_test.specs.LawfulTest.{implied, record_lawful, sources_lawful, number_lawful}
use Rattle.lawful_test.proofs.Passing.{Passed, passes_record}
use Rattle.image.specs.Parts.{Part, Registers, Service, Interrupt, interrupt_numbers, part_numbers, PartThere}
use Rattle.image.specs.Image.{owner_number, record_numbers}
use Rattle.std.proofs.lemmas.Option.{some_pair_parts}
use Rattle.std.specs.Prelude.{Some, Option, None}
use Rattle.load.specs.declared.reading.RecordAndSources.{RecordAndSources}
use Rattle.load.specs.declared.reading.InterfaceRegisters.{InterfaceRegisters}
use Rattle.load.specs.Reading.{own_owner, lawful_number, registers_from, record_and_sources}
use Rattle.load.specs.Walking.{part_end}
use Rattle.moving.specs.Reads.{Reads, LawfulPart, Spells, SamePart}
use Rattle.moving.proofs.BytesNumbers.{Row, row_here}
use Rattle.moving.proofs.BytesRegisters.{registers_read, registers_exact}
use Rattle.moving.proofs.BytesService.{service_read, service_deep, service_lawful, service_row, service_end_lem, service_same}
use Rattle.moving.proofs.BytesRecord.{rest_numbers, Fits, record_read, record_exact}
use Rattle.interrupt.specs.declared.types.GicVcpuId.{GicVcpuId}

-- the numbers of a record, by what follows flags and priority; only an SGI's sources count
numbers_by_kind : (n : ℕ) (r : InterruptRecord) (x y : ℕ) → (n < 16 → x ≡ y) → interrupt_numbers n r x ≡ record_numbers r (rest_numbers n r.owner r.cpu_target_mask y)
numbers_by_kind n r x y same = go (ltb n 16) (ltb n 32) refl refl
  where
    go : (b c : Bool) → ltb n 16 ≡ b → ltb n 32 ≡ c → interrupt_numbers n r x ≡ record_numbers r (rest_numbers n r.owner r.cpu_target_mask y)
    go true c p q = let sgi = ltb-true n 16 p in simp (p, lt-ltb n 32 (omega arith)) (cc (same sgi))
    go false true p q = simp (p, q)
    go false false p q = simp (p, q)

-- a record in flight is charged to one of at most 8, any other to nobody
few_owners : (shape : Shape) (o : Option GicVcpuId) → Charged shape o → shape.count ≤ 8 → owner_number o ≤ 8
few_owners shape None h few = absurd h
few_owners shape (Some u) h few = omega arith

module _ (shape : Shape) (v n : ℕ) (r : InterruptRecord) (few : shape.count ≤ 8) (range : InRange r) (h : Passed shape v n r) where
  passed_own : n < 32 → r.owner ≡ own_owner v r.inflight
  passed_own low = go r.inflight refl
    where
      go : (b : Bool) → r.inflight ≡ b → r.owner ≡ own_owner v b
      go true e = h.lawful.own low e
      go false e = h.lawful.idle e

  passed_few : owner_number r.owner ≤ 8
  passed_few = go r.inflight refl
    where
      go : (b : Bool) → r.inflight ≡ b → owner_number r.owner ≤ 8
      go true e = few_owners shape r.owner (h.orderly.charged e) few
      go false e = rw (h.lawful.idle e) (omega arith)

  passed_fits : Fits v n r.inflight r.owner r.cpu_target_mask
  passed_fits = record { own = passed_own; unmasked = h.lawful.unmasked; few = passed_few; byte = range.mask_byte_lem }

-- the sources that a reading gives: an SGI's, or none
abbrev read_sources : Shape → ℕ → ℕ → List ℕ → ℕ
read_sources shape v n s = cond (ltb n 16) (sources_at shape v n s) 0

number_alike : (shape : Shape) (v n : ℕ) (s : List ℕ) → lawful_number shape v n (record_at shape v n s) (read_sources shape v n s) ≡ number_lawful shape v s n
unfolding number_lawful
number_alike shape v n s = ap (λ (b : Bool). record_lawful shape v n (record_at shape v n s) && b) (go (ltb n 16) (sources_at shape v n s) (record_at shape v n s).pending)
  where
    go : (b : Bool) (x : ℕ) (pending : Bool) → implied b (sources_lawful (cond b x 0) pending) ≡ implied b (sources_lawful x pending)
    go true x pending = refl
    go false x pending = refl

module _ (shape : Shape) (s : List ℕ) (limits : Limits shape) where
  number_reads : (v n : ℕ) → RecordThere shape v n → number_lawful shape v s n ≡ true → (image : List ℕ) (at next : ℕ)
      → Row image at next (interrupt_numbers n (record_at shape v n s) (sources_at shape v n s)) → Reads shape image (Interrupt (record { 0 = v }) (record { 0 = n })) at next s
  number_reads v n there lawful image at next row =
      let r = record_at shape v n s in
      let x = sources_at shape v n s in
      let range = decoded_in_range (word_at shape (record_slot v n) s) in
      let alike = number_alike shape v n s ∙ lawful in
      let passed = passes_record shape v n r there.banked (left_true (record_lawful shape v n r) _ alike) in
      record_read shape v n image at r x next (omega (arith, range.priority_byte)) (passed_fits shape v n r limits.few_vcpus range passed) (omega arith) alike
      (rw (numbers_by_kind n r x x (λ h. refl)) at row)

  -- the bytes of a lawful part are read as it
  pub row_reads : (p : Part) → PartThere shape p → LawfulPart shape s p → (image : List ℕ) (at next : ℕ) → Row image at next (part_numbers shape s p) → Reads shape image p at next s
  row_reads (Registers v) there lawful image at next row =
      registers_read image at next (interface_at shape v.0 Control s) (interface_at shape v.0 PriorityMask s) (interface_at shape v.0 BinaryPoint s) (omega arith) (omega arith) (omega arith) row
  row_reads (Service v) there lawful image at next row = service_read shape v.0 s image at next lawful.0 lawful.1 row
  row_reads (Interrupt v n) there lawful image at next row = number_reads v.0 n.0 there lawful image at next row

  pub part_reads : (p : Part) → PartThere shape p → LawfulPart shape s p → (image : List ℕ) (at : ℕ) (rest : List ℕ) → drop at image ≡ spelled (part_numbers shape s p) ++ rest
      → Reads shape image p at (at + length (spelled (part_numbers shape s p))) s
  part_reads p there lawful image at rest e = row_reads p there lawful image at (at + length (spelled (part_numbers shape s p))) (row_here image at (part_numbers shape s p) rest e)

module _ (shape : Shape) (s : List ℕ) where
  -- what is read is lawful, and its bytes stand there
  pub reads_lawful : (p : Part) (image : List ℕ) (at next : ℕ) → Reads shape image p at next s → LawfulPart shape s p
  reads_lawful (Registers v) image at next h = tt
  reads_lawful (Service v) image at next h = (service_deep shape v.0 s image at next h, service_lawful shape v.0 s image at next h)
  reads_lawful (Interrupt v n) image at next h = sym (number_alike shape v.0 n.0 s) ∙ (record_exact shape v.0 n.0 image at h).0

  pub reads_row : (p : Part) (image : List ℕ) (at next : ℕ) → Reads shape image p at next s → Row image at next (part_numbers shape s p)
  reads_row (Registers v) image at next h = registers_exact image at h
  reads_row (Service v) image at next h = service_row shape v.0 s image at next h
  reads_row (Interrupt v n) image at next h =
      rw (numbers_by_kind n.0 (record_at shape v.0 n.0 s) (sources_at shape v.0 n.0 s) (read_sources shape v.0 n.0 s) (λ sgi. simp (lt-ltb n.0 16 sgi)))
      (record_exact shape v.0 n.0 image at h).1

  pub part_exact : (p : Part) (image : List ℕ) (at next : ℕ) → Reads shape image p at next s → (LawfulPart shape s p) × (Spells shape image p at next s)
  part_exact p image at next h = let row = reads_row p image at next h in (reads_lawful p image at next h, record { bytes = row.bytes; past = row.past })

  -- where it ends is read off the bytes
  pub reads_end : (p : Part) (image : List ℕ) (at next : ℕ) → Reads shape image p at next s → part_end shape image p at ≡ Some next
  reads_end (Registers v) image at next h = rw h
  reads_end (Service v) image at next h = service_end_lem shape v.0 s image at next h
  reads_end (Interrupt v n) image at next h = rw h

registers_parts : {a b c d a' b' c' d' : ℕ} → ◌≡◌ {A = Option (InterfaceRegisters × ℕ)} (Some (registers_from a b c, d)) (Some (registers_from a' b' c', d')) → (a ≡ a') × (b ≡ b') × (c ≡ c')
registers_parts e =
    let same = (some_pair_parts _ _ _ _ e).0 in
    (ap (λ (r : InterfaceRegisters). r.control) same, ap (λ (r : InterfaceRegisters). r.mask) same, ap (λ (r : InterfaceRegisters). r.point) same)

record_parts : {a a' : InterruptRecord} {x y d d' : ℕ} → ◌≡◌ {A = Option (RecordAndSources × ℕ)} (Some (record_and_sources a x, d)) (Some (record_and_sources a' y, d')) → (a ≡ a') × (x ≡ y)
record_parts e =
    let same = (some_pair_parts _ _ _ _ e).0 in
    (ap (λ (it : RecordAndSources). it.«record») same, ap (λ (it : RecordAndSources). it.sources) same)

-- one place is read as one meaning
pub reads_same : (shape : Shape) (s r : List ℕ) (p : Part) (image : List ℕ) (at next next' : ℕ) → Reads shape image p at next s → Reads shape image p at next' r → SamePart shape p s r
reads_same shape s r (Registers v) image at next next' a b = registers_parts (sym a ∙ b)
reads_same shape s r (Service v) image at next next' a b = service_same a b
reads_same shape s r (Interrupt v n) image at next next' a b =
    let e = record_parts (sym a ∙ b) in
    (e.0, λ sgi. simp (lt-ltb n.0 16 sgi) at e.1)
