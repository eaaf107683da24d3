-- What a part of an image leaves where it was read to its end: words that agree on the part's slots with what it stored hold what was read of it, and
-- as we write it, whatever stood there before. Assumes nothing.
use mathlib.Core.Path.{◌≡◌, refl, sym, ap, ◌∙◌}
use mathlib.Core.Bool.{Bool, true, false, cond}
use mathlib.Core.List.{List}
use Prim.Native.Nat.{ℕ, zero, suc, ◌+◌, ◌-◌, ◌%◌, ◌≤◌, ◌<◌}
use native.Mathlib.Nat.{mod-eq_of_lt}
use native.Mathlib.Omega.{arith}
use lib.Dec.{eqb, ltb}
use borrow.Author.Tests.{ltb-true, ltb-false, eqb-false}
use Rattle.std.proofs.lemmas.Option.{none-some}
use Rattle.std.specs.Prelude.{Option, Some, None}
use Rattle.word.specs.Word.{record_of, word_of}
use Rattle.word.proofs.Cases.{last_or}
use Rattle.word.proofs.RecordWord.{decode_encode}
use Rattle.state.specs.declared.layout.Shape.{Shape}
use Rattle.state.specs.declared.layout.InterfaceValue.{InterfaceValue}
use Rattle.state.specs.declared.layout.InterfaceValue.TheVariants.{Control, PriorityMask, BinaryPoint, Depth}
use Rattle.state.specs.declared.words.Entry.{Entry}
use Rattle.state.specs.Layout.{Interface, Sources, Stack, interface_number, stack_capacity, Exists, number_of, Room}
use Rattle.state.specs.Words.{word_at, record_slot, RecordThere, record_at, with_record, sources_at, with_sources, kept, with_interface, entry_of, entry_word, entry_at, without_entry, CanonicalWord}
use Rattle.state.proofs.Accessors.{put_room, put_same, put_other, entry_same, record_exists, record_no_sources}
use Rattle.state.proofs.SlotKinds.{kinds_apart}
use Rattle.state.proofs.Steps.{slots, Agree, Local, steps_room, steps_own, steps_others}
use Rattle.service.specs.Service.{depth_at, stack_to, running_of}
use Rattle.image.specs.Parts.{Part, Registers, Service, Interrupt, PartThere}
use Rattle.load.specs.declared.reading.RecordAndSources.{RecordAndSources}
use Rattle.load.specs.declared.reading.InterfaceRegisters.{InterfaceRegisters}
use Rattle.load.specs.Reading.{then_number, number_up_to, registers_at, entry_found, record_found}
use Rattle.load.specs.Walking.{registers_end, registers_stored, Spot, spot, lost, after_entry, entry_in, entry_spot, spot_end, entry_stored, entries_stored, cleared_from, with_depth, service_end, service_stored, record_end, record_stored, part_end, part_stored}
use Rattle.moving.specs.Reads.{ServiceReads, Reads}
use Rattle.moving.proofs.StoredPlaces.{OfPart}
use Rattle.moving.proofs.StoredRanges.{number_most, registers_ranged, EntryRanged, entry_ranged, RecordRanged, record_ranged}
use Rattle.moving.proofs.StoredParts.{word_keeps, entry_keeps, sources_index}

-- the slots of a part are as we write them
pub record RegistersWritten (shape : Shape) (v : ℕ) (s : List ℕ) : Type 0 where
  pub control : CanonicalWord (Interface v Control) (word_at shape (Interface v Control) s)
  pub mask : CanonicalWord (Interface v PriorityMask) (word_at shape (Interface v PriorityMask) s)
  pub point : CanonicalWord (Interface v BinaryPoint) (word_at shape (Interface v BinaryPoint) s)

pub record ServiceWritten (shape : Shape) (v : ℕ) (s : List ℕ) : Type 0 where
  pub deep : depth_at shape v s ≤ stack_capacity
  pub entries : (i : ℕ) → i < depth_at shape v s → CanonicalWord (Stack v i) (word_at shape (Stack v i) s)
  pub cleared : (i : ℕ) → depth_at shape v s ≤ i → i < stack_capacity → word_at shape (Stack v i) s ≡ 0

pub record RecordWritten (shape : Shape) (v n : ℕ) (s : List ℕ) : Type 0 where
  pub word : word_of (record_at shape v n s) ≡ word_at shape (record_slot v n) s
  pub sources : n < 16 → CanonicalWord (Sources v n) (word_at shape (Sources v n) s)

abbrev pub PartWritten : Shape → Part → List ℕ → Type 0
PartWritten shape (Registers v) s = RegistersWritten shape v.0 s
PartWritten shape (Service v) s = ServiceWritten shape v.0 s
PartWritten shape (Interrupt v n) s = RecordWritten shape v.0 n.0 s

pub record PartLeft (shape : Shape) (image : List ℕ) (p : Part) (at next : ℕ) (s : List ℕ) : Type 0 where
  pub reads : Reads shape image p at next s
  pub written : PartWritten shape p s

-- two values of one interface
values_apart : (v : ℕ) (k j : InterfaceValue) → eqb (interface_number k) (interface_number j) ≡ false → Interface v k ≡ Interface v j → ⊥
values_apart v k j apart p = eqb-false (interface_number k) (interface_number j) apart (ap number_of p)

module _ (shape : Shape) (image : List ℕ) (at next : ℕ) (s r : List ℕ) (h : Room shape s) where
  -- a vCPU's registers
  registers_left : (v : ℕ) (f : Option (InterfaceRegisters × ℕ)) → v < shape.count → registers_at image at ≡ f → registers_end f ≡ Some next
      → Agree shape (OfPart shape (Registers (record { 0 = v }))) r (registers_stored shape v f s) → PartLeft shape image (Registers (record { 0 = v })) at next r
  registers_left v None b e ends a = absurd (none-some _ ends)
  registers_left v (Some (f, k)) b e ends a =
      let c = f.control in
      let m = f.mask in
      let p = f.point in
      let ranged = registers_ranged image at c m p k e in
      let same : k ≡ next = cc in
      let one = with_interface shape v Control c s in
      let two = with_interface shape v PriorityMask m one in
      let h1 : Room shape one = put_room shape s (Interface v Control) (kept Control c) h in
      let h2 : Room shape two = put_room shape one (Interface v PriorityMask) (kept PriorityMask m) h1 in
      let wc : word_at shape (Interface v Control) r ≡ c =
      a.agree (Interface v Control) b refl
      ∙ put_other shape two (Interface v Control) (Interface v BinaryPoint) (kept BinaryPoint p) b b (values_apart v Control BinaryPoint refl)
      ∙ put_other shape one (Interface v Control) (Interface v PriorityMask) (kept PriorityMask m) b b (values_apart v Control PriorityMask refl)
      ∙ put_same shape s (Interface v Control) (kept Control c) h b ∙ ranged.control_kept in
      let wm : word_at shape (Interface v PriorityMask) r ≡ m =
      a.agree (Interface v PriorityMask) b refl
      ∙ put_other shape two (Interface v PriorityMask) (Interface v BinaryPoint) (kept BinaryPoint p) b b (values_apart v PriorityMask BinaryPoint refl)
      ∙ put_same shape one (Interface v PriorityMask) (kept PriorityMask m) h1 b ∙ ranged.mask_kept in
      let wp : word_at shape (Interface v BinaryPoint) r ≡ p =
      a.agree (Interface v BinaryPoint) b refl ∙ put_same shape two (Interface v BinaryPoint) (kept BinaryPoint p) h2 b ∙ ranged.point_kept in
      record {
        reads = rw (wc, wm, wp, ranged.control_kept, ranged.mask_kept, ranged.point_kept) (rw same at e);
        written = record { control = rw wc ranged.control_kept; mask = rw wm ranged.mask_kept; point = rw wp ranged.point_kept };
      }

  -- a record, and the source set of an SGI
  record_left : (v n : ℕ) (f : Option (RecordAndSources × ℕ)) → RecordThere shape v n → record_found shape v n image at ≡ f → record_end f ≡ Some next
      → Agree shape (OfPart shape (Interrupt (record { 0 = v }) (record { 0 = n }))) r (record_stored shape v n f s)
      → PartLeft shape image (Interrupt (record { 0 = v }) (record { 0 = n })) at next r
  record_left v n None there e ends = λ a. absurd (none-some _ ends)
  record_left v n (Some (it, k)) there e ends = go (ltb n 16) refl
    where
      here : Exists shape (record_slot v n)
      here = record_exists shape v n there

      ranged : RecordRanged n it.«record» it.sources
      ranged = record_ranged shape v n image at it.«record» it.sources k h.limits there e

      stored : List ℕ
      stored = with_record shape v n it.«record» s

      with_record_lem : word_at shape (record_slot v n) r ≡ word_of it.«record» → cond (ltb n 16) (sources_at shape v n r) 0 ≡ it.sources
          → (n < 16 → CanonicalWord (Sources v n) (word_at shape (Sources v n) r)) → PartLeft shape image (Interrupt (record { 0 = v }) (record { 0 = n })) at next r
      with_record_lem word set canonical =
          let same : k ≡ next = cc in
          let back : record_at shape v n r ≡ it.«record» = ap record_of word ∙ decode_encode it.«record» ranged.in_range in
          record { reads = rw (back, set) (rw same at e); written = record { word = ap word_of back ∙ sym word; sources = canonical } }

      go : (b : Bool) → ltb n 16 ≡ b → Agree shape (OfPart shape (Interrupt (record { 0 = v }) (record { 0 = n }))) r (cond b (with_sources shape v n it.sources stored) stored)
          → PartLeft shape image (Interrupt (record { 0 = v }) (record { 0 = n })) at next r
      go true p a =
          let sgi : n < 16 = ltb-true n 16 p in
          let there' : Exists shape (Sources v n) = (there.banked (omega arith), sgi) in
          let set : word_at shape (Sources v n) r ≡ it.sources =
          a.agree (Sources v n) there' (sources_index shape v n sgi) ∙ put_same shape stored (Sources v n) it.sources (put_room shape s (record_slot v n) (word_of it.«record») h) there' in
          let small : it.sources % 256 ≡ it.sources = mod-eq_of_lt ranged.small in
          with_record_lem
          (a.agree (record_slot v n) here refl
          ∙ put_other shape stored (record_slot v n) (Sources v n) it.sources here there' (record_no_sources v n v n) ∙ put_same shape s (record_slot v n) (word_of it.«record») h here)
          (rw (p, set) small) (λ _. rw set small)
      go false p a =
          with_record_lem (a.agree (record_slot v n) here refl ∙ put_same shape s (record_slot v n) (word_of it.«record») h here)
          (rw p (sym (ranged.none (ltb-false n 16 p)))) (λ sgi. absurd (let high : 16 ≤ n = ltb-false n 16 p in omega arith))

-- a stack: the entries, one after another
abbrev place_of : Spot → ℕ
place_of lost = 0
place_of (spot at above) = at

abbrev above_of : Spot → ℕ
above_of lost = 0
above_of (spot at above) = above

abbrev Kept : Spot → Type 0
Kept lost = ⊥
Kept (spot at above) = Unit

module _ (shape : Shape) (image : List ℕ) where
  -- the entry between two spots
  record EntryRead (x y : Spot) : Type 0 where
    pub this : Entry
    pub found : entry_found shape (above_of x) image (place_of x) ≡ Some (this, place_of y)
    pub taken : entry_in shape image x ≡ Some (this, place_of y)
    pub above : above_of y ≡ this.priority.0

  entry_read : (x : Spot) → Kept (after_entry (entry_in shape image x)) → EntryRead x (after_entry (entry_in shape image x))
  entry_read lost k = absurd k
  entry_read (spot at above) k = go (entry_found shape above image at) refl k
    where
      go : (f : Option (Entry × ℕ)) → entry_found shape above image at ≡ f → Kept (after_entry f) → EntryRead (spot at above) (after_entry f)
      go None e kept = absurd kept
      go (Some (x, next)) e kept = record { this = x; found = e; taken = e; above = refl }

  spot_before : (x : Spot) → Kept (after_entry (entry_in shape image x)) → Kept x
  spot_before lost k = k
  spot_before (spot at above) k = tt

  spots_kept : (start d i : ℕ) → Kept (entry_spot shape image start d) → i ≤ d → Kept (entry_spot shape image start i)
  unfolding entry_spot
  spots_kept start zero i k b = let e : i ≡ 0 = omega arith in rw e k
  spots_kept start (suc d) i k b = last_or i (suc d) (omega arith) (λ e. rw e k) (λ c. spots_kept start d i (spot_before (entry_spot shape image start d) k) (omega arith))

  entries_read : (start d i : ℕ) → Kept (entry_spot shape image start d) → i < d → EntryRead (entry_spot shape image start i) (entry_spot shape image start (suc i))
  unfolding entry_spot
  entries_read start d i k b = entry_read (entry_spot shape image start i) (spots_kept start d (suc i) k b)

module _ (shape : Shape) (image : List ℕ) (v d first : ℕ) (s : List ℕ) (h : Room shape s) (b : v < shape.count) (most : d ≤ stack_capacity) where
  abbrev deepened : List ℕ
  deepened = with_interface shape v Depth d s

  deepened_room : Room shape deepened
  deepened_room = put_room shape s (Interface v Depth) d h

  clears : (i : ℕ) → i < stack_capacity - d → Local shape (λ t. t ≡ Stack v (d + i)) (without_entry shape v (d + i))
  clears i c = (word_keeps shape _ (Stack v (d + i)) 0 (b, omega arith) refl).local

  abbrev emptied : List ℕ
  emptied = with_depth shape v d s

  emptied_room : Room shape emptied
  unfolding cleared_from
  emptied_room = steps_room (slots shape) (λ i t. t ≡ Stack v (d + i)) (λ i. without_entry shape v (d + i)) (stack_capacity - d) deepened clears deepened_room

  emptied_depth : word_at shape (Interface v Depth) emptied ≡ d
  unfolding cleared_from
  emptied_depth =
      steps_others (slots shape) (λ i t. t ≡ Stack v (d + i)) (λ i. without_entry shape v (d + i)) (stack_capacity - d) deepened clears deepened_room
      (Interface v Depth) b (λ i c p. kinds_apart (Interface v Depth) (Stack v (d + i)) refl p)
      ∙ put_same shape s (Interface v Depth) d h b

  emptied_entry : (i : ℕ) → d ≤ i → i < stack_capacity → word_at shape (Stack v i) emptied ≡ 0
  unfolding cleared_from
  emptied_entry i deep c =
      let same : d + (i - d) ≡ i = omega arith in
      rw same at ((steps_own (slots shape) (λ j t. t ≡ Stack v (d + j)) (λ j. without_entry shape v (d + j)) (λ j k t p q. let x : d + j ≡ d + k = cc in omega arith)
      (stack_capacity - d) deepened clears deepened_room (i - d) (omega arith)).agree (Stack v (d + (i - d))) (b, omega arith) refl
      ∙ put_same shape deepened (Stack v (d + (i - d))) 0 deepened_room (b, omega arith))

  abbrev stores : ℕ → List ℕ → List ℕ
  stores i = entry_stored shape v i (entry_in shape image (entry_spot shape image first i))

  stores_local : (i : ℕ) → i < d → Local shape (λ t. t ≡ Stack v i) (stores i)
  stores_local i c = (entry_keeps shape _ v i (entry_in shape image (entry_spot shape image first i)) (b, omega arith) refl).local

  abbrev filled : List ℕ
  filled = entries_stored shape image v first d emptied

  filled_depth : word_at shape (Interface v Depth) filled ≡ d
  unfolding entries_stored
  filled_depth =
      steps_others (slots shape) (λ i t. t ≡ Stack v i) stores d emptied stores_local emptied_room
      (Interface v Depth) b (λ i c p. kinds_apart (Interface v Depth) (Stack v i) refl p) ∙ emptied_depth

  filled_past : (i : ℕ) → d ≤ i → i < stack_capacity → word_at shape (Stack v i) filled ≡ 0
  unfolding entries_stored
  filled_past i deep c =
      steps_others (slots shape) (λ j t. t ≡ Stack v j) stores d emptied stores_local emptied_room (Stack v i) (b, c) (λ j k p. let x : i ≡ j = cc in omega arith)
      ∙ emptied_entry i deep c

  filled_entry : (i : ℕ) (e : Entry) (next : ℕ) → i < d → entry_in shape image (entry_spot shape image first i) ≡ Some (e, next)
      → word_at shape (Stack v i) filled ≡ entry_word e
  unfolding entries_stored
  filled_entry i e next c found =
      (steps_own (slots shape) (λ j t. t ≡ Stack v j) stores (λ j k t p q. cc) d emptied stores_local emptied_room i c).agree (Stack v i) (b, omega arith) refl
      ∙ ap (λ (f : Option (Entry × ℕ)). word_at shape (Stack v i) (entry_stored shape v i f emptied)) found
      ∙ put_same shape emptied (Stack v i) (entry_word e) emptied_room (b, omega arith)

spot_kept : (x : Spot) (next : ℕ) → spot_end x ≡ Some next → Kept x
spot_kept lost next e = absurd (none-some _ e)
spot_kept (spot at above) next e = tt

spot_place : (x : Spot) (next : ℕ) → spot_end x ≡ Some next → place_of x ≡ next
spot_place lost next e = absurd (none-some _ e)
spot_place (spot at above) next e = cc

module _ (shape : Shape) (image : List ℕ) (v at next d first : ℕ) (s r : List ℕ) (h : Room shape s) (b : v < shape.count)
    (found : number_up_to stack_capacity image at ≡ Some (d, first)) (ends : spot_end (entry_spot shape image first d) ≡ Some next)
    (a : Agree shape (OfPart shape (Service (record { 0 = v }))) r (entries_stored shape image v first d (with_depth shape v d s))) where
  most : d ≤ stack_capacity
  most = number_most stack_capacity image at d first found

  read : (i : ℕ) → i < d → EntryRead shape image (entry_spot shape image first i) (entry_spot shape image first (suc i))
  read i c = entries_read shape image first d i (spot_kept (entry_spot shape image first d) next ends) c

  depth_left : depth_at shape v r ≡ d
  depth_left = a.agree (Interface v Depth) b refl ∙ filled_depth shape image v d first s h b most

  word_left : (i : ℕ) (c : i < d) → word_at shape (Stack v i) r ≡ entry_word (read i c).this
  word_left i c = a.agree (Stack v i) (b, omega (arith, most)) refl ∙ filled_entry shape image v d first s h b most i (read i c).this _ c (read i c).taken

  ranged_left : (i : ℕ) (c : i < d) → EntryRanged shape (read i c).this
  ranged_left i c = entry_ranged shape _ image _ (read i c).this _ (read i c).found

  entry_left : (i : ℕ) (c : i < d) → entry_at shape v i r ≡ (read i c).this
  entry_left i c =
      let there : Exists shape (Stack v i) = (b, omega (arith, most)) in
      let ranged = ranged_left i c in
      ap entry_of (word_left i c ∙ sym (put_same shape s (Stack v i) (entry_word (read i c).this) h there))
      ∙ entry_same shape s v i (read i c).this h there (omega (arith, h.limits.few_numbers)) ranged.byte

  running_left : (i : ℕ) → i ≤ d → running_of (stack_to shape v r i) ≡ above_of (entry_spot shape image first i)
  unfolding stack_to entry_spot
  running_left zero c = refl
  running_left (suc i) c = ap (λ (e : Entry). e.priority.0) (entry_left i c) ∙ sym (read i c).above

  service_reads : ServiceReads shape image v at next r
  unfolding entry_spot
  service_reads = record {
    places = λ i. place_of (entry_spot shape image first i);
    depth = rw depth_left found;
    entries = λ i c. let low : i < d = rw depth_left at c in rw (running_left i (omega arith), entry_left i low) (read i low).found;
    ends = rw depth_left (spot_place (entry_spot shape image first d) next ends);
  }

  service_written : ServiceWritten shape v r
  service_written = record {
    deep = rw depth_left most;
    entries = λ i c. let low : i < d = rw depth_left at c in let ranged = ranged_left i low in rw (word_left i low) (omega arith);
    cleared = λ i deep c.
        a.agree (Stack v i) (b, c) refl ∙ filled_past shape image v d first s h b most i (rw depth_left at deep) c;
  }

module _ (shape : Shape) (image : List ℕ) (at next : ℕ) (s r : List ℕ) (h : Room shape s) where
  service_left : (v : ℕ) (f : Option (ℕ × ℕ)) → v < shape.count → number_up_to stack_capacity image at ≡ f
      → then_number None f (λ d first. spot_end (entry_spot shape image first d)) ≡ Some next
      → Agree shape (OfPart shape (Service (record { 0 = v }))) r (then_number s f (λ d first. entries_stored shape image v first d (with_depth shape v d s)))
      → PartLeft shape image (Service (record { 0 = v })) at next r
  service_left v None b e ends a = absurd (none-some _ ends)
  service_left v (Some (d, first)) b e ends a = record {
    reads = service_reads shape image v at next d first s r h b e ends a;
    written = service_written shape image v at next d first s r h b e ends a;
  }

  pub part_left : (p : Part) → PartThere shape p → part_end shape image p at ≡ Some next → Agree shape (OfPart shape p) r (part_stored shape image p at s)
      → PartLeft shape image p at next r
  unfolding service_end service_stored
  part_left (Registers v) there ends a = registers_left shape image at next s r h v.0 (registers_at image at) there refl ends a
  part_left (Service v) there ends a = service_left v.0 (number_up_to stack_capacity image at) there refl ends a
  part_left (Interrupt v n) there ends a = record_left shape image at next s r h v.0 n.0 (record_found shape v.0 n.0 image at) there refl ends a
