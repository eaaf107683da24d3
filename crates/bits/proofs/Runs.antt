-- The records that a word of a bit register reaches stand side by side, so that one loop over places reads or writes them. Assumes nothing.
use mathlib.Core.Path.{◌≡◌, refl, sym, ◌∙◌}
use mathlib.Core.Bool.{Bool, true, false, cond, ◌&&◌}
use mathlib.Core.List.{List}
use Prim.Native.Nat.{ℕ, suc, ◌+◌, ◌*◌, ◌^◌, ◌≤◌, ◌<◌}
use native.Mathlib.Nat.{lt_of_le_of_lt}
use native.Mathlib.Omega.{arith}
use lib.Dec.{ltb}
use lib.ListN.{length, get_or}
use borrow.Author.Tests.{lt-ltb, le-ltb, ltb-true, ltb-false}
use Rattle.interrupt.specs.declared.record.InterruptRecord.{InterruptRecord}
use Rattle.register.specs.declared.ranges.BitRegister.{BitRegister}
use Rattle.word.specs.Word.{record_of}
use Rattle.state.specs.declared.layout.Shape.{Shape}
use Rattle.state.specs.Layout.{Private, Spi, size, place, Placed}
use Rattle.state.specs.Loop.{up_to}
use Rattle.state.specs.Words.{record_slot, Reached, with_record, changed}
use Rattle.state.proofs.Accessors.{record_run}
use Rattle.word.specs.Fields.{field_at, gathered}
use Rattle.bits.specs.Bits.{is_config, field_bits, per_word, read_number, read_bits, acts, act, write_number, write_bits, BitWordAt}
use Rattle.bits.specs.Run.{Existing, field_in, RunAt}
use Rattle.word.proofs.Gathered.{gathered_idle, gathered_same, gathered_fits}
use Rattle.state.proofs.Steps.{up_idle}
use Rattle.bits.proofs.BitLaws.{field_below}

word_room : (register : BitRegister) (i : ℕ) → i < per_word register → field_bits register * suc i ≤ 32
word_room register i = go (is_config register)
  where
    go : (b : Bool) → i < cond b 16 32 → cond b 2 1 * suc i ≤ 32
    go true h = omega arith
    go false h = omega arith

-- one field more fits 32 bits
pub run_fits : (register : BitRegister) (base : ℕ) (s : List ℕ) (i : ℕ) → i < per_word register
    → gathered (field_bits register) (field_in register base s) i + field_in register base s i * 2 ^ (field_bits register * i) < 2 ^ 32
unfolding gathered
run_fits register base s i h =
    gathered_fits (field_bits register) (field_in register base s) (λ j. field_below register (record_of (get_or s (base + j) 0))) (suc i) 32 (word_room register i h)

module _ (shape : Shape) (register : BitRegister) (v first there : ℕ) (s : List ℕ) (at : BitWordAt shape register v first s) (e : Existing shape.limit first (per_word register) there) where
  run_inside : place shape (record_slot v first) + there ≤ size shape
  unfolding record_slot
  run_inside = go (ltb first 32) refl
    where
      go : (b : Bool) → ltb first 32 ≡ b → place shape (cond b (Private v first) (Spi first)) + there ≤ size shape
      go true p =
          let h : first < 32 = ltb-true first 32 p in
          let a : first + per_word register ≤ 32 = at.together h in
          let b : v < shape.count = at.banked h in
          let c : there ≤ per_word register = e.few in
          omega arith
      go false p = let h : 32 ≤ first = ltb-false first 32 p in omega arith

  -- record i of the run is that of the number first + i
  beside : (i : ℕ) → i < there → place shape (record_slot v (first + i)) ≡ place shape (record_slot v first) + i
  beside i h = record_run shape v first i (λ p. let a : first + per_word register ≤ 32 = at.together p in let c : there ≤ per_word register = e.few in omega arith)

  numbered : (i : ℕ) → i < there → ltb (first + i) shape.limit ≡ true
  numbered i h = lt-ltb (first + i) shape.limit (omega arith)

  past : (i : ℕ) → there ≤ i → i < per_word register → ltb (first + i) shape.limit ≡ false
  past i a b = le-ltb (first + i) shape.limit (let h : shape.limit ≤ first + there = e.past (lt_of_le_of_lt a b) in omega arith)

  run_reads : gathered (field_bits register) (field_in register (place shape (record_slot v first)) s) there ≡ read_bits shape register v first s
  unfolding read_bits
  run_reads =
      gathered_same (field_bits register) (field_in register (place shape (record_slot v first)) s) (λ i. read_number shape register v s (first + i)) there
      (λ i h. unfold read_number in simp (numbered i h, beside i h))
      ∙ sym (gathered_idle (field_bits register) (λ i. read_number shape register v s (first + i)) (per_word register) there e.few (λ i a b. unfold read_number in simp (past i a b)))

  -- the numbers that do not exist may be left out of a write
  run_writes : (value : ℕ) → up_to (λ i. write_number shape register v (first + i) (field_at (field_bits register) i value)) there s ≡ write_bits shape register v first value s
  unfolding write_bits
  run_writes value =
      sym (up_idle (λ i. write_number shape register v (first + i) (field_at (field_bits register) i value)) s (per_word register) there e.few (λ i r a b. unfold write_number in simp (past i a b)))

-- a read and a write go over the records there are
module _ (shape : Shape) (register : BitRegister) (v first there k base : ℕ) (s : List ℕ) (word : BitWordAt shape register v first s) (p : k ≡ per_word register)
    (some : Existing shape.limit first k there) (placed : Placed shape (record_slot v first) base) where
  pub run_at : k < 33 → RunAt register base there s
  run_at small =
      let e : Existing shape.limit first (per_word register) there = rw p at some in
      let inside : base + there ≤ size shape = rw placed.at (run_inside shape register v first there s word e) in
      record { in_word = e.few; short = omega arith; inside = omega arith }

  pub run_read : (r : ℕ) → r ≡ gathered (field_bits register) (field_in register base s) there → r ≡ read_bits shape register v first s
  run_read r q = q ∙ rw placed.at (run_reads shape register v first there s word (rw p at some))

  pub next_reached : (i : ℕ) (r : List ℕ) → i < there → length r ≡ length s → Reached shape v (first + i) r
  next_reached i r h long = record {
    state = record { limits = word.state.limits; room = rw long word.state.room };
    there = record { numbered = omega arith; banked = λ b. word.banked (omega arith) };
  }

  pub next_placed : (i : ℕ) → i < there → Placed shape (record_slot v (first + i)) (base + i)
  next_placed i h =
      let e : Existing shape.limit first (per_word register) there = rw p at some in
      let inside : place shape (record_slot v first) + there ≤ size shape = run_inside shape register v first there s word e in
      record { at = rw (placed.at, beside shape register v first there s word e i h); inside = rw placed.at (omega arith) }

  pub run_written : (value i : ℕ) (r : List ℕ) → i ≤ there → there ≤ i → r ≡ up_to (λ j. write_number shape register v (first + j) (field_at (field_bits register) j value)) i s
      → r ≡ write_bits shape register v first value s
  run_written value i r a b q = let e : i ≡ there = omega arith in q ∙ rw e (run_writes shape register v first there s word (rw p at some) value)

-- one number written: its field acts, or it does not
module _ (shape : Shape) (register : BitRegister) (v n x : ℕ) (s : List ℕ) (q : Bool) where
  pub number_written : (at : ℕ) (old new : InterruptRecord) (r : List ℕ) → n < shape.limit → at ≡ place shape (record_slot v n) → q ≡ acts register n x → q ≡ true
      → old ≡ record_of (get_or s at 0) → new ≡ act register x old → r ≡ with_record shape v n new s → r ≡ write_number shape register v n x s
  unfolding write_number
  number_written at old new r h p a t d w put = put ∙ simp (lt-ltb n shape.limit h, ← a, t, w, d, p)

  pub number_kept : q ≡ acts register n x → q ≡ false → s ≡ write_number shape register v n x s
  unfolding write_number
  number_kept a f = simp (← a, f) (sym (either (ltb n shape.limit)))
    where
      either : (b : Bool) → cond (b && false) (changed shape v n (act register x) s) s ≡ s
      either true = refl
      either false = refl

-- a word from the limit up has no records
none : (limit first k : ℕ) → limit ≤ first → (i : ℕ) → 0 ≤ i → i < k → ltb (first + i) limit ≡ false
none limit first k h i a b = le-ltb (first + i) limit (omega arith)

pub none_reads : (shape : Shape) (register : BitRegister) (v first : ℕ) (s : List ℕ) → shape.limit ≤ first → read_bits shape register v first s ≡ 0
unfolding read_bits gathered
none_reads shape register v first s h =
    gathered_idle (field_bits register) (λ i. read_number shape register v s (first + i)) (per_word register) 0 (omega arith)
    (λ i a b. unfold read_number in simp (none shape.limit first (per_word register) h i a b))

pub none_writes : (shape : Shape) (register : BitRegister) (v first value : ℕ) (s : List ℕ) → shape.limit ≤ first → write_bits shape register v first value s ≡ s
unfolding write_bits up_to
none_writes shape register v first value s h =
    up_idle (λ i. write_number shape register v (first + i) (field_at (field_bits register) i value)) s (per_word register) 0 (omega arith)
    (λ i r a b. unfold write_number in simp (none shape.limit first (per_word register) h i a b))
