-- What an acknowledge leaves: the old stack with the new entry on it, the record given, of an SGI the sources but the one taken, and every
-- other slot as it was. Assumes nothing.
use mathlib.Core.Path.{◌≡◌, refl, sym, ap, ◌∙◌}
use mathlib.Core.Bool.{Bool, true, false, cond}
use mathlib.Core.List.{List, ◌∷◌}
use Prim.Native.Nat.{ℕ, ◌+◌, ◌-◌, ◌%◌, ◌^◌, ◌≤◌, ◌<◌}
use native.Mathlib.Nat.{lt_of_le_of_lt}
use native.Mathlib.Omega.{arith}
use lib.Bits.{and_le_l}
use lib.Dec.{eqb, ltb}
use borrow.Author.Tests.{lt-ltb, le-ltb, ltb-true}
use Rattle.interrupt.specs.Record.{mark_inflight, set_owner, set_state, synchronize_inflight, set_pending}
use Rattle.interrupt.specs.Types.{every_vcpu}
use Rattle.interrupt.specs.declared.record.InterruptRecord.{InterruptRecord}
use Rattle.word.specs.Word.{record_of, word_of, InRange, owners_held}
use Rattle.word.proofs.RecordWord.{decoded_in_range}
use Rattle.state.specs.declared.layout.Shape.{Shape}
use Rattle.state.specs.declared.layout.InterfaceValue.TheVariants.{Depth}
use Rattle.state.specs.Layout.{Slot, Interface, Sources, Spi, Stack, Exists, Room, stack_capacity}
use Rattle.state.specs.Words.{word_at, put, entry_word, record_slot, RecordThere, record_at, ready_bit, changed, sources_at, with_sources}
use Rattle.state.proofs.Ready.{ExactAt, PutKeeps, Anywhere, room_kept, WithBit, bit_kept, ExactBit, exact_kept, put_makes_exact, put_comm}
use Rattle.state.proofs.Accessors.{put_room, put_other, record_exists, record_spi, record_same, sources_same}
use Rattle.state.proofs.SlotKinds.{kinds_apart, record_apart, apart_record}
use Rattle.sgi.specs.Sgi.{merged_sources}
use Rattle.select.specs.declared.Candidate.{Candidate}
use Rattle.service.specs.Service.{depth_at, stack_at, pushed}
use Rattle.service.proofs.Stacks.{stack_same, pushed_keeps, pushed_room, pushed_others, pushed_depth, pushed_stack}
use Rattle.acknowledge.specs.Acknowledge.{lowest_source, source_of, pend_if_left, without_source, source_taken, given_record, pushed_for, given, Givable}

-- a source taken touches its SGI's sources and record alone
module _ (shape : Shape) (v n source : ℕ) (there : RecordThere shape v n) where
  record_there : Exists shape (record_slot v n)
  record_there = record_exists shape v n there

  pended_others : (s : List ℕ) (t : Slot) → Exists shape t → (t ≡ record_slot v n → ⊥) → word_at shape t (pend_if_left shape v n s) ≡ word_at shape t s
  unfolding pend_if_left
  pended_others s t x no_record = go (eqb (sources_at shape v n s) 0)
    where
      go : (b : Bool) → word_at shape t (cond b s (changed shape v n (λ r. set_pending r true) s)) ≡ word_at shape t s
      go true = refl
      go false = put_other shape s t (record_slot v n) (word_of (set_pending (record_at shape v n s) true)) x record_there no_record

  pub source_others : (s : List ℕ) (t : Slot) → Exists shape t → (t ≡ record_slot v n → ⊥) → (t ≡ Sources v n → ⊥) → word_at shape t (source_taken shape v n source s) ≡ word_at shape t s
  unfolding source_taken
  source_others s t x no_record no-sources = go (ltb n 16) refl
    where
      go : (b : Bool) → ltb n 16 ≡ b → word_at shape t (cond b (pend_if_left shape v n (without_source shape v n source s)) s) ≡ word_at shape t s
      go true e =
          let sgi : n < 16 = ltb-true n 16 e in
          pended_others (without_source shape v n source s) t x no_record
          ∙ put_other shape s t (Sources v n) (merged_sources false (sources_at shape v n s) (2 ^ source)) x (there.banked (omega arith), sgi) no-sources
      go false e = refl

  pub source_keeps : (Mine : Slot → Type 0) → Mine (record_slot v n) → Mine (Sources v n) → (P : List ℕ → Type 0) → PutKeeps shape Mine P → (s : List ℕ) → P s → P (source_taken shape v n source s)
  unfolding source_taken pend_if_left
  source_keeps Mine own sources P keeps s p = go (ltb n 16) refl
    where
      after : List ℕ
      after = without_source shape v n source s

      left : n < 16 → P after
      left sgi = keeps (Sources v n) (merged_sources false (sources_at shape v n s) (2 ^ source)) s (there.banked (omega arith), sgi) sources p

      pend : (b : Bool) → n < 16 → P (cond b after (changed shape v n (λ r. set_pending r true) after))
      pend true sgi = left sgi
      pend false sgi = keeps (record_slot v n) (word_of (set_pending (record_at shape v n after) true)) after record_there own (left sgi)

      go : (b : Bool) → ltb n 16 ≡ b → P (cond b (pend_if_left shape v n after) s)
      go true e = pend (eqb (sources_at shape v n after) 0) (ltb-true n 16 e)
      go false e = p

module _ (shape : Shape) (v : ℕ) (e : Candidate) (s : List ℕ) (g : Givable shape v e s) where
  there : RecordThere shape v e.intid.0
  there = record { numbered = g.numbered; banked = λ b. g.served.exists }

  -- the steps in document 01's order, in which the record is marked before the push
  pub given_in_order : given shape v e s ≡ source_taken shape v e.intid.0 (source_of shape v e.intid.0 s) (pushed shape v (pushed_for shape v s e) (changed shape v e.intid.0 (given_record v) s))
  unfolding given pushed
  given_in_order =
      ap (source_taken shape v n (source_of shape v n s))
      (ap (λ (x : ℕ). put shape slot (word_of (given_record v (record_of x))) (pushed shape v (pushed_for shape v s e) s)) (pushed_others shape v (pushed_for shape v s e) s g.served g.room slot it off_depth off_stack)
      ∙ put_comm shape (put shape depth (d + 1) s) (put_room shape s depth (d + 1) g.served.state) (Stack v d) slot (entry_word (pushed_for shape v s e)) marked (g.served.exists, g.room) it (λ p. off_stack (sym p))
      ∙ ap (put shape (Stack v d) (entry_word (pushed_for shape v s e))) (put_comm shape s g.served.state depth slot (d + 1) marked g.served.exists it (λ p. off_depth (sym p)))
      ∙ ap (λ (x : ℕ). put shape (Stack v x) (entry_word (pushed_for shape v s e)) (put shape depth (x + 1) (put shape slot marked s))) (sym (put_other shape s depth slot marked g.served.exists it (λ p. off_depth (sym p)))))
    where
      n : ℕ
      n = e.intid.0

      d : ℕ
      d = depth_at shape v s

      slot : Slot
      slot = record_slot v n

      depth : Slot
      depth = Interface v Depth

      marked : ℕ
      marked = word_of (given_record v (record_at shape v n s))

      it : Exists shape slot
      it = record_exists shape v n there

      off_depth : slot ≡ depth → ⊥
      off_depth = record_apart v n depth refl

      off_stack : slot ≡ Stack v d → ⊥
      off_stack = record_apart v n (Stack v d) refl

  -- after the push only the record and the sources change
  after_push : (t : Slot) → Exists shape t → (t ≡ record_slot v e.intid.0 → ⊥) → (t ≡ Sources v e.intid.0 → ⊥) → word_at shape t (given shape v e s) ≡ word_at shape t (pushed shape v (pushed_for shape v s e) s)
  unfolding given
  after_push t x no_record no-sources =
      let before = changed shape v e.intid.0 (given_record v) (pushed shape v (pushed_for shape v s e) s) in
      source_others shape v e.intid.0 (source_of shape v e.intid.0 s) there before t x no_record no-sources
      ∙ put_other shape (pushed shape v (pushed_for shape v s e) s) t (record_slot v e.intid.0) (word_of (given_record v (record_at shape v e.intid.0 (pushed shape v (pushed_for shape v s e) s)))) x (record_exists shape v e.intid.0 there) no_record

  -- what the writes of its slots keep, from the push on and from the record on
  module _ (Mine : Slot → Type 0) (own : Mine (record_slot v e.intid.0)) (sources : Mine (Sources v e.intid.0)) (P : List ℕ → Type 0) (keeps : PutKeeps shape Mine P) where
    marked_keeps : P (changed shape v e.intid.0 (given_record v) (pushed shape v (pushed_for shape v s e) s)) → P (given shape v e s)
    unfolding given
    marked_keeps p = source_keeps shape v e.intid.0 (source_of shape v e.intid.0 s) there Mine own sources P keeps (changed shape v e.intid.0 (given_record v) (pushed shape v (pushed_for shape v s e) s)) p

    pub given_keeps : Mine (Interface v Depth) → Mine (Stack v (depth_at shape v s)) → P s → P (given shape v e s)
    given_keeps depth entry p =
        let before = pushed shape v (pushed_for shape v s e) s in
        marked_keeps
        (keeps (record_slot v e.intid.0) (word_of (given_record v (record_at shape v e.intid.0 before))) before (record_exists shape v e.intid.0 there) own
        (pushed_keeps shape v (pushed_for shape v s e) s g.served g.room Mine depth entry P keeps p))

  pub given_room : Room shape (given shape v e s)
  given_room = given_keeps Anywhere tt tt (Room shape) (room_kept shape Anywhere) tt tt g.served.state

  -- an SPI's bit: its own is set anew, every other stays
  pub given_bit : 32 ≤ e.intid.0 → ExactAt shape e.intid.0 (given shape v e s)
  given_bit high =
      let n = e.intid.0 in
      let spi : record_slot v n ≡ Spi n = record_spi v n (le-ltb n 32 high) in
      let it : Exists shape (Spi n) = (high, g.numbered) in
      let before = pushed shape v (pushed_for shape v s e) s in
      let room = pushed_room shape v (pushed_for shape v s e) s g.served g.room in
      (marked_keeps Anywhere tt tt (ExactBit shape n) (exact_kept shape Anywhere n it)
      (put_room shape before (record_slot v n) _ room, rw spi (put_makes_exact shape before room n (word_of (given_record v (record_of (word_at shape (Spi n) before)))) it))).1

  pub given_bits : (n : ℕ) → Exists shape (Spi n) → (Spi n ≡ record_slot v e.intid.0 → ⊥) → ready_bit shape n (given shape v e s) ≡ ready_bit shape n s
  given_bits n it apart =
      (given_keeps (λ t. Spi n ≡ t → ⊥) apart (kinds_apart (Spi n) (Sources v e.intid.0) refl)
      (WithBit shape n (ready_bit shape n s)) (bit_kept shape (λ t. Spi n ≡ t → ⊥) n (ready_bit shape n s) it (λ t away. away))
      (kinds_apart (Spi n) (Interface v Depth) refl) (kinds_apart (Spi n) (Stack v (depth_at shape v s)) refl) (g.served.state, refl)).1

  -- every other slot stays
  pub given_others : (t : Slot) → Exists shape t → (t ≡ record_slot v e.intid.0 → ⊥) → (t ≡ Sources v e.intid.0 → ⊥) → (t ≡ Interface v Depth → ⊥) → (t ≡ Stack v (depth_at shape v s) → ⊥)
      → word_at shape t (given shape v e s) ≡ word_at shape t s
  given_others t x no_record no-sources no_depth no-entry =
      after_push t x no_record no-sources ∙ pushed_others shape v (pushed_for shape v s e) s g.served g.room t x no_depth no-entry

  pub given_depth : depth_at shape v (given shape v e s) ≡ depth_at shape v s + 1
  given_depth =
      after_push (Interface v Depth) g.served.exists (apart_record (Interface v Depth) v e.intid.0 refl) (kinds_apart (Interface v Depth) (Sources v e.intid.0) refl)
      ∙ pushed_depth shape v (pushed_for shape v s e) s g.served g.room

  pub given_depths : (u : ℕ) → u < shape.count → (u ≡ v → ⊥) → depth_at shape u (given shape v e s) ≡ depth_at shape u s
  given_depths u x apart =
      given_others (Interface u Depth) x (apart_record (Interface u Depth) v e.intid.0 refl) (kinds_apart (Interface u Depth) (Sources v e.intid.0) refl)
      (λ p. apart (cc)) (kinds_apart (Interface u Depth) (Stack v (depth_at shape v s)) refl)

  -- no record but the one given
  pub given_records : (u m : ℕ) → RecordThere shape u m → (record_slot u m ≡ record_slot v e.intid.0 → ⊥) → record_at shape u m (given shape v e s) ≡ record_at shape u m s
  given_records u m x no_record =
      ap record_of
      (given_others (record_slot u m) (record_exists shape u m x) no_record
      (record_apart u m (Sources v e.intid.0) refl)
      (record_apart u m (Interface v Depth) refl)
      (record_apart u m (Stack v (depth_at shape v s)) refl))

  -- the old stack with the new entry
  pub given_stack : e.intid.0 < 1024 → (pushed_for shape v s e).priority.0 < 256 → stack_at shape v (given shape v e s) ≡ pushed_for shape v s e ∷ stack_at shape v s
  given_stack a b =
      let deeper = pushed_depth shape v (pushed_for shape v s e) s g.served g.room in
      let room : depth_at shape v s < stack_capacity = g.room in
      stack_same shape v (pushed shape v (pushed_for shape v s e) s) (given shape v e s) (rw deeper (omega arith))
      (after_push (Interface v Depth) g.served.exists (apart_record (Interface v Depth) v e.intid.0 refl) (kinds_apart (Interface v Depth) (Sources v e.intid.0) refl))
      (λ i c. after_push (Stack v i) (g.served.exists, c) (apart_record (Stack v i) v e.intid.0 refl) (kinds_apart (Stack v i) (Sources v e.intid.0) refl))
      ∙ pushed_stack shape v (pushed_for shape v s e) s g.served g.room a b

  -- and what the others have under service
  pub given_stacks : (u : ℕ) → u < shape.count → (u ≡ v → ⊥) → depth_at shape u s ≤ stack_capacity → stack_at shape u (given shape v e s) ≡ stack_at shape u s
  given_stacks u x apart deep =
      stack_same shape u s (given shape v e s) deep (given_depths u x apart)
      (λ i c. given_others (Stack u i) (x, c) (apart_record (Stack u i) v e.intid.0 refl) (kinds_apart (Stack u i) (Sources v e.intid.0) refl)
      (kinds_apart (Stack u i) (Interface v Depth) refl) (λ p. apart (cc)))

-- a record given is one that a word can hold
pub given_in_range : (v : ℕ) (r : InterruptRecord) → v < owners_held → InRange r → InRange (given_record v r)
unfolding given_record synchronize_inflight set_state set_owner mark_inflight
given_in_range v r h i = record { priority_byte = i.priority_byte; mask_byte_lem = i.mask_byte_lem; owner_byte_lem = h }

pub pending_in_range : (r : InterruptRecord) → InRange r → InRange (set_pending r true)
unfolding set_pending
pending_in_range r i = record { priority_byte = i.priority_byte; mask_byte_lem = i.mask_byte_lem; owner_byte_lem = i.owner_byte_lem }

-- pending again: the record, and the sources as they are
module _ (shape : Shape) (v n : ℕ) (s : List ℕ) (h : Room shape s) (x : Exists shape (Sources v n)) where
  sgi_there : RecordThere shape v n
  sgi_there = record { numbered = omega arith; banked = λ b. x.0 }

  pended_sources : sources_at shape v n (pend_if_left shape v n s) ≡ sources_at shape v n s
  pended_sources = ap (λ (w : ℕ). w % 256) (pended_others shape v n 0 sgi_there s (Sources v n) x (apart_record (Sources v n) v n refl))

  pended_record : record_at shape v n (pend_if_left shape v n s) ≡ cond (eqb (sources_at shape v n s) 0) (record_at shape v n s) (set_pending (record_at shape v n s) true)
  unfolding pend_if_left
  pended_record = go (eqb (sources_at shape v n s) 0)
    where
      go : (b : Bool) → record_at shape v n (cond b s (changed shape v n (λ r. set_pending r true) s)) ≡ cond b (record_at shape v n s) (set_pending (record_at shape v n s) true)
      go true = refl
      go false =
          let r = record_at shape v n s in
          record_same shape s v n (set_pending r true) h (record_exists shape v n sgi_there) (pending_in_range r (decoded_in_range (word_at shape (record_slot v n) s)))

module _ (shape : Shape) (v : ℕ) (e : Candidate) (s : List ℕ) (g : Givable shape v e s) where
  -- the record after the push and the marks
  marked : List ℕ
  marked = changed shape v e.intid.0 (given_record v) (pushed shape v (pushed_for shape v s e) s)

  old_record : record_at shape v e.intid.0 (pushed shape v (pushed_for shape v s e) s) ≡ record_at shape v e.intid.0 s
  old_record =
      ap record_of
      (pushed_others shape v (pushed_for shape v s e) s g.served g.room (record_slot v e.intid.0) (record_exists shape v e.intid.0 (there shape v e s g))
      (record_apart v e.intid.0 (Interface v Depth) refl)
      (record_apart v e.intid.0 (Stack v (depth_at shape v s)) refl))

  marked_record : record_at shape v e.intid.0 marked ≡ given_record v (record_at shape v e.intid.0 s)
  unfolding marked
  marked_record =
      let r = record_at shape v e.intid.0 (pushed shape v (pushed_for shape v s e) s) in
      let few = g.served.state.limits.few_vcpus in
      let here : v < shape.count = g.served.exists in
      record_same shape (pushed shape v (pushed_for shape v s e) s) v e.intid.0 (given_record v r) (pushed_room shape v (pushed_for shape v s e) s g.served g.room) (record_exists shape v e.intid.0 (there shape v e s g))
      (given_in_range v r (omega (arith, few, here)) (decoded_in_range (word_at shape (record_slot v e.intid.0) (pushed shape v (pushed_for shape v s e) s))))
      ∙ ap (given_record v) old_record

  -- an interrupt that is no SGI
  pub given_record_lem : 16 ≤ e.intid.0 → record_at shape v e.intid.0 (given shape v e s) ≡ given_record v (record_at shape v e.intid.0 s)
  unfolding given source_taken marked
  given_record_lem h = simp (le-ltb e.intid.0 16 h) marked_record

  -- an SGI: the lowest source is taken, and it is pending again if others are left
  module _ (sgi : e.intid.0 < 16) where
    left : ℕ
    left = merged_sources false (sources_at shape v e.intid.0 s) (2 ^ lowest_source (sources_at shape v e.intid.0 s))

    here : Exists shape (Sources v e.intid.0)
    here = (g.served.exists, sgi)

    old_sources : sources_at shape v e.intid.0 marked ≡ sources_at shape v e.intid.0 s
    unfolding marked
    old_sources =
        let n : ℕ = e.intid.0 in
        ap (λ (w : ℕ). w % 256)
        (put_other shape (pushed shape v (pushed_for shape v s e) s) (Sources v n) (record_slot v n) (word_of (given_record v (record_at shape v n (pushed shape v (pushed_for shape v s e) s)))) here (record_exists shape v n (there shape v e s g))
        (apart_record (Sources v n) v n refl)
        ∙ pushed_others shape v (pushed_for shape v s e) s g.served g.room (Sources v n) here (kinds_apart (Sources v n) (Interface v Depth) refl) (kinds_apart (Sources v n) (Stack v (depth_at shape v s)) refl))

    left_fits : left < 256
    unfolding left
    left_fits = lt_of_le_of_lt (and_le_l (sources_at shape v e.intid.0 s) (every_vcpu - 2 ^ lowest_source (sources_at shape v e.intid.0 s))) (omega arith)

    marked_room : Room shape marked
    unfolding marked
    marked_room = put_room shape (pushed shape v (pushed_for shape v s e) s) (record_slot v e.intid.0) (word_of (given_record v (record_at shape v e.intid.0 (pushed shape v (pushed_for shape v s e) s)))) (pushed_room shape v (pushed_for shape v s e) s g.served g.room)

    given_is : given shape v e s ≡ pend_if_left shape v e.intid.0 (with_sources shape v e.intid.0 left marked)
    unfolding given source_taken source_of left marked
    given_is = simp (lt-ltb e.intid.0 16 sgi, old_sources)

    pub given_sources : sources_at shape v e.intid.0 (given shape v e s) ≡ merged_sources false (sources_at shape v e.intid.0 s) (2 ^ lowest_source (sources_at shape v e.intid.0 s))
    unfolding left
    given_sources =
        let n : ℕ = e.intid.0 in
        ap (sources_at shape v n) given_is
        ∙ pended_sources shape v n (with_sources shape v n left marked) (put_room shape marked (Sources v n) left marked_room) here
        ∙ sources_same shape marked v n left marked_room here left_fits

    pub given_sgi : record_at shape v e.intid.0 (given shape v e s)
        ≡ cond (eqb (sources_at shape v e.intid.0 (given shape v e s)) 0) (given_record v (record_at shape v e.intid.0 s)) (set_pending (given_record v (record_at shape v e.intid.0 s)) true)
    given_sgi =
        let n : ℕ = e.intid.0 in
        let before = with_sources shape v n left marked in
        let room = put_room shape marked (Sources v n) left marked_room in
        let kept : record_at shape v n before ≡ given_record v (record_at shape v n s) =
        ap record_of (put_other shape marked (record_slot v n) (Sources v n) left (record_exists shape v n (there shape v e s g)) here (record_apart v n (Sources v n) refl)) ∙ marked_record in
        let same : sources_at shape v n (given shape v e s) ≡ sources_at shape v n before = ap (sources_at shape v n) given_is ∙ pended_sources shape v n before room here in
        rw same (ap (record_at shape v n) given_is ∙ pended_record shape v n before room here ∙ ap (λ (r : InterruptRecord). cond (eqb (sources_at shape v n before) 0) r (set_pending r true)) kept)
