-- What loading leaves in the words, whatever they held: at every part what was read of it, a state that passes the test and is as we write it,
-- and past the state the words as they were. Assumes nothing.
use mathlib.Core.Path.{◌≡◌, refl, sym, subst, ◌∙◌}
use mathlib.Core.Bool.{Bool, true, false}
use mathlib.Core.List.{List}
use Prim.Native.Nat.{ℕ, zero, suc, ◌+◌, ◌*◌, ◌-◌, ◌^◌, ◌≤◌, ◌<◌}
use native.Mathlib.Nat.{not-suc-le-zero}
use native.Mathlib.Omega.{arith}
use lib.Dec.{ltb}
use lib.ListN.{length, get_or, drop}
use lib.Pow.{pow_pos}
use borrow.Author.Tests.{lt-ltb, le-ltb, ltb-true, ltb-false}
use Rattle.word.proofs.Cases.{last_or}
use Rattle.state.specs.declared.layout.Shape.{Shape}
use Rattle.state.specs.declared.layout.InterfaceValue.TheVariants.{Control, PriorityMask, BinaryPoint, Depth}
use Rattle.state.specs.Layout.{Slot, Count, Limit, DistributorControl, Interface, Sources, Private, Spi, Stack, stack_capacity, size, in_summary, Exists, Room}
use Rattle.state.specs.Loop.{up_to}
use Rattle.state.specs.Lent.{with_shape, HoldsState}
use Rattle.state.specs.Words.{word_at, put, record_slot, kept_distributor_control, distributor_control_at, with_distributor_control, without_summary, spis_in, CanonicalWord, Canonical, Exact}
use Rattle.word.specs.Word.{word_of}
use Rattle.state.proofs.Accessors.{put_length, put_room, put_same, put_other, put_past, record_spi}
use Rattle.state.proofs.Ready.{ExactAt, PutKeeps, Anywhere, ExactBit, exact_kept, put_makes_exact, put_spared}
use Rattle.state.proofs.Summary.{cleared_length, cleared_room, cleared_past_lem, cleared_slot, cleared_summary}
use Rattle.state.proofs.SlotKinds.{kinds_apart}
use Rattle.state.proofs.Steps.{slots, Agree, steps_own, steps_others}
use Rattle.image.specs.Parts.{Part, Registers, Service, Interrupt, part_at, part_count}
use Rattle.image.proofs.Cases.{part_registers, service_part, private_part}
use Rattle.std.proofs.lemmas.Option.{none-some}
use Rattle.std.specs.Prelude.{Option, Some, None}
use Rattle.load.specs.declared.reading.RecordAndSources.{RecordAndSources}
use Rattle.load.specs.Load.{stored}
use Rattle.load.specs.Reading.{record_found}
use Rattle.load.specs.Walking.{then_place, part_end, part_stored, record_end, record_stored, walked, step_stored, parts_stored}
use Rattle.moving.specs.Reads.{Reads}
use Rattle.moving.proofs.StoredPlaces.{part_index, OfPart, index_spi, Stands, part_stands}
use Rattle.moving.proofs.StoredParts.{Bounded, up_bounded, Keeps, idle_keeps, part_keeps}
use Rattle.moving.proofs.StoredLeft.{RegistersWritten, ServiceWritten, RecordWritten, PartWritten, PartLeft, part_left}

-- a walk that came to its end came through every part
module _ (shape : Shape) (image : List ℕ) (start : ℕ) where
  record Passed (k : ℕ) : Type 0 where
    pub at : ℕ
    pub next : ℕ
    pub before : walked shape image start k ≡ Some at
    pub after : walked shape image start (suc k) ≡ Some next
    pub ends : part_end shape image (part_at shape k) at ≡ Some next

  passed_last : (k next : ℕ) → walked shape image start (suc k) ≡ Some next → Passed k
  unfolding walked
  passed_last k next after = go (walked shape image start k) refl after
    where
      go : (x : Option ℕ) → walked shape image start k ≡ x → then_place None x (part_end shape image (part_at shape k)) ≡ Some next → Passed k
      go None p e = absurd (none-some _ e)
      go (Some at) p e = record { at = at; next = next; before = p; after = after; ends = e }

  passed : (n end : ℕ) → walked shape image start n ≡ Some end → (k : ℕ) → k < n → Passed k
  passed zero end e k b = absurd (not-suc-le-zero b)
  passed (suc n) end e k b =
      let last = passed_last n end e in
      last_or k n b (λ p. rw p last) (λ c. passed n last.at last.before k c)

  -- a step keeps to the slots of its part
  step_keeps : (k : ℕ) → Stands shape k (part_at shape k) → Keeps shape (λ t. part_index shape t ≡ k) (step_stored shape image start k)
  step_keeps k h = go (walked shape image start k)
    where
      go : (x : Option ℕ) → Keeps shape (λ t. part_index shape t ≡ k) (λ s. then_place s x (λ at. part_stored shape image (part_at shape k) at s))
      go None = idle_keeps
      go (Some at) =
          subst (λ (j : ℕ). Keeps shape (λ t. part_index shape t ≡ j) (part_stored shape image (part_at shape k) at)) h.stands
          (part_keeps shape image (part_at shape k) at h.there)

-- what one step makes, whatever stood there, and the others keep holds at the end
up_made : (P Good : List ℕ → Type 0) (f : ℕ → List ℕ → List ℕ) (n k : ℕ) (s : List ℕ) → Good s → k < n → ((i : ℕ) (r : List ℕ) → i < n → Good r → Good (f i r))
    → ((r : List ℕ) → Good r → P (f k r)) → ((i : ℕ) (r : List ℕ) → i < n → P r → P (f i r)) → P (up_to f n s)
unfolding up_to
up_made P Good f zero k s g b good made keeps = absurd (not-suc-le-zero b)
up_made P Good f (suc n) k s g b good made keeps =
    last_or k n b
    (λ e. rw e at (made (up_to f n s) (all n (omega arith))))
    (λ c. keeps n (up_to f n s) (omega arith) (up_made P Good f n k s g c (λ i r d. good i r (omega arith)) made (λ i r d. keeps i r (omega arith))))
  where
    all : (m : ℕ) → m ≤ n → Good (up_to f m s)
    all zero d = g
    all (suc m) d = good m (up_to f m s) (omega arith) (all m (omega arith))

-- what is held of part k
pub record PartHeld (shape : Shape) (image : List ℕ) (start k : ℕ) (s : List ℕ) : Type 0 where
  pub at : ℕ
  pub next : ℕ
  pub before : walked shape image start k ≡ Some at
  pub after : walked shape image start (suc k) ≡ Some next
  pub reads : Reads shape image (part_at shape k) at next s

module _ (shape : Shape) (control : ℕ) (image : List ℕ) (start : ℕ) (w : List ℕ) (h : Room shape w) where
  abbrev cleared : List ℕ
  cleared = without_summary shape (with_shape shape w)

  abbrev base : List ℕ
  base = with_distributor_control shape control cleared

  abbrev held : List ℕ
  held = stored shape control image start w

  abbrev counted : List ℕ
  counted = put shape Count shape.count w

  counted_room : Room shape counted
  counted_room = put_room shape w Count shape.count h

  shaped_room : Room shape (with_shape shape w)
  shaped_room = put_room shape counted Limit shape.limit counted_room

  emptied_room : Room shape cleared
  emptied_room = cleared_room shape (with_shape shape w) shaped_room

  base_room : Room shape base
  base_room = put_room shape cleared DistributorControl (kept_distributor_control control) emptied_room

  steps : (k : ℕ) → k < part_count shape → Keeps shape (λ t. part_index shape t ≡ k) (step_stored shape image start k)
  steps k b = step_keeps shape image start k (part_stands shape k h.limits b)

  stored_bounded : Bounded shape (parts_stored shape image start)
  unfolding parts_stored
  stored_bounded = up_bounded (step_stored shape image start) (part_count shape) (λ k b. (steps k b).bounded)

  pub stored_length : length held ≡ length w
  stored_length =
      stored_bounded.long base ∙ put_length shape cleared DistributorControl (kept_distributor_control control)
      ∙ cleared_length shape (with_shape shape w) ∙ put_length shape counted Limit shape.limit ∙ put_length shape w Count shape.count

  pub stored_room : Room shape held
  stored_room = record { limits = h.limits; room = rw stored_length h.room }

  pub stored_past : drop (size shape) held ≡ drop (size shape) w
  stored_past =
      stored_bounded.past base base_room
      ∙ put_past shape cleared DistributorControl (kept_distributor_control control) h.limits tt
      ∙ cleared_past_lem shape (with_shape shape w) ∙ put_past shape counted Limit shape.limit h.limits tt ∙ put_past shape w Count shape.count h.limits tt

  -- the words that are of no part
  stored_header : (t : Slot) → Exists shape t → part_index shape t ≡ part_count shape → word_at shape t held ≡ word_at shape t base
  unfolding parts_stored
  stored_header t e p =
      steps_others (slots shape) (λ k t. part_index shape t ≡ k) (step_stored shape image start) (part_count shape) base (λ k b. (steps k b).local) base_room t e
      (λ k b q. omega arith)

  stored_count : word_at shape Count held ≡ shape.count
  stored_count =
      stored_header Count tt refl
      ∙ put_other shape cleared Count DistributorControl (kept_distributor_control control) tt tt (kinds_apart Count DistributorControl refl)
      ∙ cleared_slot shape (with_shape shape w) Count tt
      ∙ put_other shape counted Count Limit shape.limit tt tt (kinds_apart Count Limit refl) ∙ put_same shape w Count shape.count h tt

  stored_limit : word_at shape Limit held ≡ shape.limit
  stored_limit =
      stored_header Limit tt refl
      ∙ put_other shape cleared Limit DistributorControl (kept_distributor_control control) tt tt (kinds_apart Limit DistributorControl refl)
      ∙ cleared_slot shape (with_shape shape w) Limit tt
      ∙ put_same shape counted Limit shape.limit counted_room tt

  control_word : word_at shape DistributorControl held ≡ kept_distributor_control control
  control_word = stored_header DistributorControl tt refl ∙ put_same shape cleared DistributorControl (kept_distributor_control control) emptied_room tt

  pub stored_control : control ≤ 1 → distributor_control_at shape held ≡ control
  stored_control most = rw control_word (omega arith)

  -- the words of part k
  stored_agree : (k at : ℕ) → k < part_count shape → walked shape image start k ≡ Some at
      → Agree shape (OfPart shape (part_at shape k)) held (part_stored shape image (part_at shape k) at base)
  unfolding parts_stored
  stored_agree k at b here =
      let own = steps_own (slots shape) (λ k t. part_index shape t ≡ k) (step_stored shape image start) (λ i j t p q. sym p ∙ q) (part_count shape) base (λ k b. (steps k b).local) base_room k b in
      record { agree = λ t e m. own.agree t e (m ∙ (part_stands shape k h.limits b).stands) ∙ rw here }

  -- .. where the walk came to its end
  module _ (end : ℕ) (whole : walked shape image start (part_count shape) ≡ Some end) where
    stored_left : (k : ℕ) (b : k < part_count shape) → PartLeft shape image (part_at shape k) (passed shape image start (part_count shape) end whole k b).at (passed shape image start (part_count shape) end whole k b).next held
    stored_left k b =
        let p = passed shape image start (part_count shape) end whole k b in
        part_left shape image p.at p.next base held base_room (part_at shape k) (part_stands shape k h.limits b).there p.ends
        (stored_agree k p.at b p.before)

    pub stored_reads : (k : ℕ) → k < part_count shape → PartHeld shape image start k held
    stored_reads k b =
        let p = passed shape image start (part_count shape) end whole k b in
        record { at = p.at; next = p.next; before = p.before; after = p.after; reads = (stored_left k b).reads }

    written_as : (k : ℕ) (p : Part) → k < part_count shape → part_at shape k ≡ p → PartWritten shape p held
    written_as k p b e = subst (λ (q : Part). PartWritten shape q held) e (stored_left k b).written

    registers_as : (v : ℕ) → v < shape.count → RegistersWritten shape v held
    registers_as v b = written_as v (Registers (record { 0 = v })) (omega arith) (part_registers shape v b)

    service_as : (v : ℕ) → v < shape.count → ServiceWritten shape v held
    service_as v b = written_as (shape.count + v) (Service (record { 0 = v })) (omega arith) (service_part shape v b)

    private_as : (v n : ℕ) → v < shape.count → n < 32 → RecordWritten shape v n held
    private_as v n b low = written_as (2 * shape.count + 32 * v + n) (Interrupt (record { 0 = v }) (record { 0 = n })) (omega arith) (private_part shape v n b low)

    spi_as : (n : ℕ) → 32 ≤ n → n < shape.limit → RecordWritten shape 0 n held
    spi_as n high b = written_as (34 * shape.count + (n - 32)) (Interrupt (record { 0 = 0 }) (record { 0 = n })) (omega arith) (index_spi shape n high)

    -- a state that passes the test of lent words
    pub stored_held : HoldsState shape held
    stored_held = record {
      stored = λ i. record { count = sym stored_count i; limit = sym stored_limit i };
      state = stored_room;
      depths = λ v b. (service_as v b).deep;
    }

    entry_as : (v i : ℕ) → v < shape.count → i < stack_capacity → CanonicalWord (Stack v i) (word_at shape (Stack v i) held)
    entry_as v i b c = go (ltb i (word_at shape (Interface v Depth) held)) refl
      where
        go : (t : Bool) → ltb i (word_at shape (Interface v Depth) held) ≡ t → CanonicalWord (Stack v i) (word_at shape (Stack v i) held)
        go true p = (service_as v b).entries i (ltb-true i (word_at shape (Interface v Depth) held) p)
        go false p = rw ((service_as v b).cleared i (ltb-false i (word_at shape (Interface v Depth) held) p) c)

    written : (t : Slot) → Exists shape t → CanonicalWord t (word_at shape t held)
    unfolding record_slot
    written Count e = refl
    written Limit e = refl
    written DistributorControl e = rw control_word (omega arith)
    written (Interface v Control) e = (registers_as v e).control
    written (Interface v PriorityMask) e = (registers_as v e).mask
    written (Interface v BinaryPoint) e = (registers_as v e).point
    written (Interface v Depth) e = refl
    written (Sources v n) e = (private_as v n e.0 (omega arith)).sources e.1
    written (Private v n) e = rw (lt-ltb n 32 e.1) at (private_as v n e.0 e.1).word
    written (Spi n) e = rw (le-ltb n 32 e.0) at (spi_as n e.0 e.1).word
    written (Stack v i) e = entry_as v i e.0 e.1

    -- .. and is as we write it: the bits start from none
    pub stored_canonical : Canonical shape held
    stored_canonical = record { written = written; cleared = λ v i b deep c. (service_as v b).cleared i deep c; spared = spared }
      where
        Spared : ℕ → List ℕ → Type 0
        Spared k s = Room shape s × (get_or s k 0 < 2 ^ spis_in shape k)

        kept : (k : ℕ) → in_summary shape k ≡ true → PutKeeps shape Anywhere (Spared k)
        kept k on t x s e m p = (put_room shape s t x p.0, put_spared shape s p.0 t x k e on p.1)

        spared : (k : ℕ) → in_summary shape k ≡ true → get_or held k 0 < 2 ^ spis_in shape k
        spared k on =
            (stored_bounded.puts (Spared k) (kept k on) base
            (kept k on DistributorControl (kept_distributor_control control) cleared tt tt (emptied_room, rw (cleared_summary shape (with_shape shape w) shaped_room k on) (pow_pos (spis_in shape k))))).1

    -- .. and exact: each SPI's bit was made with its record, and stays
    spi_stored : (n at next : ℕ) (s : List ℕ) → Exists shape (Spi n) → Room shape s → part_end shape image (Interrupt (record { 0 = 0 }) (record { 0 = n })) at ≡ Some next
        → ExactAt shape n (part_stored shape image (Interrupt (record { 0 = 0 }) (record { 0 = n })) at s)
    spi_stored n at next s e room ends = go (record_found shape 0 n image at) ends
      where
        go : (f : Option (RecordAndSources × ℕ)) → record_end f ≡ Some next → ExactAt shape n (record_stored shape 0 n f s)
        go None p = absurd (none-some _ p)
        go (Some (it, end)) p =
            rw (le-ltb n 16 (omega arith), record_spi 0 n (le-ltb n 32 e.0)) (put_makes_exact shape s room n (word_of it.«record») e)

    pub stored_exact : Exact shape held
    unfolding parts_stored
    stored_exact = record {
      exact = λ n e.
          (up_made (ExactBit shape n) (Room shape) (step_stored shape image start) (part_count shape) (34 * shape.count + (n - 32)) base base_room (omega arith)
          (λ i s b room. (steps i b).local.room s room)
          (λ s room. ((steps (34 * shape.count + (n - 32)) (omega arith)).local.room s room, made n e s room))
          (λ i s b p. (steps i b).bounded.puts (ExactBit shape n) (exact_kept shape Anywhere n e) s p)).1;
    }
      where
        made : (n : ℕ) → Exists shape (Spi n) → (s : List ℕ) → Room shape s → ExactAt shape n (step_stored shape image start (34 * shape.count + (n - 32)) s)
        made n e s room =
            let p = passed shape image start (part_count shape) end whole (34 * shape.count + (n - 32)) (omega arith) in
            rw (p.before, index_spi shape n e.0) (spi_stored n p.at p.next s e room (rw (index_spi shape n e.0) at p.ends))
