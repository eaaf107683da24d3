-- States of which one has all that the other has to hand out. Where records only become readier, or only less ready, step by step, the wake sets of the
-- steps together are the wake set of them all; where they only become less ready it is empty. The summary is exact. Assumes nothing.
use Rattle.std.specs.Prelude.{Option, Some, None}
use mathlib.Core.Path.{◌≡◌, refl, sym, ap, ◌∙◌}
use mathlib.Core.Bool.{Bool, true, false, not, ◌&&◌, ◌||◌, true≢false}
use mathlib.Core.List.{List}
use Prim.Native.Nat.{ℕ, zero, suc, ◌/◌, ◌%◌, ◌^◌, ◌<◌}
use native.Mathlib.Omega.{arith}
use lib.Bits.{bit_or}
use lib.Dec.{eqb, ltb}
use Rattle.interrupt.specs.Record.{is_ready}
use Rattle.interrupt.specs.declared.record.InterruptRecord.{InterruptRecord}
use Rattle.interrupt.specs.declared.types.Priority.{Priority}
use Rattle.word.specs.Fields.{gathered}
use Rattle.word.specs.Word.{bit_of, record_of, mask_byte}
use Rattle.word.proofs.Gathered.{gathered_same, gathered_idle}
use Rattle.state.specs.declared.layout.Shape.{Shape}
use Rattle.state.specs.declared.layout.InterfaceValue.{InterfaceValue}
use Rattle.state.specs.declared.layout.InterfaceValue.TheVariants.{Control, PriorityMask, BinaryPoint, Depth}
use Rattle.state.specs.Layout.{Slot, DistributorControl, Interface, Spi, Stack, stack_capacity, Exists, Limits, Room, kind_of, is_record, is_sources}
use Rattle.state.specs.Loop.{up_to}
use Rattle.state.specs.Words.{word_at, put, record_slot, record_at, kept, interface_at, kept_distributor_control, enable_bit, Exact}
use Rattle.state.proofs.Accessors.{put_same, put_other, same_or_other, record_exists}
use Rattle.state.proofs.Ready.{Summed}
use Rattle.state.proofs.SlotKinds.{record_kind}
use Rattle.state.proofs.Steps.{slots, Agree, Local, before_last}
use Rattle.state.proofs.Tests.{left_true, right_true}
use Rattle.select.specs.Select.{offered, candidate, candidate_by_record, both_on}
use Rattle.select.proofs.Agree.{candidates_agree}
use Rattle.select.proofs.Meaning.{best_is}
use Rattle.service.specs.Service.{depth_at, running_of, running, Sound}
use Rattle.service.proofs.Stacks.{stack_same}
use Rattle.acknowledge.specs.Acknowledge.{group_priority, offer}
use Rattle.acknowledge.proofs.Offers.{offer_is}
use Rattle.wake.specs.Halves.{is_some, ready}
use Rattle.wake.specs.Wake.{woken, wake_set}
use Rattle.wake.proofs.Readiness.{preempting_ready, ready_spurious, ready_number}
use Rattle.merging.proofs.Joined.{gathered_or}
use Rattle.select.specs.declared.Candidate.{Candidate}

-- one way or the other
abbrev pub Way : {A : Type 0} → Bool → (A → A → Type 0) → A → A → Type 0
Way true R a b = R a b
Way false R a b = R b a

-- a record that is ready if it was, with the same priority, for the same vCPUs
pub record Rises (a b : InterruptRecord) : Type 0 where
  pub ready : is_ready a ≡ true → is_ready b ≡ true
  pub priority : b.priority ≡ a.priority
  pub mask : b.cpu_target_mask ≡ a.cpu_target_mask

-- all records are so, and whatever else a selection looks at is as it was
pub record Rising (shape : Shape) (s r : List ℕ) : Type 0 where
  pub still : (t : Slot) → Exists shape t → is_record t ≡ false → is_sources t ≡ false → word_at shape t r ≡ word_at shape t s
  pub records : (t : Slot) → Exists shape t → is_record t ≡ true → Rises (record_of (word_at shape t s)) (record_of (word_at shape t r))

pub rises_none : (a : InterruptRecord) → Rises a a
rises_none a = record { ready = λ e. e; priority = refl; mask = refl }

pub rising_none : (shape : Shape) (s : List ℕ) → Rising shape s s
rising_none shape s = record { still = λ t e a b. refl; records = λ t e a. rises_none (record_of (word_at shape t s)) }

rising_then : (shape : Shape) (s r t : List ℕ) → Rising shape s r → Rising shape r t → Rising shape s t
rising_then shape s r t a b = record {
  still = λ u e p q. b.still u e p q ∙ a.still u e p q;
  records = λ u e p. record {
    ready = λ c. (b.records u e p).ready ((a.records u e p).ready c);
    priority = (b.records u e p).priority ∙ (a.records u e p).priority;
    mask = (b.records u e p).mask ∙ (a.records u e p).mask;
  };
}

pub way_none : (up : Bool) (shape : Shape) (s : List ℕ) → Way up (Rising shape) s s
way_none true shape s = rising_none shape s
way_none false shape s = rising_none shape s

pub way_then : (up : Bool) (shape : Shape) (s r t : List ℕ) → Way up (Rising shape) s r → Way up (Rising shape) r t → Way up (Rising shape) s t
way_then true shape s r t a b = rising_then shape s r t a b
way_then false shape s r t a b = rising_then shape t r s b a

-- a word put at a slot: a record's, or a source set's, which no selection looks at
module _ (up : Bool) (shape : Shape) (s : List ℕ) (h : Room shape s) (t : Slot) (w : ℕ) (e : Exists shape t) where
  by_parts : (b : Bool) → ((u : Slot) → Exists shape u → is_record u ≡ false → is_sources u ≡ false → word_at shape u (put shape t w s) ≡ word_at shape u s)
      → ((u : Slot) → Exists shape u → is_record u ≡ true → Way b Rises (record_of (word_at shape u s)) (record_of (word_at shape u (put shape t w s)))) → Way b (Rising shape) s (put shape t w s)
  by_parts true still records = record { still = still; records = records }
  by_parts false still records = record { still = λ u x p q. sym (still u x p q); records = records }

  as_it_was : (b : Bool) (a : InterruptRecord) → Way b Rises a a
  as_it_was true a = rises_none a
  as_it_was false a = rises_none a

  unlike : (u : Slot) → (f : Slot → Bool) → f u ≡ false → f t ≡ true → u ≡ t → ⊥
  unlike u f off on p = true≢false (sym on ∙ ap f (sym p) ∙ off)

  elsewhere : (u : Slot) → Exists shape u → (u ≡ t → ⊥) → Way up Rises (record_of (word_at shape u s)) (record_of (word_at shape u (put shape t w s)))
  elsewhere u x apart = rw (put_other shape s u t w x e apart) (as_it_was up (record_of (word_at shape u s)))

  pub record_way : is_record t ≡ true → Way up Rises (record_of (word_at shape t s)) (record_of w) → Way up (Rising shape) s (put shape t w s)
  record_way is rises =
      by_parts up (λ u x p q. put_other shape s u t w x e (unlike u is_record p is))
      (λ u x p. same_or_other shape s u t x e (λ same. rw (same, put_same shape s t w h e) rises) (elsewhere u x))

  pub sources_way : is_sources t ≡ true → is_record t ≡ false → Way up (Rising shape) s (put shape t w s)
  sources_way is off =
      by_parts up (λ u x p q. put_other shape s u t w x e (unlike u is_sources q is))
      (λ u x p. elsewhere u x (λ same. true≢false (sym p ∙ ap is_record same ∙ off)))

-- a run of steps that each go this way goes this way; the start's words at a step's own slots may be counted on
module _ (up : Bool) (shape : Shape) (Mine : ℕ → Slot → Type 0) (apart : (i j : ℕ) (t : Slot) → Mine i t → Mine j t → i ≡ j) (f : ℕ → List ℕ → List ℕ) (s : List ℕ) (h : Summed shape s) where
  pub run_way : (n : ℕ) → ((i : ℕ) → i < n → Local shape (Mine i) (f i))
      → ((i : ℕ) → i < n → (r : List ℕ) → Summed shape r → Agree shape (Mine i) r s → Way up (Rising shape) r (f i r) × Summed shape (f i r)) → Way up (Rising shape) s (up_to f n s) × Summed shape (up_to f n s)
  unfolding up_to
  run_way zero local each = (way_none up shape s, h)
  run_way (suc n) local each =
      let before = run_way n (λ i b. local i (omega arith)) (λ i b. each i (omega arith)) in
      let last = each n (omega arith) (up_to f n s) before.1 (before_last (slots shape) Mine f apart n s (λ i b. local i (omega arith)) h.0) in
      (way_then up shape s (up_to f n s) (f n (up_to f n s)) before.0 last.0, last.1)

-- what is handed out before is handed out after, or something that goes before it
module _ (shape : Shape) (s r : List ℕ) (h : Sound shape s) (xs : Exact shape s) (xr : Exact shape r) (up : Rising shape s r) (u : ℕ) (exists : u < shape.count) where
  value_same : (k : InterfaceValue) → interface_at shape u k r ≡ interface_at shape u k s
  value_same k = ap (kept k) (up.still (Interface u k) exists refl refl)

  on_same : both_on shape u r ≡ both_on shape u s
  on_same = λ i. enable_bit (kept_distributor_control (up.still DistributorControl tt refl refl i)) && enable_bit (value_same Control i)

  running_same : running shape u r ≡ running shape u s
  running_same = ap running_of (stack_same shape u s r (h.depths u exists) (up.still (Interface u Depth) exists refl refl) (λ i b. up.still (Stack u i) (exists, b) refl refl))

  record_up : (m : ℕ) → m < shape.limit → Rises (record_at shape u m s) (record_at shape u m r)
  record_up m below = up.records (record_slot u m) (record_exists shape u m (record { numbered = below; banked = λ low. exists })) (ap (λ (k : ℕ). eqb k (kind_of (Spi 0))) (record_kind u m))

  and_true : (a b : Bool) → a ≡ true → b ≡ true → (a && b) ≡ true
  and_true a b p q = rw (p, q)

  candidate_up : (m : ℕ) → m < shape.limit → candidate shape u s m ≡ true → candidate shape u r m ≡ true
  unfolding candidate_by_record
  candidate_up m below chosen =
      let a = record_at shape u m s in
      let b = record_at shape u m r in
      let rise = record_up m below in
      let mask = interface_at shape u PriorityMask s in
      let was : (offered u m a && is_ready a && ltb a.priority.0 mask) ≡ true = sym (candidates_agree shape u s xs m below) ∙ chosen in
      let first = left_true (offered u m a && is_ready a) (ltb a.priority.0 mask) was in
      let for_it : offered u m b ≡ true = ap (λ (k : Option ℕ). ltb m 32 || eqb (mask_byte k / 2 ^ u % 2) 1) rise.mask ∙ left_true (offered u m a) (is_ready a) first in
      let is_ready_lem : is_ready b ≡ true = rise.ready (right_true (offered u m a) (is_ready a) first) in
      let ahead : ltb b.priority.0 (interface_at shape u PriorityMask r) ≡ true =
      (λ i. ltb (rise.priority i).0 (value_same PriorityMask i)) ∙ right_true (offered u m a && is_ready a) (ltb a.priority.0 mask) was in
      candidates_agree shape u r xr m below ∙ and_true (offered u m b && is_ready b) _ (and_true (offered u m b) (is_ready b) for_it is_ready_lem) ahead

  pub ready_up : ready shape u s ≡ true → ready shape u r ≡ true
  ready_up = unfold ready in go (offer shape u s) refl
    where
      go : (o : Option Candidate) → offer shape u s ≡ o → is_some o ≡ true → ready shape u r ≡ true
      go None p e = absurd (true≢false (sym e))
      go (Some c) p e =
          let is = offer_is shape u s c p in
          let best = best_is shape u s c is.best_one in
          let m = c.intid.0 in
          let priority : (record_at shape u m r).priority.0 ≡ c.priority.0 = ap (λ (q : Priority). q.0) (record_up m best.below).priority ∙ sym best.priority in
          preempting_ready shape u r m best.below (candidate_up m best.below best.chosen)
          ((λ i. ltb (group_priority (value_same BinaryPoint i) (priority i)) (running_same i)) ∙ is.preempting_one) (on_same ∙ is.on)

or_off : (x : Bool) → (x || false) ≡ x
or_off true = refl
or_off false = refl

-- who is woken: quiet before, offered something after, with room for it
abbrev room : Shape → ℕ → List ℕ → Bool
room shape u x = ltb (depth_at shape u x) stack_capacity

module _ (shape : Shape) (l : Limits shape) where
  wakes : (x y : List ℕ) (u : ℕ) → woken shape x y u ≡ (not (ready shape u x) && (ready shape u y && room shape u y))
  wakes x y u = λ i. ready_spurious shape u x l i && ready_number shape u y l i

  -- two steps, of which the second leaves the depths
  module _ (s r t : List ℕ) (depth : (u : ℕ) → u < shape.count → word_at shape (Interface u Depth) t ≡ word_at shape (Interface u Depth) r) where
    two_wake : (u : ℕ) → u < shape.count → (woken shape s r u || woken shape r t u)
        ≡ ((not (ready shape u s) && (ready shape u r && room shape u t)) || (not (ready shape u r) && (ready shape u t && room shape u t)))
    two_wake u e =
        (λ i. wakes s r u i || wakes r t u i)
        ∙ ap (λ (d : ℕ). (not (ready shape u s) && (ready shape u r && ltb d stack_capacity)) || (not (ready shape u r) && (ready shape u t && room shape u t))) (sym (depth u e))

    -- whoever both together wake, one of them wakes: in any words
    among : (a b c d : Bool) → (((not a && (b && d)) || (not b && (c && d))) || (not a && (c && d))) ≡ ((not a && (b && d)) || (not b && (c && d)))
    among true b c d = or_off (not b && (c && d))
    among false true true true = refl
    among false true true false = refl
    among false true false d = or_off (d || false)
    among false false true true = refl
    among false false true false = refl
    among false false false d = refl

    pub wakes_within : bit_or (bit_or (wake_set shape s r) (wake_set shape r t)) (wake_set shape s t) ≡ bit_or (wake_set shape s r) (wake_set shape r t)
    unfolding wake_set
    wakes_within =
        ap (λ (x : ℕ). bit_or x (gathered 1 (λ u. bit_of (woken shape s t u)) shape.count)) (gathered_or (woken shape s r) (woken shape r t) shape.count)
        ∙ gathered_or (λ u. woken shape s r u || woken shape r t u) (woken shape s t) shape.count
        ∙ gathered_same 1 (λ u. bit_of ((woken shape s r u || woken shape r t u) || woken shape s t u)) (λ u. bit_of (woken shape s r u || woken shape r t u)) shape.count (λ u e. ap bit_of (each u e))
        ∙ sym (gathered_or (woken shape s r) (woken shape r t) shape.count)
      where
        each : (u : ℕ) → u < shape.count → ((woken shape s r u || woken shape r t u) || woken shape s t u) ≡ (woken shape s r u || woken shape r t u)
        each u e = (λ i. two_wake u e i || wakes s t u i) ∙ among (ready shape u s) (ready shape u r) (ready shape u t) (room shape u t) ∙ sym (two_wake u e)

-- the wake sets of two steps the same way
rose : (a b c d : Bool) → (a ≡ true → b ≡ true) → (b ≡ true → c ≡ true) → ((not a && (b && d)) || (not b && (c && d))) ≡ (not a && (c && d))
rose true true c d ab bc = refl
rose true false c d ab bc = absurd (true≢false (sym (ab refl)))
rose false true c d ab bc = rw (bc refl) (or_off d)
rose false false c d ab bc = refl

fell : (a b c d : Bool) → (b ≡ true → a ≡ true) → (c ≡ true → b ≡ true) → ((not a && (b && d)) || (not b && (c && d))) ≡ (not a && (c && d))
fell true true c d ba cb = refl
fell true false true d ba cb = absurd (true≢false (sym (cb refl)))
fell true false false d ba cb = refl
fell false true c d ba cb = absurd (true≢false (sym (ba refl)))
fell false false true d ba cb = absurd (true≢false (sym (cb refl)))
fell false false false d ba cb = refl

module _ (shape : Shape) (s r t : List ℕ) (hs : Sound shape s) (hr : Sound shape r) (ht : Sound shape t) (xs : Exact shape s) (xr : Exact shape r) (xt : Exact shape t) where
  depth_same : (up : Bool) → Way up (Rising shape) r t → (u : ℕ) → u < shape.count → word_at shape (Interface u Depth) t ≡ word_at shape (Interface u Depth) r
  depth_same true w u b = w.still (Interface u Depth) b refl refl
  depth_same false w u b = sym (w.still (Interface u Depth) b refl refl)

  together : (up : Bool) → Way up (Rising shape) s r → Way up (Rising shape) r t → (u : ℕ) → u < shape.count
      → ((not (ready shape u s) && (ready shape u r && room shape u t)) || (not (ready shape u r) && (ready shape u t && room shape u t))) ≡ (not (ready shape u s) && (ready shape u t && room shape u t))
  together true a b u e = rose (ready shape u s) (ready shape u r) (ready shape u t) (room shape u t) (ready_up shape s r hs xs xr a u e) (ready_up shape r t hr xr xt b u e)
  together false a b u e = fell (ready shape u s) (ready shape u r) (ready shape u t) (room shape u t) (ready_up shape r s hr xr xs a u e) (ready_up shape t r ht xt xr b u e)

  pub wakes_add_lem : (up : Bool) → Way up (Rising shape) s r → Way up (Rising shape) r t → bit_or (wake_set shape s r) (wake_set shape r t) ≡ wake_set shape s t
  unfolding wake_set
  wakes_add_lem up a b =
      gathered_or (woken shape s r) (woken shape r t) shape.count
      ∙ gathered_same 1 (λ u. bit_of (woken shape s r u || woken shape r t u)) (λ u. bit_of (woken shape s t u)) shape.count
      (λ u e. ap bit_of (two_wake shape hs.state.limits s r t (depth_same up b) u e ∙ together up a b u e ∙ sym (wakes shape hs.state.limits s t u)))

-- a step down wakes nobody
pub fallen_wakes_nobody : (shape : Shape) (s r : List ℕ) → Sound shape s → Sound shape r → Exact shape s → Exact shape r → Rising shape r s → wake_set shape s r ≡ 0
unfolding wake_set gathered
fallen_wakes_nobody shape s r hs hr xs xr down =
    gathered_idle 1 (λ u. bit_of (woken shape s r u)) shape.count 0 (omega arith)
    (λ u a e. ap bit_of (wakes shape hs.state.limits s r u ∙ quiet (ready shape u s) (ready shape u r) (room shape u r) (ready_up shape r s hr xr xs down u e)))
  where
    quiet : (a b d : Bool) → (b ≡ true → a ≡ true) → (not a && (b && d)) ≡ false
    quiet true b d ba = refl
    quiet false true d ba = absurd (true≢false (sym (ba refl)))
    quiet false false d ba = refl
