-- What a vCPU does not see does not wake it: writes of other vCPUs' slots; and where one record is written too, only that one can wake it, if it is for
-- it. So after a change of one record a wake set need look at those alone whom the record is for. In any words, whatever their bits say. Assumes
-- nothing.
use Rattle.std.specs.Prelude.{Option, Some, None}
use mathlib.Core.Path.{◌≡◌, refl, sym, ap, subst, ◌∙◌}
use mathlib.Core.Bool.{Bool, true, false, not, cond, ◌&&◌, true≢false, and-false}
use mathlib.Core.List.{List}
use mathlib.Core.Logic.{◌⊎◌, inl, inr}
use Prim.Native.Nat.{ℕ, ◌≤◌, ◌<◌}
use native.Mathlib.Omega.{arith}
use lib.Dec.{ltb}
use borrow.Author.Tests.{ltb-true, ltb-false}
use Rattle.interrupt.specs.declared.record.InterruptRecord.{InterruptRecord}
use Rattle.interrupt.specs.Record.{is_ready}
use Rattle.word.specs.Word.{record_of}
use Rattle.state.specs.declared.layout.Shape.{Shape}
use Rattle.state.specs.declared.layout.InterfaceValue.{InterfaceValue}
use Rattle.state.specs.declared.layout.InterfaceValue.TheVariants.{Control, PriorityMask, BinaryPoint, Depth}
use Rattle.state.specs.Layout.{Slot, DistributorControl, Interface, Private, Spi, Stack, stack_capacity, Exists, Limits, Room, vcpu_of}
use Rattle.state.specs.Words.{word_at, record_slot, RecordThere, record_at, ready_bit, kept, interface_at, kept_distributor_control, enable_bit}
use Rattle.state.proofs.Accessors.{put_room, put_other, same_or_other, record_exists, record_private, record_spi}
use Rattle.state.proofs.SlotKinds.{apart_record}
use Rattle.state.proofs.Ready.{PutKeeps, put_ready_other}
use Rattle.state.proofs.Tests.{left_true}
use Rattle.select.specs.declared.Candidate.{Candidate}
use Rattle.select.specs.Select.{offered, eligible, ready_at, candidate, both_on}
use Rattle.select.proofs.Meaning.{best_is}
use Rattle.service.specs.Service.{depth_at, running_of, running}
use Rattle.service.proofs.Stacks.{stack_same}
use Rattle.acknowledge.specs.Acknowledge.{group_priority, offer, answered, acknowledge}
use Rattle.acknowledge.proofs.Offers.{offer_is}
use Rattle.wake.specs.Halves.{ready}
use Rattle.wake.specs.Wake.{is_spurious, gives_number, woken}
use Rattle.wake.proofs.Readiness.{preempting_ready, ready_spurious}

-- a candidate is for the vCPU
candidate_for_lem : (shape : Shape) (u : ℕ) (r : List ℕ) (m : ℕ) → candidate shape u r m ≡ true → offered u m (record_at shape u m r) ≡ true
unfolding candidate
candidate_for_lem shape u r m chosen =
    let y = record_at shape u m r in
    left_true (offered u m y) (ready_at shape u r m) (left_true (offered u m y && ready_at shape u r m) _ chosen)

-- a slot of another vCPU than u
pub record OfOther (u : ℕ) (t : Slot) : Type 0 where
  pub whose : ℕ
  pub is : vcpu_of t ≡ Some whose
  pub apart : whose ≡ u → ⊥

-- or the slot x
abbrev pub Aside : ℕ → Slot → Slot → Type 0
Aside u x t = (t ≡ x) ⊎ OfOther u t

none_some : (v : ℕ) → None ≡ Some v → ⊥
none_some v e = let z : ◌≡◌ {A = ℕ} 0 1 = cc in omega arith

-- nothing of u's own is another's, nor is what is nobody's
own_seen : (u : ℕ) (x t : Slot) → vcpu_of t ≡ Some u → (t ≡ x → ⊥) → Aside u x t → ⊥
own_seen u x t own apart (inl p) = apart p
own_seen u x t own apart (inr o) = let e : Some o.whose ≡ Some u = sym o.is ∙ own in o.apart (cc)

common_seen : (u : ℕ) (x t : Slot) → vcpu_of t ≡ None → (t ≡ x → ⊥) → Aside u x t → ⊥
common_seen u x t nobodys apart (inl p) = apart p
common_seen u x t nobodys apart (inr o) = none_some o.whose (sym nobodys ∙ o.is)

-- r is s but for what is aside
pub record Unseen (shape : Shape) (u : ℕ) (x : Slot) (s r : List ℕ) : Type 0 where
  pub room : Room shape r
  pub slots : (t : Slot) → Exists shape t → (Aside u x t → ⊥) → word_at shape t r ≡ word_at shape t s
  pub bits : (m : ℕ) → Exists shape (Spi m) → (Spi m ≡ x → ⊥) → ready_bit shape m r ≡ ready_bit shape m s

pub unseen_none : (shape : Shape) (u : ℕ) (x : Slot) (s : List ℕ) → Room shape s → Unseen shape u x s s
unseen_none shape u x s h = record { room = h; slots = λ t e seen. refl; bits = λ m e apart. refl }

pub unseen_kept : (shape : Shape) (u : ℕ) (x : Slot) (s : List ℕ) → PutKeeps shape (Aside u x) (Unseen shape u x s)
unseen_kept shape u x s t w r e aside h = record {
  room = put_room shape r t w h.room;
  slots = λ y ey seen. put_other shape r y t w ey e (λ p. seen (move p aside)) ∙ h.slots y ey seen;
  bits = λ m em apart. put_ready_other shape r h.room m t w em e (λ p. common_seen u x (Spi m) refl apart (move p aside)) ∙ h.bits m em apart;
}
  where
    move : {y : Slot} → y ≡ t → Aside u x t → Aside u x y
    move {y} p a = subst (Aside u x) (sym p) a

module _ (shape : Shape) (u v n : ℕ) (s r : List ℕ) (exists : u < shape.count) (deep : depth_at shape u s ≤ stack_capacity) (h : Unseen shape u (record_slot v n) s r) where
  abbrev x : Slot
  x = record_slot v n

  value_same : (k : InterfaceValue) → interface_at shape u k r ≡ interface_at shape u k s
  value_same k = ap (kept k) (h.slots (Interface u k) exists (own_seen u x (Interface u k) refl (apart_record (Interface u k) v n refl)))

  on_same : both_on shape u r ≡ both_on shape u s
  on_same =
      λ i. enable_bit (kept_distributor_control (h.slots DistributorControl tt (common_seen u x DistributorControl refl (apart_record DistributorControl v n refl)) i))
      && enable_bit (value_same Control i)

  running_same : running shape u r ≡ running shape u s
  running_same =
      ap running_of (stack_same shape u s r deep
      (h.slots (Interface u Depth) exists (own_seen u x (Interface u Depth) refl (apart_record (Interface u Depth) v n refl)))
      (λ i b. h.slots (Stack u i) (exists, b) (own_seen u x (Stack u i) refl (apart_record (Stack u i) v n refl))))

  -- a number whose record is another
  module _ (m : ℕ) (below : m < shape.limit) (apart : record_slot u m ≡ x → ⊥) where
    record_same : record_at shape u m r ≡ record_at shape u m s
    record_same = go (ltb m 32) refl
      where
        go : (b : Bool) → ltb m 32 ≡ b → record_at shape u m r ≡ record_at shape u m s
        go true e =
            let is = record_private u m e in
            rw is (ap record_of (h.slots (Private u m) (exists, ltb-true m 32 e) (own_seen u x (Private u m) refl (λ p. apart (is ∙ p)))))
        go false e =
            let is = record_spi u m e in
            rw is (ap record_of (h.slots (Spi m) (ltb-false m 32 e, below) (common_seen u x (Spi m) refl (λ p. apart (is ∙ p)))))

    ready_same : ready_at shape u r m ≡ ready_at shape u s m
    ready_same = go (ltb m 32) refl
      where
        go : (b : Bool) → ltb m 32 ≡ b → cond b (is_ready (record_at shape u m r)) (ready_bit shape m r) ≡ cond b (is_ready (record_at shape u m s)) (ready_bit shape m s)
        go true e = ap is_ready record_same
        go false e = h.bits m (ltb-false m 32 e, below) (λ p. apart (record_spi u m e ∙ p))

    candidate_same : candidate shape u r m ≡ candidate shape u s m
    unfolding candidate
    candidate_same = λ i. eligible (value_same PriorityMask i) u m (ready_same i) (record_same i)

  -- so what is offered after, if it is another, was offered before
  ready_before : (c : Candidate) → offer shape u r ≡ Some c → (record_slot u c.intid.0 ≡ x → ⊥) → ready shape u s ≡ true
  ready_before c p apart =
      let is = offer_is shape u r c p in
      let best = best_is shape u r c is.best_one in
      let m = c.intid.0 in
      let priority : c.priority.0 ≡ (record_at shape u m s).priority.0 = best.priority ∙ ap (λ (y : InterruptRecord). y.priority.0) (record_same m best.below apart) in
      preempting_ready shape u s m best.below (sym (candidate_same m best.below apart) ∙ best.chosen)
      (sym (λ i. ltb (group_priority (value_same BinaryPoint i) (priority i)) (running_same i)) ∙ is.preempting_one)
      (sym on_same ∙ is.on)

  -- and wakes nobody
  another_wakes_not : Limits shape → (c : Candidate) → offer shape u r ≡ Some c → (record_slot u c.intid.0 ≡ x → ⊥) → woken shape s r u ≡ false
  another_wakes_not l c p apart = ap (λ (b : Bool). b && gives_number (acknowledge shape u r)) (ready_spurious shape u s l ∙ ap not (ready_before c p apart))

  -- the law: whoever is woken is offered the one whose record it is
  pub only_that_record_wakes : Limits shape → RecordThere shape v n → woken shape s r u ≡ true → (c : Candidate) → offer shape u r ≡ Some c → record_slot u c.intid.0 ≡ record_slot v n
  only_that_record_wakes l there up c p =
      let best = best_is shape u r c (offer_is shape u r c p).best_one in
      same_or_other shape s (record_slot u c.intid.0) (record_slot v n)
      (record_exists shape u c.intid.0 (record { numbered = best.below; banked = λ low. exists })) (record_exists shape v n there)
      (λ e. e) (λ apart. absurd (true≢false (sym up ∙ another_wakes_not l c p apart)))

  -- and who is not for it is not woken
  pub unseen_wakes_not : Limits shape → ((m : ℕ) → m < shape.limit → record_slot u m ≡ record_slot v n → offered u m (record_at shape u m r) ≡ false) → woken shape s r u ≡ false
  unseen_wakes_not l not_for_it = go (offer shape u r) refl
    where
      go : (o : Option Candidate) → offer shape u r ≡ o → woken shape s r u ≡ false
      go None p = ap (λ (y : Option Candidate). is_spurious (acknowledge shape u s) && gives_number (answered shape u r y)) p ∙ unfold answered in and-false (is_spurious (acknowledge shape u s))
      go (Some c) p = another_wakes_not l c p (λ e.
          let best = best_is shape u r c (offer_is shape u r c p).best_one in
          let m = c.intid.0 in
          let for_it = candidate_for_lem shape u r m best.chosen in
          true≢false (sym for_it ∙ not_for_it m best.below e))
