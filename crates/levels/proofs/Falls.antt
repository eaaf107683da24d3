-- An acknowledge raises no line: what a vCPU could be given after it, it could be given before; and the one that was given something can be
-- given nothing at once, since all that waits for it is less urgent than what it now serves, or of its group. Assumes nothing.
use Rattle.std.specs.Prelude.{Option, Some, None}
use mathlib.Core.Path.{◌≡◌, refl, sym, ap, subst, ◌∙◌}
use mathlib.Core.Bool.{Bool, true, false, not, cond, ◌&&◌, and-false, true≢false}
use mathlib.Core.List.{List}
use Prim.Native.Nat.{ℕ, ◌≤◌, ◌<◌}
use native.Mathlib.Omega.{arith}
use lib.Dec.{eqb, ltb}
use borrow.Author.Tests.{ltb-true, ltb-false, lt-ltb, eqb-true, eqb-false}
use Rattle.interrupt.specs.declared.record.InterruptRecord.{InterruptRecord}
use Rattle.interrupt.specs.Record.{is_ready, synchronize_inflight, set_state, set_owner, mark_inflight, set_pending}
use Rattle.state.specs.declared.layout.Shape.{Shape}
use Rattle.state.specs.declared.layout.InterfaceValue.{InterfaceValue}
use Rattle.state.specs.declared.layout.InterfaceValue.TheVariants.{Control, PriorityMask, BinaryPoint, Depth}
use Rattle.word.specs.Word.{record_of}
use Rattle.word.proofs.Cases.{same_or}
use Rattle.state.specs.Layout.{Slot, DistributorControl, Interface, Sources, Stack, Limits, number_of, interface_number, stack_capacity}
use Rattle.state.specs.Words.{word_at, record_slot, sources_at, record_at, ready_bit, kept, interface_at, kept_distributor_control, enable_bit, enabled_at}
use Rattle.state.proofs.Accessors.{record_spi, records_apart}
use Rattle.state.proofs.Ready.{ExactAt}
use Rattle.state.proofs.SlotKinds.{kinds_apart, apart_record}
use Rattle.state.proofs.Tests.{left_true, right_true}
use Rattle.select.specs.declared.Candidate.{Candidate}
use Rattle.select.specs.Select.{eligible, ready_at, candidate, both_on, IsBest}
use Rattle.select.proofs.Meaning.{candidate_is_ready, best_is}
use Rattle.service.specs.Service.{depth_at, running_of, running, Sound}
use Rattle.acknowledge.specs.Acknowledge.{group_priority, group_of, offer, given_record, given, Givable}
use Rattle.acknowledge.proofs.Grouping.{group_in_order}
use Rattle.acknowledge.proofs.Offers.{offer_is, pushed_byte}
use Rattle.delivery.proofs.Given.{given_others, given_bit, given_bits, given_depths, given_records, given_stack, given_stacks, given_record_lem, given_sgi}
use Rattle.moves.specs.Moves.{Giving}
use Rattle.moves.proofs.Slots.{givable}
use Rattle.wake.specs.Halves.{is_some, ready}
use Rattle.wake.proofs.Readiness.{preempting_ready, ready_number}
use Rattle.look.specs.Look.{line_level}

-- what is given is active, an SGI with sources left too
given_is_active : (v : ℕ) (r : InterruptRecord) (b : Bool) → (cond b (given_record v r) (set_pending (given_record v r) true)).active ≡ true
unfolding given_record synchronize_inflight set_state set_owner mark_inflight set_pending
given_is_active v r true = refl
given_is_active v r false = refl

module _ (shape : Shape) (v : ℕ) (e : Candidate) (s : List ℕ) (h : Sound shape s) (g : Giving shape v e s) where
  abbrev after : List ℕ
  after = given shape v e s

  it : Givable shape v e s
  it = givable shape s h v e g

  active_after : (record_at shape v e.intid.0 after).active ≡ true
  active_after = go (ltb e.intid.0 16) refl
    where
      go : (b : Bool) → ltb e.intid.0 16 ≡ b → (record_at shape v e.intid.0 after).active ≡ true
      go true p = ap (λ (r : InterruptRecord). r.active) (given_sgi shape v e s it (ltb-true e.intid.0 16 p)) ∙ given_is_active v (record_at shape v e.intid.0 s) (eqb (sources_at shape v e.intid.0 after) 0)
      go false p = ap (λ (r : InterruptRecord). r.active) (given_record_lem shape v e s it (ltb-false e.intid.0 16 p)) ∙ given_is_active v (record_at shape v e.intid.0 s) true

  -- a vCPU's switches and mask stay
  module _ (u : ℕ) (exists : u < shape.count) where
    value_stays : (k : InterfaceValue) → eqb (interface_number k) (interface_number Depth) ≡ false → interface_at shape u k after ≡ interface_at shape u k s
    value_stays k apart =
        ap (kept k)
        (given_others shape v e s it (Interface u k) exists (apart_record (Interface u k) v e.intid.0 refl) (kinds_apart (Interface u k) (Sources v e.intid.0) refl)
        (λ p. eqb-false (interface_number k) (interface_number Depth) apart (ap number_of p))
        (kinds_apart (Interface u k) (Stack v (depth_at shape v s)) refl))

    switch_stays : enabled_at shape after ≡ enabled_at shape s
    switch_stays =
        ap (λ (w : ℕ). enable_bit (kept_distributor_control w))
        (given_others shape v e s it DistributorControl tt (apart_record DistributorControl v e.intid.0 refl) (kinds_apart DistributorControl (Sources v e.intid.0) refl)
        (kinds_apart DistributorControl (Interface v Depth) refl)
        (kinds_apart DistributorControl (Stack v (depth_at shape v s)) refl))

    on_stays : both_on shape u after ≡ both_on shape u s
    on_stays = λ i. switch_stays i && enable_bit (value_stays Control refl i)

    -- who is a candidate after it was one before, of the same priority
    module _ (n : ℕ) (below : n < shape.limit) (chosen : candidate shape u after n ≡ true) where
      -- what is given is not ready, by its record and by its bit
      not_given : record_slot u n ≡ record_slot v e.intid.0 → ⊥
      not_given p = true≢false (sym (candidate_is_ready shape u after n chosen) ∙ go (ltb n 32) refl)
        where
          unready : is_ready (record_at shape u n after) ≡ false
          unready =
              ap (λ (t : Slot). is_ready (record_of (word_at shape t after))) p
              ∙ ap (λ (b : Bool). (record_at shape v e.intid.0 after).enabled && (record_at shape v e.intid.0 after).pending && not b) active_after ∙ and-false ((record_at shape v e.intid.0 after).enabled && (record_at shape v e.intid.0 after).pending)

          number : n ≡ e.intid.0
          number = same_or n e.intid.0 (λ q. q) (λ d. absurd (records_apart u v n e.intid.0 d p))

          go : (b : Bool) → ltb n 32 ≡ b → cond b (is_ready (record_at shape u n after)) (ready_bit shape n after) ≡ false
          go true q = unready
          go false q =
              subst (λ (k : ℕ). ExactAt shape k after) (sym number) (given_bit shape v e s it (rw number at (ltb-false n 32 q)))
              ∙ ap (λ (t : Slot). is_ready (record_of (word_at shape t after))) (sym (record_spi u n q)) ∙ unready

      record_stays : record_at shape u n after ≡ record_at shape u n s
      record_stays = given_records shape v e s it u n (record { numbered = below; banked = λ low. exists }) not_given

      ready_stays : ready_at shape u after n ≡ ready_at shape u s n
      ready_stays = go (ltb n 32) refl
        where
          go : (b : Bool) → ltb n 32 ≡ b → cond b (is_ready (record_at shape u n after)) (ready_bit shape n after) ≡ cond b (is_ready (record_at shape u n s)) (ready_bit shape n s)
          go true q = ap is_ready record_stays
          go false q = given_bits shape v e s it n (ltb-false n 32 q, below) (λ p. not_given (record_spi u n q ∙ p))

      candidate_before : candidate shape u s n ≡ true
      unfolding candidate
      candidate_before = sym (λ i. eligible (value_stays PriorityMask refl i) u n (ready_stays i) (record_stays i)) ∙ chosen

    -- what is offered after the acknowledge
    module _ (c : Candidate) (offered : offer shape u after ≡ Some c) where
      best_after : IsBest shape u after shape.limit c
      best_after = best_is shape u after c (offer_is shape u after c offered).best_one

      was : candidate shape u s c.intid.0 ≡ true
      was = candidate_before c.intid.0 best_after.below best_after.chosen

      urgent : c.priority.0 ≡ (record_at shape u c.intid.0 s).priority.0
      urgent = best_after.priority ∙ ap (λ (r : InterruptRecord). r.priority.0) (record_stays c.intid.0 best_after.below best_after.chosen)

      -- its group priority, by the binary point as it was
      abbrev group : ℕ
      group = group_priority (interface_at shape u BinaryPoint s) (record_at shape u c.intid.0 s).priority.0

      ahead : group < running shape u after
      ahead =
          subst (λ (p : ℕ). p < running shape u after) (λ i. group_priority (value_stays BinaryPoint refl i) (urgent i))
          (ltb-true (group_of shape u after c) (running shape u after) (offer_is shape u after c offered).preempting_one)

      -- to another vCPU could be given before
      others_ready : (u ≡ v → ⊥) → ready shape u s ≡ true
      others_ready apart =
          let same : running shape u after ≡ running shape u s = ap running_of (given_stacks shape v e s it u exists apart (h.depths u exists)) in
          preempting_ready shape u s c.intid.0 best_after.below was
          (lt-ltb group (running shape u s) (rw same at ahead))
          (sym on_stays ∙ (offer_is shape u after c offered).on)

  -- and to the one that acknowledged is nothing
  own_nothing : (c : Candidate) → offer shape v after ≡ Some c → ⊥
  own_nothing c offered =
      let here : v < shape.count = g.exists in
      let low : e.intid.0 < shape.limit = it.numbered in
      let serves : running shape v after ≡ group_of shape v s e = ap running_of (given_stack shape v e s it (omega (arith, low, h.state.limits.few_numbers)) (pushed_byte shape v s e g.offered)) in
      let best = best_is shape v s e (offer_is shape v s e g.offered).best_one in
      let least : e.priority.0 ≤ (record_at shape v c.intid.0 s).priority.0 = best.smallest c.intid.0 (best_after v here c offered).below (was v here c offered) in
      omega (arith, group_in_order (interface_at shape v BinaryPoint s) e.priority.0 (record_at shape v c.intid.0 s).priority.0 least, rw serves at (ahead v here c offered))

  pub own_falls : line_level shape v after ≡ false
  own_falls = ready_number shape v after h.state.limits ∙ unfold ready in go (offer shape v after) refl
    where
      go : (o : Option Candidate) → offer shape v after ≡ o → (is_some o && ltb (depth_at shape v after) stack_capacity) ≡ false
      go None p = refl
      go (Some c) p = absurd (own_nothing c p)

  -- so nobody's line rises
  pub falls : (u : ℕ) → u < shape.count → line_level shape u after ≡ true → line_level shape u s ≡ true
  falls u exists up = other (eqb u v) refl (offer shape u after) refl
    where
      l : Limits shape
      l = h.state.limits

      number_after : (ready shape u after && ltb (depth_at shape u after) stack_capacity) ≡ true
      number_after = sym (ready_number shape u after l) ∙ up

      room : (u ≡ v → ⊥) → ltb (depth_at shape u s) stack_capacity ≡ true
      room apart = ap (λ (d : ℕ). ltb d stack_capacity) (sym (given_depths shape v e s it u exists apart)) ∙ right_true (ready shape u after) (ltb (depth_at shape u after) stack_capacity) number_after

      other : (b : Bool) → eqb u v ≡ b → (o : Option Candidate) → offer shape u after ≡ o → line_level shape u s ≡ true
      other b q None p = absurd (true≢false (sym (left_true (ready shape u after) (ltb (depth_at shape u after) stack_capacity) number_after) ∙ unfold ready in ap is_some p))
      other true q (Some c) p = absurd (own_nothing c (subst (λ (k : ℕ). offer shape k after ≡ Some c) (eqb-true u v q) p))
      other false q (Some c) p =
          let apart = eqb-false u v q in
          ready_number shape u s l ∙ (λ i. others_ready u exists c p apart i && room apart i)
