-- What is read of a state is read of its slots, of the count's and the limit's never: words that agree on the others are read alike. Assumes
-- nothing.
use Rattle.std.specs.Prelude.{Option, Some, None}
use mathlib.Core.Path.{◌≡◌, refl, ap, ◌∙◌}
use mathlib.Core.Bool.{Bool, true, false, not, cond, ◌&&◌}
use mathlib.Core.List.{List}
use Prim.Native.Nat.{ℕ, zero, suc, ◌+◌, ◌*◌, ◌/◌, ◌%◌, ◌≤◌, ◌<◌}
use native.Mathlib.Omega.{arith}
use lib.Dec.{eqb, ltb}
use lib.ListN.{get_or}
use borrow.Author.Tests.{ltb-true, ltb-false}
use Rattle.interrupt.specs.Record.{is_ready}
use Rattle.interrupt.specs.declared.record.InterruptRecord.{InterruptRecord}
use Rattle.register.specs.declared.ranges.BitRegister.{BitRegister}
use Rattle.register.specs.declared.ranges.ByteRegister.{ByteRegister}
use Rattle.register.specs.declared.ranges.ByteRegister.TheVariants.{Ipriorityr, Itargetsr, Cpendsgir, Spendsgir}
use Rattle.word.specs.Word.{bit_of, flag, mask_byte, record_of}
use Rattle.word.proofs.Gathered.{gathered_same}
use Rattle.state.specs.declared.layout.Shape.{Shape}
use Rattle.state.specs.declared.layout.InterfaceValue.{InterfaceValue}
use Rattle.state.specs.declared.layout.InterfaceValue.TheVariants.{Control, PriorityMask, BinaryPoint, Depth}
use Rattle.state.specs.Layout.{Slot, DistributorControl, Interface, Sources, Spi, Stack, summary_place, stack_capacity, in_summary, Exists}
use Rattle.state.specs.Words.{word_at, record_slot, RecordThere, record_at, ready_bit, sources_at, kept, interface_at, kept_distributor_control, distributor_control_at, enable_bit, enabled_at}
use Rattle.state.proofs.Accessors.{record_exists}
use Rattle.state.proofs.Places.{Inner, bit_in_summary}
use Rattle.state.proofs.SlotKinds.{record_kind}
use Rattle.bits.specs.Bits.{field_bits, per_word, read_field, read_number, read_bits}
use Rattle.targets.specs.Targets.{own_byte, read_target}
use Rattle.distributor.specs.Bytes.{read_priority, read_byte, read_bytes, ByteThere}
use Rattle.select.specs.declared.Candidate.{Candidate}
use Rattle.select.specs.Select.{eligible, ready_at, candidate, better, best_among, best_below, best, both_on, selected_number, highest_pending}
use Rattle.service.specs.Service.{depth_at, stack_at, running_of, running, is_newest, Sound}
use Rattle.service.proofs.Stacks.{stack_same}
use Rattle.acknowledge.specs.Acknowledge.{group_priority, group_of, preempts, preempting, offer, lowest_source, source_of, answered, acknowledge}
use Rattle.end.specs.End.{served_here, retired, deactivates}
use Rattle.wake.specs.Wake.{is_spurious, gives_number, woken, wake_set}

-- words that agree but for the count and the limit, in the summary as well
pub record Alike (shape : Shape) (r s : List ℕ) : Type 0 where
  pub agree : (t : Slot) → Exists shape t → Inner t → word_at shape t r ≡ word_at shape t s
  pub summary : (k : ℕ) → in_summary shape k ≡ true → get_or r k 0 ≡ get_or s k 0

pub record_inner : (v n : ℕ) → Inner (record_slot v n)
record_inner v n = rw (record_kind v n) (omega arith)

-- what is read under a condition
pub when : {X : Type 0} {x y : X} (b : Bool) (z : X) → (b ≡ true → x ≡ y) → cond b x z ≡ cond b y z
when true z f = f refl
when false z f = refl

module _ {shape : Shape} {r s : List ℕ} (same : Alike shape r s) where
  pub record_alike : (v n : ℕ) → RecordThere shape v n → record_at shape v n r ≡ record_at shape v n s
  record_alike v n there = ap record_of (same.agree (record_slot v n) (record_exists shape v n there) (record_inner v n))

  pub control_alike : distributor_control_at shape r ≡ distributor_control_at shape s
  control_alike = ap kept_distributor_control (same.agree DistributorControl tt (omega arith))

  pub bit_alike : (n : ℕ) → Exists shape (Spi n) → ready_bit shape n r ≡ ready_bit shape n s
  unfolding ready_bit
  bit_alike n e = ap (flag (n % 32)) (same.summary (summary_place shape n) (bit_in_summary shape n e))

  pub enabled_alike : enabled_at shape r ≡ enabled_at shape s
  enabled_alike = ap enable_bit control_alike

  -- the Distributor's registers
  pub bits_alike : (register : BitRegister) (v first : ℕ) → (first < 32 → v < shape.count) → read_bits shape register v first r ≡ read_bits shape register v first s
  unfolding read_bits read_number
  bits_alike register v first banked =
      gathered_same (field_bits register) (λ i. read_number shape register v r (first + i)) (λ i. read_number shape register v s (first + i)) (per_word register)
      (λ i h. when (ltb (first + i) shape.limit) 0
      (λ e. ap (read_field register) (record_alike v (first + i) (record { numbered = ltb-true (first + i) shape.limit e; banked = λ low. banked (omega arith) }))))

  byte_alike : (register : ByteRegister) (v n : ℕ) → ByteThere shape register v n → read_byte shape register v r n ≡ read_byte shape register v s n
  unfolding read_priority read_target
  byte_alike Ipriorityr v n there =
      when (ltb n shape.limit) 0 (λ e. ap (λ (q : InterruptRecord). q.priority.0) (record_alike v n (record { numbered = ltb-true n shape.limit e; banked = there })))
  byte_alike Itargetsr v n there = go (ltb n 32) refl
    where
      go : (b : Bool) → ltb n 32 ≡ b
          → cond b (own_byte v) (cond (ltb n shape.limit) (mask_byte (record_at shape v n r).cpu_target_mask) 0)
          ≡ cond b (own_byte v) (cond (ltb n shape.limit) (mask_byte (record_at shape v n s).cpu_target_mask) 0)
      go true p = refl
      go false p =
          let shared : 32 ≤ n = ltb-false n 32 p in
          when (ltb n shape.limit) 0
          (λ e. ap (λ (q : InterruptRecord). mask_byte q.cpu_target_mask) (record_alike v n (record { numbered = ltb-true n shape.limit e; banked = λ low. absurd (omega arith) })))
  byte_alike Cpendsgir v n there = ap (λ (w : ℕ). w % 256) (same.agree (Sources v n) there (omega arith))
  byte_alike Spendsgir v n there = ap (λ (w : ℕ). w % 256) (same.agree (Sources v n) there (omega arith))

  pub bytes_alike : (register : ByteRegister) (v first count : ℕ) → ((i : ℕ) → i < count → ByteThere shape register v (first + i))
      → read_bytes shape register v first count r ≡ read_bytes shape register v first count s
  unfolding read_bytes
  bytes_alike register v first count there =
      gathered_same 8 (λ i. read_byte shape register v r (first + i)) (λ i. read_byte shape register v s (first + i)) count (λ i h. byte_alike register v (first + i) (there i h))

  -- a vCPU's
  module _ (v : ℕ) (exists : v < shape.count) where
    there : {n : ℕ} → n < shape.limit → RecordThere shape v n
    there below = record { numbered = below; banked = λ low. exists }

    pub interface_alike : (k : InterfaceValue) → interface_at shape v k r ≡ interface_at shape v k s
    interface_alike k = ap (kept k) (same.agree (Interface v k) exists (omega arith))

    pub sources_alike : (n : ℕ) → n < 16 → sources_at shape v n r ≡ sources_at shape v n s
    sources_alike n sgi = ap (λ (w : ℕ). w % 256) (same.agree (Sources v n) (exists, sgi) (omega arith))

    ready_alike : (n : ℕ) → n < shape.limit → ready_at shape v r n ≡ ready_at shape v s n
    ready_alike n h = go (ltb n 32) refl
      where
        go : (b : Bool) → ltb n 32 ≡ b → cond b (is_ready (record_at shape v n r)) (ready_bit shape n r) ≡ cond b (is_ready (record_at shape v n s)) (ready_bit shape n s)
        go true e = ap is_ready (record_alike v n (there h))
        go false e = bit_alike n (ltb-false n 32 e, h)

    best_alike : (n : ℕ) → n ≤ shape.limit → best_below shape v r n ≡ best_below shape v s n
    unfolding best_among candidate
    best_alike zero h = refl
    best_alike (suc n) h =
        let own : record_at shape v n r ≡ record_at shape v n s = record_alike v n (there (omega arith)) in
        λ i. better (eligible (interface_alike PriorityMask i) v n (ready_alike n (omega arith) i) (own i)) (record { intid = record { 0 = n }; priority = (own i).priority }) (best_alike n (omega arith) i)

    both_alike : both_on shape v r ≡ both_on shape v s
    both_alike = λ i. enabled_alike i && enable_bit (interface_alike Control i)

    pub highest_alike : highest_pending shape v r ≡ highest_pending shape v s
    unfolding highest_pending
    highest_alike = λ i. cond (both_alike i) (selected_number (best_alike shape.limit (omega arith) i)) 1023

    pub source_of_alike : (n : ℕ) → source_of shape v n r ≡ source_of shape v n s
    unfolding source_of
    source_of_alike n = when (ltb n 16) 0 (λ e. ap lowest_source (sources_alike n (ltb-true n 16 e)))

    pub group_of_alike : (c : Candidate) → group_of shape v r c ≡ group_of shape v s c
    group_of_alike c = ap (λ (b : ℕ). group_priority b c.priority.0) (interface_alike BinaryPoint)

    -- a test of a record, where there is one
    pub tested_alike : (n : ℕ) (c : InterruptRecord → Bool) → (ltb n shape.limit && c (record_at shape v n r)) ≡ (ltb n shape.limit && c (record_at shape v n s))
    tested_alike n c = go (ltb n shape.limit) refl
      where
        go : (b : Bool) → ltb n shape.limit ≡ b → (b && c (record_at shape v n r)) ≡ (b && c (record_at shape v n s))
        go true e = ap c (record_alike v n (there (ltb-true n shape.limit e)))
        go false e = refl

    pub retired_alike : (n : ℕ) → retired shape v n r ≡ retired shape v n s
    unfolding retired
    retired_alike n = ap (λ (b : Bool). cond b n 1023) (tested_alike n (served_here v))

    -- and of its stack, which holds what it can
    module _ (deep : depth_at shape v s ≤ stack_capacity) where
      pub stack_alike : stack_at shape v r ≡ stack_at shape v s
      stack_alike = stack_same shape v s r deep (same.agree (Interface v Depth) exists (omega arith)) (λ i h. same.agree (Stack v i) (exists, h) (omega arith))

      pub running_alike : running shape v r ≡ running shape v s
      running_alike = ap running_of stack_alike

      pub deactivates_alike : (n : ℕ) → deactivates shape v n r ≡ deactivates shape v n s
      deactivates_alike n = λ i. is_newest n (stack_alike i) && not (eqb (interface_alike Control i / 512 % 2) 1)

      preempts_alike : (c : Candidate) → preempts shape v r c ≡ preempts shape v s c
      preempts_alike c = λ i. ltb (group_of_alike c i) (running_alike i)

      preempting_alike : (b : Option Candidate) → preempting shape v r b ≡ preempting shape v s b
      preempting_alike None = refl
      preempting_alike (Some c) = ap (λ (q : Bool). cond q (Some c) None) (preempts_alike c)

      pub offer_alike : offer shape v r ≡ offer shape v s
      unfolding offer
      offer_alike =
          (λ i. cond (both_alike i) (preempting shape v r (best_alike shape.limit (omega arith) i)) None)
          ∙ ap (λ (b : Option Candidate). cond (both_on shape v s) b None) (preempting_alike (best shape v s))

      answered_alike : (b : Option Candidate) → answered shape v r b ≡ answered shape v s b
      unfolding answered
      answered_alike None = refl
      answered_alike (Some e) = λ i. cond (ltb (interface_alike Depth i) stack_capacity) (Some (e.intid.0 + 1024 * source_of_alike e.intid.0 i)) None

      pub acknowledge_alike : acknowledge shape v r ≡ acknowledge shape v s
      acknowledge_alike = answered_alike (offer shape v r) ∙ ap (answered shape v s) offer_alike

-- the wake set, before and after a call
pub wakes_alike : {shape : Shape} {before before₁ after after₁ : List ℕ} → Alike shape before before₁ → Alike shape after after₁ → Sound shape before₁ → Sound shape after₁
    → wake_set shape before after ≡ wake_set shape before₁ after₁
unfolding wake_set
wakes_alike {shape} {before} {before₁} {after} {after₁} same same₁ h h₁ =
    gathered_same 1 (λ v. bit_of (woken shape before after v)) (λ v. bit_of (woken shape before₁ after₁ v)) shape.count
    (λ v exists i. bit_of (is_spurious (acknowledge_alike same v exists (h.depths v exists) i) && gives_number (acknowledge_alike same₁ v exists (h₁.depths v exists) i)))
