-- A canonical state stays one under every access to a CPU interface: no word gets a bit that counts for nothing, and past a stack's newest
-- entry there is only 0. Assumes nothing.
use mathlib.Core.Path.{◌≡◌, refl, ◌∙◌}
use mathlib.Core.Bool.{Bool, true, false, cond}
use mathlib.Core.List.{List}
use Prim.Native.Nat.{ℕ, ◌+◌, ◌-◌, ◌^◌, ◌≤◌, ◌<◌}
use native.Mathlib.Nat.{lt_of_le_of_lt}
use native.Mathlib.Omega.{arith}
use lib.Bits.{and_le_l}
use lib.Dec.{eqb, ltb}
use borrow.Author.Tests.{ltb-true}
use Rattle.interrupt.specs.Record.{set_pending}
use Rattle.interrupt.specs.Types.{every_vcpu}
use Rattle.interrupt.specs.declared.record.InterruptRecord.{InterruptRecord}
use Rattle.register.specs.declared.cpu_interface.CpuInterfaceRegister.{CpuInterfaceRegister}
use Rattle.word.specs.Word.{word_of, InRange}
use Rattle.word.proofs.Cases.{same_or}
use Rattle.word.proofs.RecordWord.{decoded_in_range}
use Rattle.state.specs.declared.layout.Shape.{Shape}
use Rattle.state.specs.declared.layout.InterfaceValue.TheVariants.{Depth}
use Rattle.state.specs.declared.words.Entry.{Entry}
use Rattle.state.specs.Layout.{Interface, Sources, Stack, Exists, Room, stack_capacity}
use Rattle.state.specs.Words.{word_at, record_slot, RecordThere, record_at, changed, sources_at, with_interface, without_entry, enabled_at, Canonical}
use Rattle.state.proofs.Accessors.{put_room, put_same, put_other, record_exists}
use Rattle.state.proofs.Canonical.{record_canonical, sources_canonical, interface_canonical, entry_canonical, cleared_canonical, depth_canonical}
use Rattle.sgi.specs.Sgi.{merged_sources}
use Rattle.select.specs.declared.Candidate.{Candidate}
use Rattle.service.specs.Service.{depth_at, pushed, popped, Served, Sound}
use Rattle.service.proofs.Soundness.{sound_served}
use Rattle.service.proofs.Stacks.{pushed_room, popped_served}
use Rattle.acknowledge.specs.Acknowledge.{source_of, pend_if_left, without_source, source_taken, given_record, pushed_for, given, acknowledged, Givable}
use Rattle.acknowledge.proofs.Offers.{pushed_byte}
use Rattle.end.specs.End.{deactivated, ended}
use Rattle.cpu_interface.specs.CpuInterface.{after_read, write_register, read_register_looks_up, write_register_looks_up}
use Rattle.delivery.proofs.Answers.{acknowledged-cases}
use Rattle.delivery.proofs.Deactivation.{deactivated_cases}
use Rattle.delivery.proofs.Ended.{ended_keeps}
use Rattle.delivery.proofs.Registers.{read_cases, write_cases}
use Rattle.delivery.proofs.Given.{given_in_range, pending_in_range}

-- a transition that keeps a record in range keeps the state canonical
module _ (shape : Shape) (v n : ℕ) (there : RecordThere shape v n) (f : InterruptRecord → InterruptRecord) (keeps : (r : InterruptRecord) → InRange r → InRange (f r)) where
  changed_canonical : (s : List ℕ) → Room shape s → Canonical shape s → Canonical shape (changed shape v n f s)
  changed_canonical s h c =
      record_canonical shape s h c v n (f (record_at shape v n s)) (record_exists shape v n there) (keeps (record_at shape v n s) (decoded_in_range (word_at shape (record_slot v n) s)))

module _ (shape : Shape) (v : ℕ) (s : List ℕ) (h : Served shape v s) (c : Canonical shape s) where
  -- the depth first, then the entry below it
  pub pushed_canonical : (e : Entry) → depth_at shape v s < stack_capacity → e.priority.0 < 256 → Canonical shape (pushed shape v e s)
  unfolding pushed
  pushed_canonical e room byte =
      let d : ℕ = depth_at shape v s in
      let deeper = with_interface shape v Depth (d + 1) s in
      entry_canonical shape deeper (put_room shape s (Interface v Depth) (d + 1) h.state)
      (depth_canonical shape s h.state c v (d + 1) h.exists (λ i a b. c.cleared v i h.exists (omega arith) b))
      v d e (h.exists, room) (rw (put_same shape s (Interface v Depth) (d + 1) h.state h.exists) (omega arith)) byte

  -- the entry first, then the depth
  pub popped_canonical : 0 < depth_at shape v s → Canonical shape (popped shape v s)
  unfolding popped
  popped_canonical some =
      let d : ℕ = depth_at shape v s - 1 in
      let deep : depth_at shape v s ≤ stack_capacity = h.deep in
      let slot : Exists shape (Stack v d) = (h.exists, omega arith) in
      depth_canonical shape (without_entry shape v d s) (put_room shape s (Stack v d) 0 h.state) (cleared_canonical shape s h.state c v d slot) v d h.exists
      (λ i a b. same_or i d
      (λ p. rw p (put_same shape s (Stack v d) 0 h.state slot))
      (λ apart. put_other shape s (Stack v i) (Stack v d) 0 (h.exists, b) slot (λ p. apart (cc)) ∙ c.cleared v i h.exists (omega arith) b))

  pub deactivated_canonical : (n : ℕ) → Canonical shape (deactivated shape v n s)
  deactivated_canonical n =
      deactivated_cases shape v n s h.state h.exists (Canonical shape) c
      (λ b f keeps. changed_canonical shape v n (record { numbered = b; banked = λ p. h.exists }) f keeps s h.state c)

-- a source taken, and pending again
module _ (shape : Shape) (v n source : ℕ) (there : RecordThere shape v n) (s : List ℕ) (h : Room shape s) (c : Canonical shape s) where
  taken_canonical : Canonical shape (source_taken shape v n source s)
  unfolding source_taken pend_if_left
  taken_canonical = go (ltb n 16) refl
    where
      after : List ℕ
      after = without_source shape v n source s

      room : Room shape after
      room = put_room shape s (Sources v n) (merged_sources false (sources_at shape v n s) (2 ^ source)) h

      pend : Canonical shape after → (b : Bool) → Canonical shape (cond b after (changed shape v n (λ r. set_pending r true) after))
      pend d true = d
      pend d false = changed_canonical shape v n there (λ r. set_pending r true) pending_in_range after room d

      go : (b : Bool) → ltb n 16 ≡ b → Canonical shape (cond b (pend_if_left shape v n after) s)
      go true e =
          let sgi : n < 16 = ltb-true n 16 e in
          pend
          (sources_canonical shape s h c v n (merged_sources false (sources_at shape v n s) (2 ^ source)) (there.banked (omega arith), sgi)
          (lt_of_le_of_lt (and_le_l (sources_at shape v n s) (every_vcpu - 2 ^ source)) (omega arith)))
          (eqb (sources_at shape v n after) 0)
      go false e = c

module _ (shape : Shape) (v : ℕ) (s : List ℕ) (h : Served shape v s) (c : Canonical shape s) where
  pub given_canonical : (e : Candidate) → Givable shape v e s → (pushed_for shape v s e).priority.0 < 256 → Canonical shape (given shape v e s)
  unfolding given
  given_canonical e g byte =
      let n : ℕ = e.intid.0 in
      let there : RecordThere shape v n = record { numbered = g.numbered; banked = λ p. h.exists } in
      let few = h.state.limits.few_vcpus in
      let here : v < shape.count = h.exists in
      let room = pushed_room shape v (pushed_for shape v s e) s h g.room in
      taken_canonical shape v n (source_of shape v n s) there (changed shape v n (given_record v) (pushed shape v (pushed_for shape v s e) s))
      (put_room shape (pushed shape v (pushed_for shape v s e) s) (record_slot v n) (word_of (given_record v (record_at shape v n (pushed shape v (pushed_for shape v s e) s)))) room)
      (changed_canonical shape v n there (given_record v) (λ r i. given_in_range v r (omega (arith, few, here)) i) (pushed shape v (pushed_for shape v s e) s) room (pushed_canonical shape v s h c (pushed_for shape v s e) g.room byte))

  pub acknowledged_canonical : Canonical shape (acknowledged shape v s)
  acknowledged_canonical =
      acknowledged-cases shape v s h (Canonical shape) c
      (λ e p g. given_canonical e g (pushed_byte shape v s e p))

  pub ended_canonical : (n : ℕ) → Canonical shape (ended shape v n s)
  ended_canonical n =
      ended_keeps shape v n s h (Canonical shape) c (popped_canonical shape v s h c)
      (λ some pop. deactivated_canonical shape v (popped shape v s) (popped_served shape v s h some) pop n)

-- every read and write, by a vCPU that exists where it is looked up
module _ (shape : Shape) (v : ℕ) (s : List ℕ) (h : Sound shape s) (c : Canonical shape s) where
  pub read_canonical : (register : CpuInterfaceRegister) → (read_register_looks_up register (enabled_at shape s) ≡ true → v < shape.count) → Canonical shape (after_read shape v register s)
  read_canonical = read_cases shape v s (Canonical shape) c (λ x. acknowledged_canonical shape v s (sound_served v h x) c)

  pub write_canonical : (register : CpuInterfaceRegister) (value : ℕ) → (write_register_looks_up register value ≡ true → v < shape.count) → Canonical shape (write_register shape v register value s)
  write_canonical register value =
      write_cases shape v s (Canonical shape) c value
      (λ x k off. interface_canonical shape s h.state c v k value x off)
      (λ x n. ended_canonical shape v s (sound_served v h x) c n)
      (λ x n. deactivated_canonical shape v s (sound_served v h x) c n)
      register
