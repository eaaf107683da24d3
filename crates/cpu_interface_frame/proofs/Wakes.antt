-- A write to a CPU interface wakes at the most its own vCPU, and whom the record is for that it deactivates. In any words. Assumes nothing.
use Rattle.std.specs.Prelude.{Option, Some, None}
use mathlib.Core.Path.{◌≡◌, refl, ap, ◌∙◌}
use mathlib.Core.Bool.{Bool, true, false, cond}
use mathlib.Core.List.{List}
use mathlib.Core.Logic.{inl, inr}
use Prim.Native.Nat.{ℕ, ◌/◌, ◌%◌, ◌-◌, ◌^◌, ◌≤◌, ◌<◌, max}
use native.Mathlib.Omega.{arith}
use lib.Bits.{bit_or, or_step, or_shr}
use lib.Dec.{eqb, ltb}
use borrow.Author.Tests.{eqb-false, ne_eqb}
use Rattle.interrupt.specs.Types.{decoded, is_valid}
use Rattle.interrupt.specs.Record.{set_owner, deactivate_inflight, complete}
use Rattle.interrupt.specs.declared.record.InterruptRecord.{InterruptRecord}
use Rattle.word.specs.Word.{record_of, word_of}
use Rattle.state.specs.declared.layout.Shape.{Shape}
use Rattle.state.specs.declared.layout.InterfaceValue.TheVariants.{Depth}
use Rattle.state.specs.Layout.{Slot, Interface, Stack, Room, vcpu_of}
use Rattle.state.specs.Words.{kept, record_slot, RecordThere, record_at}
use Rattle.state.proofs.Accessors.{put_other, record_exists}
use Rattle.state.proofs.SlotKinds.{record_apart}
use Rattle.targets.specs.Targets.{own_byte, read_target}
use Rattle.service.specs.Service.{depth_at, stack_at, is_newest, popped, Served, Sound}
use Rattle.service.proofs.Soundness.{sound_served}
use Rattle.service.proofs.Stacks.{popped_keeps, popped_room, popped_others, newest_some}
use Rattle.end.specs.End.{served_here, only_active, retire, deactivated, eoi_mode, ended, eoi_state, dir_state, decoded_eoi}
use Rattle.cpu_interface.specs.CpuInterface.{WriteRule, Ignored, Keeps, Ends, Deactivates, rule_of, write_by, write_by_looks_up, write_register, write_register_looks_up}
use Rattle.register.specs.declared.cpu_interface.CpuInterfaceRegister.{CpuInterfaceRegister}
use Rattle.delivery.specs.Delivery.{deactivate}
use Rattle.delivery.proofs.Deactivation.{deactivated_cases, deactivated_record}
use Rattle.delivery.proofs.Ended.{ended_unchanged, ended_popped, ended_deactivated}
use Rattle.wake.specs.Halves.{quiet_among, wake_from}
use Rattle.wake.specs.Wake.{woken, wake_set}
use Rattle.wake.proofs.Unseen.{Aside, Unseen, unseen_none, unseen_kept, unseen_wakes_not}
use Rattle.wake.proofs.Seen.{own_bit, not_for_it}
use Rattle.wake.proofs.WakeSets.{wake_among}
use Rattle.cpu_interface_frame.specs.Seers.{write_seers}
use Rattle.interrupt.specs.declared.types.IntId.{IntId}

-- a bit that neither of two bytes has
or_bit : (a b u : ℕ) → bit_or a b / 2 ^ u % 2 ≡ max (a / 2 ^ u % 2) (b / 2 ^ u % 2)
or_bit a b u = rw (or_shr a b u, or_step (a / 2 ^ u) (b / 2 ^ u)) (omega arith)

first_clear : (a b u : ℕ) → eqb (bit_or a b / 2 ^ u % 2) 1 ≡ false → eqb (a / 2 ^ u % 2) 1 ≡ false
first_clear a b u e = let d = eqb-false (bit_or a b / 2 ^ u % 2) 1 e in ne_eqb (a / 2 ^ u % 2) 1 (λ p. d (or_bit a b u ∙ omega arith))

second_clear : (a b u : ℕ) → eqb (bit_or a b / 2 ^ u % 2) 1 ≡ false → eqb (b / 2 ^ u % 2) 1 ≡ false
second_clear a b u e = let d = eqb-false (bit_or a b / 2 ^ u % 2) 1 e in ne_eqb (b / 2 ^ u % 2) 1 (λ p. d (or_bit a b u ∙ omega arith))

-- a deactivation leaves the mask
mask_stays : (v : ℕ) (r : InterruptRecord) → (deactivate v r).cpu_target_mask ≡ r.cpu_target_mask
unfolding retire set_owner deactivate_inflight complete
mask_stays v r = go (served_here v r) (only_active r)
  where
    go : (a b : Bool) → (cond a (retire r) (cond b (complete r) r)).cpu_target_mask ≡ r.cpu_target_mask
    go true b = refl
    go false true = refl
    go false false = refl

module _ (shape : Shape) (v n : ℕ) (s : List ℕ) (h : Sound shape s) (u : ℕ) (exists : u < shape.count)
    (own : eqb (own_byte v / 2 ^ u % 2) 1 ≡ false) (seen : eqb (read_target shape v s n / 2 ^ u % 2) 1 ≡ false) where
  -- nothing is done but aside of u, and the mask of the number stays
  record Aloof (r : List ℕ) : Type 0 where
    pub unseen : Unseen shape u (record_slot v n) s r
    pub mask : 32 ≤ n → n < shape.limit → (record_at shape v n r).cpu_target_mask ≡ (record_at shape v n s).cpu_target_mask

  aloof_wakes : (r : List ℕ) → Aloof r → woken shape s r u ≡ false
  aloof_wakes r a =
      unseen_wakes_not shape u v n s r exists (h.depths u exists) a.unseen h.state.limits (not_for_it shape v u n s seen (omega (arith, exists, h.state.limits.few_vcpus)) r a.mask)

  idle : Aloof s
  idle = record { unseen = unseen_none shape u (record_slot v n) s h.state; mask = λ high below. refl }

  -- .. where the vCPU exists
  module _ (there : v < shape.count) where
    few : v < 8
    few = omega (arith, h.state.limits.few_vcpus)

    others : (t : Slot) → vcpu_of t ≡ Some v → Aside u (record_slot v n) t
    others t e = inr (record { whose = v; is = e; apart = own_bit v u few own })

    numbered : n < shape.limit → RecordThere shape v n
    numbered b = record { numbered = b; banked = λ low. there }

    deactivation : (r : List ℕ) → Room shape r → Aloof r → Aloof (deactivated shape v n r)
    deactivation r room a = record {
      unseen = deactivated_cases shape v n r room there (Unseen shape u (record_slot v n) s) a.unseen
          (λ b f k. unseen_kept shape u (record_slot v n) s (record_slot v n) (word_of (f (record_at shape v n r))) r (record_exists shape v n (numbered b)) (inl refl) a.unseen);
      mask = λ high below. ap (λ (x : InterruptRecord). x.cpu_target_mask) (deactivated_record shape v n r room there below) ∙ mask_stays v (record_at shape v n r) ∙ a.mask high below;
    }

    served : Served shape v s
    served = sound_served v h there

    pop : (0 < depth_at shape v s) → Aloof (popped shape v s)
    pop deep = record {
      unseen = popped_keeps shape v s served deep (Aside u (record_slot v n)) (others (Interface v Depth) refl) (others (Stack v (depth_at shape v s - 1)) refl) (Unseen shape u (record_slot v n) s) (unseen_kept shape u (record_slot v n) s) (unseen_none shape u (record_slot v n) s h.state);
      mask = λ high below. ap (λ (w : ℕ). (record_of w).cpu_target_mask)
          (popped_others shape v s served deep (record_slot v n) (record_exists shape v n (numbered below)) (record_apart v n (Interface v Depth) refl) (record_apart v n (Stack v (depth_at shape v s - 1)) refl));
    }

    ending : Aloof (ended shape v n s)
    ending = go (is_newest n (stack_at shape v s)) refl (eoi_mode shape v s) refl
      where
        go : (a : Bool) → is_newest n (stack_at shape v s) ≡ a → (b : Bool) → eoi_mode shape v s ≡ b → Aloof (ended shape v n s)
        go false p b q = rw (ended_unchanged shape v n s served p) idle
        go true p true q = rw (ended_popped shape v n s served p q) (pop (newest_some shape v s n p))
        go true p false q =
            let deep = newest_some shape v s n p in
            rw (ended_deactivated shape v n s served p q) (deactivation (popped shape v s) (popped_room shape v s served deep) (pop deep))

module _ (shape : Shape) (v value : ℕ) (s : List ℕ) (h : Sound shape s) where
  abbrev n : ℕ
  n = value % 1024

  -- by the number that it decodes to
  module _ (u : ℕ) (exists : u < shape.count) (own : eqb (own_byte v / 2 ^ u % 2) 1 ≡ false) (seen : eqb (read_target shape v s n / 2 ^ u % 2) 1 ≡ false) where
    abbrev Idle : List ℕ → Type 0
    Idle r = Aloof shape v n s h u exists own seen r

    resting : Idle s
    resting = idle shape v n s h u exists own seen

    decoding : (f : Option IntId → List ℕ) → f None ≡ s → ((v < shape.count) → Idle (f (Some (record { 0 = n })))) → (is_valid (decoded_eoi value) ≡ true → v < shape.count) → Idle (f (decoded_eoi value))
    unfolding decoded
    decoding f none valid there = go (ltb n 1020) there
      where
        go : (b : Bool) → (is_valid (cond b (Some (record { 0 = n })) None) ≡ true → v < shape.count) → Idle (f (cond b (Some (record { 0 = n })) None))
        go true here = valid (here refl)
        go false here = rw none resting

    by_rule : (w : WriteRule) → (write_by_looks_up w value ≡ true → v < shape.count) → Idle (write_by shape v w value s)
    by_rule Ignored there = resting
    by_rule (Keeps k) there =
        let here = there refl in
        let slot : Aside u (record_slot v n) (Interface v k) = others shape v n s h u exists own seen here (Interface v k) refl in
        record {
          unseen = unseen_kept shape u (record_slot v n) s (Interface v k) (kept k value) s here slot (unseen_none shape u (record_slot v n) s h.state);
          mask = λ high below. ap (λ (w : ℕ). (record_of w).cpu_target_mask)
              (put_other shape s (record_slot v n) (Interface v k) (kept k value) (record_exists shape v n (numbered shape v n s h u exists own seen here below)) here (record_apart v n (Interface v k) refl));
        }
    by_rule Ends there = decoding (λ d. eoi_state shape v d s) refl (λ here. ending shape v n s h u exists own seen here) there
    by_rule Deactivates there = decoding (λ d. dir_state shape v d s) refl (λ here. deactivation shape v n s h u exists own seen here s h.state resting) there

  pub write_wakes : (register : CpuInterfaceRegister) → (write_register_looks_up register value ≡ true → v < shape.count)
      → wake_from (quiet_among (write_seers shape v value s) shape s) shape (write_register shape v register value s) ≡ wake_set shape s (write_register shape v register value s)
  unfolding write_seers
  write_wakes register there =
      wake_among shape (write_seers shape v value s) s (write_register shape v register value s)
      (λ u exists e.
      let own = first_clear (own_byte v) (read_target shape v s n) u e in
      let seen = second_clear (own_byte v) (read_target shape v s n) u e in
      aloof_wakes shape v n s h u exists own seen _ (by_rule u exists own seen (rule_of register).writes there))
