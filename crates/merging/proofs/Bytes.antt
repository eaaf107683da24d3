-- A run of a byte array's bytes written twice: of a priority and of a target byte only the later counts, and source bytes add up. Assumes nothing.
use mathlib.Core.Path.{◌≡◌, refl, sym, ap, ◌∙◌}
use mathlib.Core.Bool.{Bool, true, false, not, cond, ◌&&◌, true≢false}
use mathlib.Core.List.{List}
use Prim.Native.Nat.{ℕ, ◌+◌, ◌*◌, ◌≤◌, ◌<◌, ◌%◌, ◌^◌}
use native.Mathlib.Nat.{mod-le}
use native.Mathlib.Omega.{arith}
use lib.Dec.{ltb}
use Rattle.interrupt.specs.Types.{priority_of}
use Rattle.interrupt.specs.Record.{set_priority, set_cpu_target_mask}
use Rattle.interrupt.specs.declared.record.InterruptRecord.{InterruptRecord}
use Rattle.register.specs.declared.ranges.ByteRegister.{ByteRegister}
use Rattle.register.specs.declared.ranges.ByteRegister.TheVariants.{Ipriorityr, Itargetsr, Cpendsgir, Spendsgir}
use Rattle.word.specs.Fields.{field_at}
use Rattle.word.specs.Word.{InRange}
use Rattle.state.specs.declared.layout.Shape.{Shape}
use Rattle.state.specs.Layout.{Exists, Limits, Room}
use Rattle.state.specs.Words.{record_slot, changed}
use Rattle.state.proofs.Numbers.{Of, numbers_apart}
use Rattle.state.proofs.Own.{Own, runs_merge}
use Rattle.state.proofs.Steps.{Agree}
use Rattle.targets.specs.Targets.{existing_bits, write_target}
use Rattle.distributor.proofs.Registers.{target_there, priority_there, run_own}
use Rattle.distributor.specs.Bytes.{write_priority, write_byte, write_bytes, ByteThere, BytesAt}
use Rattle.merging.specs.Merging.{bytes_as_one}
use Rattle.merging.proofs.Bits.{changed_twice}
use Rattle.merging.proofs.Joined.{or_field}
use Rattle.merging.proofs.Sources.{Pends, sources_twice, pends_kept}

-- a field replaced, and then replaced again
module _ (shape : Shape) (v n : ℕ) where
  replaced_twice : (b : Bool) (f g : InterruptRecord → InterruptRecord) → (b ≡ true → Exists shape (record_slot v n)) → ((r : InterruptRecord) → InRange r → InRange (f r))
      → ((r : InterruptRecord) → g (f r) ≡ g r) → (s : List ℕ) → Room shape s → cond b (changed shape v n g (cond b (changed shape v n f s) s)) (cond b (changed shape v n f s) s) ≡ cond b (changed shape v n g s) s
  replaced_twice true f g there ranged last s h = changed_twice shape v n f g g s h (there refl) ranged (last _)
  replaced_twice false f g there ranged last s h = refl

-- what the words must have at a number: at CPENDSGIR a source that is set pends its SGI
abbrev pub ByteNeeds : Shape → ByteRegister → ℕ → ℕ → List ℕ → Type 0
ByteNeeds shape Ipriorityr v n s = Unit
ByteNeeds shape Itargetsr v n s = Unit
ByteNeeds shape Cpendsgir v n s = Pends shape v n s
ByteNeeds shape Spendsgir v n s = Unit

byte_twice : (shape : Shape) (register : ByteRegister) (v n x y : ℕ) → x < 256 → y < 256 → ByteThere shape register v n → (s : List ℕ) → Room shape s → ByteNeeds shape register v n s
    → write_byte shape register v n y (write_byte shape register v n x s) ≡ write_byte shape register v n (bytes_as_one register x y) s
unfolding write_priority write_target set_priority set_cpu_target_mask
byte_twice shape Ipriorityr v n x y bx b-y there s h need =
    replaced_twice shape v n (ltb n shape.limit) (λ r. set_priority r (priority_of x)) (λ r. set_priority r (priority_of y)) (priority_there shape v n there)
    (λ r i. record { priority_byte = bx; mask_byte_lem = i.mask_byte_lem; owner_byte_lem = i.owner_byte_lem }) (λ r. refl) s h
byte_twice shape Itargetsr v n x y bx b-y there s h need =
    replaced_twice shape v n (not (ltb n 32) && ltb n shape.limit) (λ r. set_cpu_target_mask r (existing_bits shape x)) (λ r. set_cpu_target_mask r (existing_bits shape y)) (target_there shape v n)
    (λ r i. record { priority_byte = i.priority_byte; mask_byte_lem = let m : x % 2 ^ shape.count ≤ x = mod-le x (2 ^ shape.count) in omega arith; owner_byte_lem = i.owner_byte_lem }) (λ r. refl) s h
byte_twice shape Cpendsgir v n x y bx b-y there s h need = sources_twice shape v n h.limits there false x y bx b-y s h (λ e. need)
byte_twice shape Spendsgir v n x y bx b-y there s h need = sources_twice shape v n h.limits there true x y bx b-y s h (λ e. absurd (true≢false e))

-- byte i of the one write
byte_as_one : (register : ByteRegister) (i a b : ℕ) → bytes_as_one register (field_at 8 i a) (field_at 8 i b) ≡ field_at 8 i (bytes_as_one register a b)
byte_as_one Ipriorityr i a b = refl
byte_as_one Itargetsr i a b = refl
byte_as_one Cpendsgir i a b = sym (or_field (8 * i) 8 a b)
byte_as_one Spendsgir i a b = sym (or_field (8 * i) 8 a b)

pub needs_kept : (shape : Shape) (register : ByteRegister) (v n : ℕ) → Limits shape → ByteThere shape register v n → (s r : List ℕ) → Agree shape (Of v n) r s
    → ByteNeeds shape register v n s → ByteNeeds shape register v n r
needs_kept shape Ipriorityr v n l there s r a need = tt
needs_kept shape Itargetsr v n l there s r a need = tt
needs_kept shape Cpendsgir v n l there s r a need = pends_kept shape v n l there s r a need
needs_kept shape Spendsgir v n l there s r a need = tt

module _ (shape : Shape) (register : ByteRegister) (v first count : ℕ) (s : List ℕ) (at : BytesAt shape register v first count s) where
  pub bytes_as_one_lem : (a b : ℕ) → ((i : ℕ) → i < count → ByteNeeds shape register v (first + i) s)
      → write_bytes shape register v first count b (write_bytes shape register v first count a s) ≡ write_bytes shape register v first count (bytes_as_one register a b) s
  unfolding write_bytes
  bytes_as_one_lem a b need =
      runs_merge shape (λ i. Of v (first + i)) (numbers_apart v first) (steps a) (steps b) (steps (bytes_as_one register a b)) s at.state count
      (own a) (own b) (own (bytes_as_one register a b))
      (λ i h r k agree.
      byte_twice shape register v (first + i) (field_at 8 i a) (field_at 8 i b) (omega arith) (omega arith) (at.there i h) r k
      (needs_kept shape register v (first + i) k.limits (at.there i h) s r agree (need i h))
      ∙ ap (λ (x : ℕ). write_byte shape register v (first + i) x r) (byte_as_one register i a b))
    where
      steps : ℕ → ℕ → List ℕ → List ℕ
      steps value i = write_byte shape register v (first + i) (field_at 8 i value)

      own : (value i : ℕ) → i < count → Own shape (Of v (first + i)) (steps value i)
      own value i h = run_own shape register v first count value s at i h
