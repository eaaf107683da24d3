-- Every write to the Distributor goes through a change of lent words that its slots do not see. Assumes nothing.
use mathlib.Core.Path.{refl, ap}
use mathlib.Core.Bool.{Bool, true, false, not, ◌&&◌}
use mathlib.Core.List.{List}
use Prim.Native.Nat.{ℕ, ◌+◌, ◌%◌, ◌^◌, ◌≤◌, ◌<◌}
use native.Mathlib.Omega.{arith}
use lib.Bits.{bit_or}
use lib.Dec.{eqb, ltb}
use borrow.Author.Tests.{ltb-true}
use Rattle.interrupt.specs.Record.{set_pending, set_priority, set_cpu_target_mask}
use Rattle.register.specs.declared.ranges.BitRegister.{BitRegister}
use Rattle.register.specs.declared.ranges.ByteRegister.{ByteRegister}
use Rattle.register.specs.declared.ranges.ByteRegister.TheVariants.{Ipriorityr, Itargetsr, Cpendsgir, Spendsgir}
use Rattle.word.specs.Fields.{field_at}
use Rattle.word.specs.Word.{word_of}
use Rattle.state.specs.declared.layout.Shape.{Shape}
use Rattle.state.specs.Layout.{Sources, Limits}
use Rattle.state.specs.Words.{record_slot, RecordThere, record_at, sources_at, with_sources}
use Rattle.state.proofs.Accessors.{record_exists}
use Rattle.state.proofs.Tests.{left_true, right_true, not_below}
use Rattle.bits.specs.Bits.{field_bits, per_word, acts, act, write_number, write_bits}
use Rattle.targets.specs.Targets.{existing_bits, write_target}
use Rattle.sgi.specs.Sgi.{pend_by_sources, merged_sources, write_sources, pend_sgi, sgi_target, includes, sent_to, send_sgi, write_sgir}
use Rattle.distributor.specs.Bytes.{write_priority, write_byte, write_bytes, ByteThere}
use Rattle.reach.proofs.Readings.{record_inner, record_alike, sources_alike}
use Rattle.reach.proofs.Around.{Around, Through, none_passes, choice_passes, then_through, if_through, steps_through, put_through, changed_through}

module _ {shape : Shape} {wrap : List ℕ → List ℕ} (around : Around shape wrap) where
  pub bits_through : (register : BitRegister) (v first value : ℕ) → (first < 32 → v < shape.count) → Through shape wrap (write_bits shape register v first value)
  unfolding write_bits write_number
  bits_through register v first value banked =
      steps_through (λ i. write_number shape register v (first + i) (field_at (field_bits register) i value)) (per_word register)
      (λ i h.
      let x : ℕ = field_at (field_bits register) i value in
      if_through (ltb (first + i) shape.limit && acts register (first + i) x)
      (λ e. changed_through around v (first + i) (act register x)
      (record { numbered = ltb-true (first + i) shape.limit (left_true (ltb (first + i) shape.limit) (acts register (first + i) x) e); banked = λ low. banked (omega arith) })))

  -- the sources of an SGI at a vCPU, and then its record
  module _ (limits : Limits shape) (v n : ℕ) (exists : v < shape.count) (sgi : n < 16) where
    there : RecordThere shape v n
    there = record { numbered = omega (arith, limits.private_numbers_lem); banked = λ low. exists }

    pub sources_through : (x : ℕ → ℕ) → Through shape wrap (λ s. with_sources shape v n (x (sources_at shape v n s)) s)
    sources_through x =
        put_through around (Sources v n) (λ s. x (sources_at shape v n s)) (exists, sgi) (omega arith)
        (λ s h. ap x (sources_alike (around.alike s h) v exists n sgi))

    pend_through : Through shape wrap (pend_by_sources shape v n)
    pend_through =
        put_through around (record_slot v n) (λ s. word_of (set_pending (record_at shape v n s) (not (eqb (sources_at shape v n s) 0)))) (record_exists shape v n there) (record_inner v n)
        (λ s h i. word_of (set_pending (record_alike (around.alike s h) v n there i) (not (eqb (sources_alike (around.alike s h) v exists n sgi i) 0))))

    pub written_through : (on : Bool) (byte : ℕ) → Through shape wrap (write_sources shape v n on byte)
    unfolding write_sources
    written_through on byte =
        λ s h. choice_passes (λ r. eqb byte 0) refl (λ e. none_passes s) (λ e. then_through (sources_through (λ x. merged_sources on x byte)) pend_through s h)

    pub ring_through : (source : ℕ) → Through shape wrap (pend_sgi shape v source n)
    unfolding pend_sgi
    ring_through source = then_through (sources_through (λ x. bit_or x (2 ^ source))) (changed_through around v n (λ r. set_pending r true) there)

  byte_through : Limits shape → (register : ByteRegister) (v n byte : ℕ) → ByteThere shape register v n → Through shape wrap (write_byte shape register v n byte)
  unfolding write_priority write_target
  byte_through limits Ipriorityr v n byte there =
      if_through (ltb n shape.limit)
      (λ e. changed_through around v n (λ r. set_priority r (record { 0 = byte })) (record { numbered = ltb-true n shape.limit e; banked = there }))
  byte_through limits Itargetsr v n byte there =
      if_through (not (ltb n 32) && ltb n shape.limit)
      (λ e.
      let shared : 32 ≤ n = not_below n 32 (left_true (not (ltb n 32)) (ltb n shape.limit) e) in
      changed_through around v n (λ r. set_cpu_target_mask r (existing_bits shape byte))
      (record { numbered = ltb-true n shape.limit (right_true (not (ltb n 32)) (ltb n shape.limit) e); banked = λ low. absurd (omega arith) }))
  byte_through limits Cpendsgir v n byte there = written_through limits v n there.0 there.1 false byte
  byte_through limits Spendsgir v n byte there = written_through limits v n there.0 there.1 true byte

  pub bytes_through : Limits shape → (register : ByteRegister) (v first count value : ℕ) → ((i : ℕ) → i < count → ByteThere shape register v (first + i))
      → Through shape wrap (write_bytes shape register v first count value)
  unfolding write_bytes
  bytes_through limits register v first count value there =
      steps_through (λ i. write_byte shape register v (first + i) (field_at 8 i value)) count
      (λ i h. byte_through limits register v (first + i) (field_at 8 i value) (there i h))

  pub sgir_through : Limits shape → (v value : ℕ) → Through shape wrap (write_sgir shape v value)
  unfolding write_sgir send_sgi
  sgir_through limits v value =
      steps_through (sent_to shape (sgi_target value) v (value % 16)) shape.count
      (λ u h. if_through (includes (sgi_target value) v u) (λ e. ring_through limits u (value % 16) h (omega arith) v))
