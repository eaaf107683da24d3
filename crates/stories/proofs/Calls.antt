-- What the calls of the stories come to in a controller: a ring, an acknowledge, an end, a pulse, a message. Assumes nothing.
use Rattle.std.specs.Prelude.{Option, Some, None}
use mathlib.Core.Path.{◌≡◌, refl, sym, ap, ◌∙◌}
use mathlib.Core.Bool.{true, false, false≢true}
use mathlib.Core.List.{List}
use Prim.Native.Nat.{ℕ, ◌%◌, ◌^◌, ◌≤◌, ◌<◌}
use native.Mathlib.Omega.{arith}
use lib.Dec.{ltb}
use borrow.Author.Tests.{lt-ltb, le-ltb, eq-eqb}
use Rattle.interrupt.specs.Record as transition
use Rattle.interrupt.specs.Types.{decoded}
use Rattle.register.specs.declared.frame.AccessWidth.TheVariants.{Dword}
use Rattle.register.specs.declared.ranges.Class.TheVariants.{Sgir}
use Rattle.register.specs.Distributor.{plain}
use Rattle.register.proofs.Named.{iar_at, eoir_at, dir_at, sgir_at_lem}
use Rattle.word.specs.Word.{record_of, word_of}
use Rattle.state.specs.declared.layout.Shape.{Shape}
use Rattle.state.specs.Layout.{Slot}
use Rattle.state.specs.Words.{word_at, put, RecordThere, enabled_at, changed}
use Rattle.sgi.specs.declared.SgiTarget.{SgiTarget}
use Rattle.sgi.specs.declared.SgiTarget.TheVariants.{Mask, AllExceptSelf, SelfOnly, Nobody}
use Rattle.sgi.specs.Sgi.{sgi_target, includes, write_sgir}
use Rattle.acknowledge.specs.Acknowledge as acknowledge-of
use Rattle.end.specs.End as end_of_lem
use Rattle.places.specs.Places.{names}
use Rattle.answer.specs.Answer.{went}
use Rattle.answer.proofs.Present.{found}
use Rattle.cpu_interface_frame.specs.CpuInterfaceFrame.{read_answer, read_v2_cpu_interface, write_v2_cpu_interface}
use Rattle.input.specs.declared.Signal.TheVariants.{Edge}
use Rattle.message_frame.specs.declared.MessageRegister.TheVariants.{Setspi}
use Rattle.message_frame.proofs.Messages.{message_call}
use Rattle.message_frame.proofs.Windows.{rung_spi}
use Rattle.lawful.specs.Lawful.{Controls}
use Rattle.wake.specs.Wake.{is_spurious}
use Rattle.history.specs.History.{Call, Pulse, is_start, called, sgir_write, iar_read, eoir_write, dir_write}
use Rattle.history.proofs.Each.{valid}
use Rattle.waiting.specs.Waiting.{meets}
use Rattle.waiting.proofs.Accepted.{input_call_lem, write_call_lem}
use Rattle.waiting.proofs.RecordMoves.{met_slot}
use Rattle.stories.specs.Stories.{Pulses, by_pulse, by_message}

-- a target that somebody is in names somebody
named : (target : SgiTarget) (v t : ℕ) → includes target v t ≡ true → names target ≡ true
named (Mask byte) v t e = refl
named AllExceptSelf v t e = refl
named SelfOnly v t e = refl
named Nobody v t e = absurd (false≢true e)

decoded_valid : (n : ℕ) → n < 1020 → decoded n ≡ Some (record { 0 = n })
unfolding decoded
decoded_valid n below = simp (lt-ltb n 1020 below)

module _ (shape : Shape) (s : List ℕ) (h : Controls shape s) (v : ℕ) where
  pub acknowledge_call : v < shape.count → called (iar_read v) s ≡ read_answer (acknowledge-of.acknowledge shape v s) s (acknowledge-of.acknowledged shape v s)
  unfolding read_v2_cpu_interface
  acknowledge_call exists = simp (valid shape s h, iar_at, found (enabled_at shape s) shape v (λ e. exists))

  -- a number written, as EOIR and DIR take it
  module _ (n : ℕ) (exists : v < shape.count) (below : n < 1020) where
    low : n % 2 ^ 32 % 1024 ≡ n
    low = omega (arith, below)

    decodes : ltb (n % 2 ^ 32 % 1024) 1020 ≡ true
    decodes = rw low (lt-ltb n 1020 below)

    number : end_of_lem.decoded_eoi (n % 2 ^ 32) ≡ Some (record { 0 = n })
    number = ap decoded low ∙ decoded_valid n below

    pub end_call : called (eoir_write v n) s ≡ went shape (end_of_lem.end_retired shape v n s) s (end_of_lem.ended shape v n s)
    unfolding write_v2_cpu_interface
    end_call = simp (valid shape s h, eoir_at, decodes, found true shape v (λ q. exists), number)

    pub deactivate_call : called (dir_write v n) s ≡ went shape (end_of_lem.retired shape v n s) s (end_of_lem.deactivated shape v n s)
    unfolding write_v2_cpu_interface
    deactivate_call = simp (valid shape s h, dir_at, decodes, found true shape v (λ q. exists), number)

  pub ring_call : (value t : ℕ) → v < shape.count → includes (sgi_target (value % 2 ^ 32)) v t ≡ true → called (sgir_write v value) s ≡ went shape 1023 s (write_sgir shape v (value % 2 ^ 32) s)
  ring_call value t exists e = write_call_lem shape s h v 0xf00 Dword value (plain Sgir) sgir_at_lem (λ q. exists) ∙ simp (named (sgi_target (value % 2 ^ 32)) v t e)

  pub pulse_call : (n : ℕ) → RecordThere shape v n → 16 ≤ n → called (Pulse v n) s ≡ went shape 1023 s (changed shape v n transition.pulse s)
  pulse_call = input_call_lem shape s h v Edge

  -- who would be answered 1023 is quiet
  pub asleep_quiet : v < shape.count → (called (iar_read v) s).value ≡ 1023 → is_spurious (acknowledge-of.acknowledge shape v s) ≡ true
  asleep_quiet exists e = go (acknowledge-of.acknowledge shape v s) (rw (acknowledge_call exists) at e)
    where
      go : (a : Option ℕ) → (read_answer a s (acknowledge-of.acknowledged shape v s)).value ≡ 1023 → is_spurious a ≡ true
      go (Some x) p = eq-eqb x 1023 p
      go None p = absurd (omega (arith, p))

-- what pulses a PPI or SPI, and what it comes to: an SPI is the same whichever vCPU is named
module _ (shape : Shape) (v n : ℕ) where
  pub pulses_past : (c : Call) → Pulses shape v n c → 16 ≤ n
  pulses_past _ (by_pulse there past) = past
  pulses_past _ (by_message {first} {count} it inside is) = omega (arith, (rung_spi shape first count it Setspi n inside).from)

  pub pulses_there : (c : Call) → Pulses shape v n c → RecordThere shape v n
  pulses_there _ (by_pulse there past) = there
  pulses_there _ (by_message {first} {count} it inside is) = (rung_spi shape first count it Setspi n inside).there v

  pub pulses_act : (c : Call) → Pulses shape v n c → is_start c ≡ false
  pulses_act _ (by_pulse there past) = refl
  pulses_act _ (by_message it inside is) = refl

  pub pulses_call : (c : Call) → Pulses shape v n c → (s : List ℕ) → Controls shape s → called c s ≡ went shape 1023 s (changed shape v n transition.pulse s)
  pulses_call _ (by_pulse there past) s h = pulse_call shape s h v n there past
  pulses_call _ (by_message {first} {count} {value} it inside is) s h =
      message_call shape s (valid shape s h) first count value it (rw is inside)
      ∙ ap (λ (r : List ℕ). went shape 1023 s r) (ap (λ (k : ℕ). changed shape 0 k transition.pulse s) is ∙ ap put_record (sym (met_slot v n 0 (spi_met spi))))
    where
      spi : 32 ≤ n
      spi = (rung_spi shape first count it Setspi n inside).from

      spi_met : 32 ≤ n → meets v n 0 ≡ true
      spi_met high = simp (le-ltb n 32 high)

      put_record : Slot → List ℕ
      put_record t = put shape t (word_of (transition.pulse (record_of (word_at shape t s)))) s
