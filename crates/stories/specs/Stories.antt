-- The user's own stories (the mission: "two vCPUs never rang one sleeping neighbour together"; "it keeps the pulse that arrives while an
-- interrupt is being handled"; document 02, Seven: "Our new network card model rings by memory writes"), as calls to a controller and what they answer.
use Rattle.std.specs.Prelude.{◌≡◌, Bool, true, false, not, cond, ◌&&◌, ◌||◌, List, [], ◌∷◌, ◌⊎◌, ℕ, ◌+◌, ◌*◌, ◌%◌, ◌^◌, ◌≤◌, ◌<◌, eqb, ltb}
use Rattle.register.specs.declared.frame.AccessWidth.{AccessWidth}
use Rattle.interrupt.specs.Record.{is_ready}
use Rattle.interrupt.specs.With.{with_pending}
use Rattle.register.specs.declared.ranges.Class.{Class}
use Rattle.register.specs.declared.ranges.Class.TheVariants.{Ctlr, Typer, Iidr, Sgir, Bits, Bytes, Other}
use Rattle.register.specs.declared.distributor.DistributorAccess.{DistributorAccess}
use Rattle.register.specs.declared.distributor.DistributorAccess.TheVariants.{Refused, PrivateWidth, At}
use Rattle.state.specs.declared.layout.Shape.{Shape}
use Rattle.state.specs.declared.layout.InterfaceValue.TheVariants.{PriorityMask}
use Rattle.state.specs.Words.{RecordThere, record_at, sources_at, interface_at}
use Rattle.sgi.specs.Sgi.{sgi_target, includes}
use Rattle.select.specs.Select.{offered, candidate, candidate_for, both_on}
use Rattle.acknowledge.specs.Acknowledge.{preempts}
use Rattle.end.specs.End.{eoi_mode}
use Rattle.answer.specs.Answer.{Outcome}
use Rattle.message_frame.specs.MessageFrame.{is_window, window_of, in_window}
use Rattle.lawful.specs.Lawful.{Controls}
use Rattle.history.specs.History.{Call, WriteCpuInterface, Pulse, Looks, ReadsRegister, WritesRegister, WritesPlace, Signals, Deed, Starts, Acts, deed, called, run, sgir_write, iar_read, eoir_write, dir_write, setspi_write}
use Rattle.waiting.specs.Waiting.{bit, meets, takes_pending, never}

-- what v writes rings the SGI n at t
pub record Rings (v value t n : ℕ) : Type 0 where
  pub numbered : value % 2 ^ 32 % 16 ≡ n
  pub named : includes (sgi_target (value % 2 ^ 32)) v t ≡ true

-- v can take n, should it be pending
pub record Takes (shape : Shape) (v n : ℕ) (s : List ℕ) : Type 0 where
  pub on : both_on shape v s ≡ true
  pub for_it : offered v n (record_at shape v n s) ≡ true
  pub ready : is_ready (with_pending true (record_at shape v n s)) ≡ true
  pub unmasked : (record_at shape v n s).priority.0 < interface_at shape v PriorityMask s
  pub preempts : preempts shape v s (candidate_for shape v s n) ≡ true

-- and nothing goes before it: "smallest priority, then smallest number"
abbrev pub ahead : Shape → ℕ → List ℕ → ℕ → ℕ → Bool
ahead shape v s m n =
    let p : ℕ = (record_at shape v m s).priority.0 in
    let q : ℕ = (record_at shape v n s).priority.0 in
    ltb p q || (eqb p q && ltb m n)

abbrev pub NoneAhead : Shape → ℕ → ℕ → List ℕ → Type 0
NoneAhead shape v n s = (m : ℕ) → m < shape.limit → candidate shape v s m ≡ true → ahead shape v s m n ≡ false

-- a call by others that touches neither the SGI n at t nor its enabling: an access by another vCPU that is no ring of it and does not write the
-- Distributor's CTLR; any read of the Distributor; any input of a device
abbrev pub leaves_at : ℕ → ℕ → ℕ → ℕ → Class → Bool
leaves_at t n v value Ctlr = false
leaves_at t n v value Typer = true
leaves_at t n v value Iidr = true
leaves_at t n v value Sgir = not (eqb (value % 16) n && includes (sgi_target value) v t)
leaves_at t n v value (Bits register) = true
leaves_at t n v value (Bytes register) = true
leaves_at t n v value Other = true

abbrev pub leaves : ℕ → ℕ → ℕ → ℕ → DistributorAccess → Bool
leaves t n v value (Refused r) = true
leaves t n v value PrivateWidth = true
leaves t n v value (At place) = leaves_at t n v value place.class

abbrev pub is_elsewhere : ℕ → ℕ → Deed → Bool
is_elsewhere t n (Starts count limit) = false
is_elsewhere t n (Acts (Looks by)) = true
is_elsewhere t n (Acts (ReadsRegister v a)) = not (eqb v t)
is_elsewhere t n (Acts (WritesRegister v a value)) = not (eqb v t)
is_elsewhere t n (Acts (WritesPlace v a width value)) = not (eqb v t) && leaves t n v value a
is_elsewhere t n (Acts (Signals v m signal)) = true

abbrev pub elsewhere : ℕ → ℕ → Call → Bool
elsewhere t n c = is_elsewhere t n (deed c)

abbrev pub all_elsewhere : ℕ → ℕ → List Call → Bool
all_elsewhere t n [] = true
all_elsewhere t n (c ∷ cs) = elsewhere t n c && all_elsewhere t n cs

-- Two vCPUs, `one` and then `other`, ring the same SGI at the same target, which then acknowledges, ends it, in EOI mode deactivates it too, and
-- acknowledges again. Others go on all the while.
pub record TwoRings : Type 0 where
  pub shape : Shape
  pub words : List ℕ
  pub target : ℕ
  pub sgi : ℕ
  pub one : ℕ
  pub other : ℕ
  pub one_writes : ℕ
  pub other_writes : ℕ
  pub meanwhile₁ : List Call
  pub meanwhile₂ : List Call
  pub meanwhile₃ : List Call
  pub meanwhile₄ : List Call
  pub meanwhile₅ : List Call

abbrev pub one_rings : TwoRings → Outcome
one_rings h = called (sgir_write h.one h.one_writes) h.words

abbrev pub other_rings : TwoRings → Outcome
other_rings h = called (sgir_write h.other h.other_writes) (run h.meanwhile₁ (one_rings h).state)

abbrev pub both_wait : TwoRings → List ℕ
both_wait h = run h.meanwhile₂ (other_rings h).state

abbrev pub first_read : TwoRings → Outcome
first_read h = called (iar_read h.target) (both_wait h)

abbrev pub serving : TwoRings → List ℕ
serving h = run h.meanwhile₃ (first_read h).state

abbrev pub first_end : TwoRings → Outcome
first_end h = called (eoir_write h.target h.sgi) (serving h)

abbrev pub after_end : TwoRings → List ℕ
after_end h = run h.meanwhile₄ (first_end h).state

abbrev pub in_eoi_mode : TwoRings → Bool
in_eoi_mode h = eoi_mode h.shape h.target h.words

abbrev pub deactivation : TwoRings → Outcome
deactivation h = cond (in_eoi_mode h) (called (dir_write h.target h.sgi) (after_end h)) (first_end h)

abbrev pub one_waits : TwoRings → List ℕ
one_waits h = run h.meanwhile₅ (deactivation h).state

abbrev pub second_read : TwoRings → Outcome
second_read h = called (iar_read h.target) (one_waits h)

-- the target sleeps (an acknowledge would answer 1023), can take the SGI, and has it not rung; the other calls are elsewhere, and when it
-- acknowledges nothing more urgent waits for it
pub record Sleeping (h : TwoRings) : Type 0 where
  pub controls : Controls h.shape h.words
  pub target_exists : h.target < h.shape.count
  pub one_exists : h.one < h.shape.count
  pub other_exists : h.other < h.shape.count
  pub two : h.one ≡ h.other → ⊥
  pub is_sgi_lem : h.sgi < 16
  pub one_rings_lem : Rings h.one h.one_writes h.target h.sgi
  pub other_rings_lem : Rings h.other h.other_writes h.target h.sgi
  pub asleep : (called (iar_read h.target) h.words).value ≡ 1023
  pub takes : Takes h.shape h.target h.sgi h.words
  pub unrung : sources_at h.shape h.target h.sgi h.words ≡ 0
  pub elsewhere₁ : all_elsewhere h.target h.sgi h.meanwhile₁ ≡ true
  pub elsewhere₂ : all_elsewhere h.target h.sgi h.meanwhile₂ ≡ true
  pub elsewhere₃ : all_elsewhere h.target h.sgi h.meanwhile₃ ≡ true
  pub elsewhere₄ : all_elsewhere h.target h.sgi h.meanwhile₄ ≡ true
  pub elsewhere₅ : all_elsewhere h.target h.sgi h.meanwhile₅ ≡ true
  pub none_ahead₁ : NoneAhead h.shape h.target h.sgi (both_wait h)
  pub none_ahead₂ : NoneAhead h.shape h.target h.sgi (one_waits h)

abbrev pub lower : ℕ → ℕ → ℕ
lower x y = cond (ltb x y) x y

abbrev pub higher : ℕ → ℕ → ℕ
higher x y = cond (ltb x y) y x

-- the first ring wakes the target; it is given both, each with its source, the second not before the first is ended, in EOI mode deactivated; and
-- then none is left
pub record BothGiven (h : TwoRings) : Type 0 where
  pub wakes : bit h.target (one_rings h).wake ≡ true
  pub first_accepted : (first_read h).refusal ≡ 0
  pub first_given : (first_read h).value ≡ h.sgi + 1024 * lower h.one h.other
  pub one_at_a_time : (source : ℕ) → (called (iar_read h.target) (serving h)).value ≡ h.sgi + 1024 * source → ⊥
  pub one_until_deactivated : in_eoi_mode h ≡ true → (source : ℕ) → (called (iar_read h.target) (after_end h)).value ≡ h.sgi + 1024 * source → ⊥
  pub retired : (deactivation h).retired ≡ h.sgi
  pub second_accepted : (second_read h).refusal ≡ 0
  pub second_given : (second_read h).value ≡ h.sgi + 1024 * higher h.one h.other
  pub none_left : sources_at h.shape h.target h.sgi (second_read h).state ≡ 0

-- A device pulses an interrupt that is in flight. A write of a vCPU's, to EOIR or DIR, retires it; then a vCPU acknowledges. `vcpu` is whose the
-- interrupt is, if it is a PPI.
pub record PulseInFlight : Type 0 where
  pub shape : Shape
  pub words : List ℕ
  pub vcpu : ℕ
  pub interrupt : ℕ
  pub meanwhile₁ : List Call
  pub retirer : ℕ
  pub offset : ℕ
  pub width : AccessWidth
  pub writes : ℕ
  pub meanwhile₂ : List Call
  pub reader : ℕ

abbrev pub pulsed : PulseInFlight → Outcome
pulsed h = called (Pulse h.vcpu h.interrupt) h.words

abbrev pub retires : PulseInFlight → Outcome
retires h = called (WriteCpuInterface h.retirer h.offset h.width h.writes) (run h.meanwhile₁ (pulsed h).state)

abbrev pub turn : PulseInFlight → List ℕ
turn h = run h.meanwhile₂ (retires h).state

abbrev pub read_again : PulseInFlight → Outcome
read_again h = called (iar_read h.reader) (turn h)

-- nobody takes it in the meantime (`takes_pending`), and when the reader acknowledges it can take it and nothing goes before it
pub record InService (h : PulseInFlight) : Type 0 where
  pub controls : Controls h.shape h.words
  pub there : RecordThere h.shape h.vcpu h.interrupt
  pub no_sgi : 16 ≤ h.interrupt
  pub in_flight : (record_at h.shape h.vcpu h.interrupt h.words).inflight ≡ true
  pub its_retirer : meets h.vcpu h.interrupt h.retirer ≡ true
  pub retired : (retires h).retired ≡ h.interrupt
  pub untaken₁ : never (takes_pending h.shape h.vcpu h.interrupt) h.meanwhile₁ (pulsed h).state ≡ true
  pub untaken₂ : never (takes_pending h.shape h.vcpu h.interrupt) h.meanwhile₂ (retires h).state ≡ true
  pub reader_exists : h.reader < h.shape.count
  pub its_reader : meets h.vcpu h.interrupt h.reader ≡ true
  pub takes : Takes h.shape h.reader h.interrupt (turn h)
  pub none_ahead : NoneAhead h.shape h.reader h.interrupt (turn h)

-- the pulse is noted; once retired the interrupt is no longer served and waits; and it is given again
pub record GivenAgain (h : PulseInFlight) : Type 0 where
  pub pulse_accepted : (pulsed h).refusal ≡ 0
  pub noted : (record_at h.shape h.vcpu h.interrupt (pulsed h).state).redelivery_pending ≡ true
  pub waits : (record_at h.shape h.vcpu h.interrupt (retires h).state).pending ≡ true
  pub idle : (record_at h.shape h.vcpu h.interrupt (retires h).state).active ≡ false
  pub not_in_flight : (record_at h.shape h.vcpu h.interrupt (retires h).state).inflight ≡ false
  pub read_accepted : (read_again h).refusal ≡ 0
  pub given_again : (read_again h).value ≡ h.interrupt

-- a call by which a device pulses the PPI or SPI n, as v meets it: a pulse, or a message for it in a window of this controller's (document 02, Seven:
-- "Writing a number inside the window pulses that SPI")
pub data Pulses (shape : Shape) (v n : ℕ) : Call → Type 0 where
  by_pulse : RecordThere shape v n → 16 ≤ n → Pulses shape v n (Pulse v n)
  by_message : {first count value : ℕ} → is_window shape first count ≡ true → in_window (window_of first count) n ≡ true → value % 2 ^ 32 ≡ n
      → Pulses shape v n (setspi_write first count value)

-- The same by any such call: a device pulses an interrupt that is in flight, by this call. A write of a vCPU's, to EOIR or DIR, retires it; then a vCPU
-- acknowledges. `vcpu` is whose the interrupt is, if it is a PPI.
pub record SignalInFlight : Type 0 where
  pub shape : Shape
  pub words : List ℕ
  pub vcpu : ℕ
  pub interrupt : ℕ
  pub call : Call
  pub meanwhile₁ : List Call
  pub retirer : ℕ
  pub offset : ℕ
  pub width : AccessWidth
  pub writes : ℕ
  pub meanwhile₂ : List Call
  pub reader : ℕ

abbrev pub signal_sent : SignalInFlight → Outcome
signal_sent h = called h.call h.words

abbrev pub signal_retires : SignalInFlight → Outcome
signal_retires h = called (WriteCpuInterface h.retirer h.offset h.width h.writes) (run h.meanwhile₁ (signal_sent h).state)

abbrev pub signal_turn : SignalInFlight → List ℕ
signal_turn h = run h.meanwhile₂ (signal_retires h).state

abbrev pub signal_read_again : SignalInFlight → Outcome
signal_read_again h = called (iar_read h.reader) (signal_turn h)

-- nobody takes it in the meantime (`takes_pending`), and when the reader acknowledges it can take it and nothing goes before it
pub record SignalInService (h : SignalInFlight) : Type 0 where
  pub controls : Controls h.shape h.words
  pub pulses : Pulses h.shape h.vcpu h.interrupt h.call
  pub in_flight : (record_at h.shape h.vcpu h.interrupt h.words).inflight ≡ true
  pub its_retirer : meets h.vcpu h.interrupt h.retirer ≡ true
  pub retired : (signal_retires h).retired ≡ h.interrupt
  pub untaken₁ : never (takes_pending h.shape h.vcpu h.interrupt) h.meanwhile₁ (signal_sent h).state ≡ true
  pub untaken₂ : never (takes_pending h.shape h.vcpu h.interrupt) h.meanwhile₂ (signal_retires h).state ≡ true
  pub reader_exists : h.reader < h.shape.count
  pub its_reader : meets h.vcpu h.interrupt h.reader ≡ true
  pub takes : Takes h.shape h.reader h.interrupt (signal_turn h)
  pub none_ahead : NoneAhead h.shape h.reader h.interrupt (signal_turn h)

-- the pulse is noted; once retired the interrupt is no longer served and waits; and it is given again
pub record SignalGivenAgain (h : SignalInFlight) : Type 0 where
  pub signal_accepted : (signal_sent h).refusal ≡ 0
  pub noted : (record_at h.shape h.vcpu h.interrupt (signal_sent h).state).redelivery_pending ≡ true
  pub waits : (record_at h.shape h.vcpu h.interrupt (signal_retires h).state).pending ≡ true
  pub idle : (record_at h.shape h.vcpu h.interrupt (signal_retires h).state).active ≡ false
  pub not_in_flight : (record_at h.shape h.vcpu h.interrupt (signal_retires h).state).inflight ≡ false
  pub read_accepted : (signal_read_again h).refusal ≡ 0
  pub given_again : (signal_read_again h).value ≡ h.interrupt

-- A device pulses an interrupt, by this call, whether it is in flight or not; then a vCPU acknowledges.
pub record OnePulse : Type 0 where
  pub shape : Shape
  pub words : List ℕ
  pub vcpu : ℕ
  pub interrupt : ℕ
  pub call : Call
  pub meanwhile : List Call
  pub reader : ℕ

abbrev pub one_pulsed : OnePulse → Outcome
one_pulsed h = called h.call h.words

abbrev pub one_turn : OnePulse → List ℕ
one_turn h = run h.meanwhile (one_pulsed h).state

abbrev pub one_read : OnePulse → Outcome
one_read h = called (iar_read h.reader) (one_turn h)

-- nobody takes it in the meantime, and when the reader acknowledges it can take it and nothing goes before it
pub record Untaken (h : OnePulse) : Type 0 where
  pub controls : Controls h.shape h.words
  pub pulses : Pulses h.shape h.vcpu h.interrupt h.call
  pub untaken : never (takes_pending h.shape h.vcpu h.interrupt) h.meanwhile (one_pulsed h).state ≡ true
  pub reader_exists : h.reader < h.shape.count
  pub its_reader : meets h.vcpu h.interrupt h.reader ≡ true
  pub takes : Takes h.shape h.reader h.interrupt (one_turn h)
  pub none_ahead : NoneAhead h.shape h.reader h.interrupt (one_turn h)

-- the vCPU v sleeps before n is pulsed, and can take n after it
pub record SleptBefore (shape : Shape) (v n : ℕ) (before after : List ℕ) : Type 0 where
  pub exists : v < shape.count
  pub asleep : (called (iar_read v) before).value ≡ 1023
  pub takes : Takes shape v n after

-- the call is accepted and wakes whoever slept and can take what it pulses; and that is given
pub record PulseGiven (h : OnePulse) : Type 0 where
  pub accepted : (one_pulsed h).refusal ≡ 0
  pub wakes : (u : ℕ) → meets h.vcpu h.interrupt u ≡ true → SleptBefore h.shape u h.interrupt h.words (one_pulsed h).state → bit u (one_pulsed h).wake ≡ true
  pub read_accepted : (one_read h).refusal ≡ 0
  pub given : (one_read h).value ≡ h.interrupt

-- Messages are written for two SPIs of one window, for `one` first and for `other` after it, whoever writes them; then vCPUs acknowledge. Which of the two
-- is given first, `sooner`, hangs on their priorities and readers. (Where the first is given before the second is written each is a story of one pulse.)
pub record TwoMessages : Type 0 where
  pub shape : Shape
  pub words : List ℕ
  pub first : ℕ
  pub count : ℕ
  pub one : ℕ
  pub other : ℕ
  pub one_writes : ℕ
  pub other_writes : ℕ
  pub meanwhile₁ : List Call
  pub meanwhile₂ : List Call
  pub sooner : ℕ
  pub later : ℕ
  pub sooner_reader : ℕ
  pub meanwhile₃ : List Call
  pub later_reader : ℕ

abbrev pub one_written : TwoMessages → Outcome
one_written h = called (setspi_write h.first h.count h.one_writes) h.words

abbrev pub before_other : TwoMessages → List ℕ
before_other h = run h.meanwhile₁ (one_written h).state

abbrev pub other_written : TwoMessages → Outcome
other_written h = called (setspi_write h.first h.count h.other_writes) (before_other h)

abbrev pub messages_wait : TwoMessages → List ℕ
messages_wait h = run h.meanwhile₂ (other_written h).state

abbrev pub sooner_read : TwoMessages → Outcome
sooner_read h = called (iar_read h.sooner_reader) (messages_wait h)

abbrev pub later_waits : TwoMessages → List ℕ
later_waits h = run h.meanwhile₃ (sooner_read h).state

abbrev pub later_read : TwoMessages → Outcome
later_read h = called (iar_read h.later_reader) (later_waits h)

-- a window of this controller's and two numbers inside it; nobody takes them in the meantime (`takes_pending`); and when a reader acknowledges it can take
-- the one whose turn it is, and nothing goes before that
pub record MessagesWritten (h : TwoMessages) : Type 0 where
  pub controls : Controls h.shape h.words
  pub window : is_window h.shape h.first h.count ≡ true
  pub one_inside : in_window (window_of h.first h.count) h.one ≡ true
  pub other_inside : in_window (window_of h.first h.count) h.other ≡ true
  pub one_number : h.one_writes % 2 ^ 32 ≡ h.one
  pub other_written_lem : h.other_writes % 2 ^ 32 ≡ h.other
  pub two : h.one ≡ h.other → ⊥
  pub one_untaken₁ : never (takes_pending h.shape 0 h.one) h.meanwhile₁ (one_written h).state ≡ true
  pub one_untaken₂ : never (takes_pending h.shape 0 h.one) h.meanwhile₂ (other_written h).state ≡ true
  pub other_untaken₂ : never (takes_pending h.shape 0 h.other) h.meanwhile₂ (other_written h).state ≡ true
  pub either : ((h.sooner ≡ h.one) × (h.later ≡ h.other)) ⊎ ((h.sooner ≡ h.other) × (h.later ≡ h.one))
  pub sooner_exists : h.sooner_reader < h.shape.count
  pub sooner_takes : Takes h.shape h.sooner_reader h.sooner (messages_wait h)
  pub sooner_first : NoneAhead h.shape h.sooner_reader h.sooner (messages_wait h)
  pub later_untaken₃ : never (takes_pending h.shape 0 h.later) h.meanwhile₃ (sooner_read h).state ≡ true
  pub later_exists : h.later_reader < h.shape.count
  pub later_takes : Takes h.shape h.later_reader h.later (later_waits h)
  pub later_first : NoneAhead h.shape h.later_reader h.later (later_waits h)

-- each message is accepted and wakes whoever slept and can take what it rings; both are given
pub record BothRung (h : TwoMessages) : Type 0 where
  pub one_accepted : (one_written h).refusal ≡ 0
  pub one_wakes : (v : ℕ) → SleptBefore h.shape v h.one h.words (one_written h).state → bit v (one_written h).wake ≡ true
  pub other_accepted : (other_written h).refusal ≡ 0
  pub other_wakes : (v : ℕ) → SleptBefore h.shape v h.other (before_other h) (other_written h).state → bit v (other_written h).wake ≡ true
  pub sooner_accepted : (sooner_read h).refusal ≡ 0
  pub sooner_given : (sooner_read h).value ≡ h.sooner
  pub later_accepted : (later_read h).refusal ≡ 0
  pub later_given : (later_read h).value ≡ h.later
