-- Two messages for two SPIs of one window are both given, in whichever order they are written and taken. Assumes nothing.
use mathlib.Core.Path.{◌≡◌, refl, sym, ap, ◌∙◌}
use mathlib.Core.Bool.{true, and-false}
use mathlib.Core.List.{List}
use mathlib.Core.Logic.{◌⊎◌, inl, inr}
use Prim.Native.Nat.{ℕ, ◌≤◌, ◌<◌}
use native.Mathlib.Omega.{arith}
use borrow.Author.Tests.{le-ltb, ne_eqb}
use Rattle.interrupt.specs.declared.record.InterruptRecord.{InterruptRecord}
use Rattle.register.specs.declared.frame.AccessWidth.TheVariants.{Dword}
use Rattle.register.proofs.Named.{iar_at}
use Rattle.state.specs.declared.layout.Shape.{Shape}
use Rattle.select.specs.Select.{candidate_for}
use Rattle.acknowledge.specs.Acknowledge.{given}
use Rattle.answer.specs.Answer.{Outcome, gave}
use Rattle.message_frame.specs.declared.MessageRegister.TheVariants.{Setspi}
use Rattle.message_frame.proofs.Windows.{AnSpi, rung_spi}
use Rattle.lawful.specs.Lawful.{Controls}
use Rattle.history.specs.History.{Call, called, run, iar_read, setspi_write}
use Rattle.history.proofs.Always.{every_other_call}
use Rattle.waiting.specs.Waiting.{pends, meets, takes_pending, never}
use Rattle.waiting.proofs.Messages.{a_message_takes_no_pending}
use Rattle.waiting.proofs.Pends.{pending_stays, a_pulse_waits, pulse_controls}
use Rattle.waiting.proofs.RecordMoves.{met_record}
use Rattle.stories.specs.Stories as story
use Rattle.stories.specs.Stories.{Takes, NoneAhead, Pulses, by_message, TwoMessages, MessagesWritten, BothRung}
use Rattle.stories.proofs.Begins.{a_signal_is_pending}
use Rattle.stories.proofs.OnePulse.{a_pulse_wakes}
use Rattle.stories.proofs.Calls.{pulses_call}
use Rattle.stories.proofs.Turns.{number_given}

-- a pending SPI of a window, whichever vCPU is asked for it
module _ (shape : Shape) (n : ℕ) (spi : AnSpi shape n) where
  no_sgi : 16 ≤ n
  no_sgi = omega (arith, spi.from)

  met : (v u : ℕ) → meets v n u ≡ true
  met v u = simp (le-ltb n 32 spi.from)

  waits : (cs : List Call) (s : List ℕ) → Controls shape s → pends shape 0 n s ≡ true → never (takes_pending shape 0 n) cs s ≡ true → pends shape 0 n (run cs s) ≡ true
  waits = a_pulse_waits shape 0 n (spi.there 0) no_sgi

  passes_message : (first count value : ℕ) (s : List ℕ) → Controls shape s → pends shape 0 n s ≡ true → pends shape 0 n (called (setspi_write first count value) s).state ≡ true
  passes_message first count value s h now =
      let c : Call = setspi_write first count value in
      pending_stays shape 0 n (spi.there 0) no_sgi c s h now (a_message_takes_no_pending first count 0x040 Dword value (called c s) shape 0 n s)

  -- an acknowledge that gives another leaves it
  passes_read : (u m : ℕ) (s : List ℕ) → Controls shape s → pends shape 0 n s ≡ true → (m ≡ n → ⊥) → (called (iar_read u) s).value ≡ m → pends shape 0 n (called (iar_read u) s).state ≡ true
  passes_read u m s h now other gave-m =
      pending_stays shape 0 n (spi.there 0) no_sgi (iar_read u) s h now
      (simp (iar_at, ne_eqb (called (iar_read u) s).value n (λ p. other (sym gave-m ∙ p)), and-false))

  -- its turn
  given_it : (u : ℕ) (s : List ℕ) → Controls shape s → u < shape.count → Takes shape u n s → pends shape 0 n s ≡ true → NoneAhead shape u n s
      → called (iar_read u) s ≡ gave n (given shape u (candidate_for shape u s n) s)
  given_it u s h exists takes now =
      number_given shape u n s h exists spi.below takes (ap (λ (r : InterruptRecord). r.pending) (met_record 0 n shape u (met 0 u) s) ∙ now) no_sgi

-- two that wait, whichever of them is given first
record Two (shape : Shape) (s : List ℕ) (sooner later : ℕ) : Type 0 where
  sooner_spi : AnSpi shape sooner
  later_spi : AnSpi shape later
  sooner_waits : pends shape 0 sooner s ≡ true
  later_waits_lem : pends shape 0 later s ≡ true
  apart : sooner ≡ later → ⊥

in_turn : (shape : Shape) (s : List ℕ) (one other : ℕ) → Two shape s one other → Two shape s other one → (sooner later : ℕ) → ((sooner ≡ one) × (later ≡ other)) ⊎ ((sooner ≡ other) × (later ≡ one))
    → Two shape s sooner later
in_turn shape s one other this that sooner later (inl (p, q)) = rw (p, q) this
in_turn shape s one other this that sooner later (inr (p, q)) = rw (p, q) that

module _ (h : TwoMessages) (z : MessagesWritten h) where
  abbrev shape : Shape
  shape = h.shape

  one_spi : AnSpi shape h.one
  one_spi = rung_spi shape h.first h.count z.window Setspi h.one z.one_inside

  other_spi : AnSpi shape h.other
  other_spi = rung_spi shape h.first h.count z.window Setspi h.other z.other_inside

  abbrev one_call : Call
  one_call = setspi_write h.first h.count h.one_writes

  abbrev other_call : Call
  other_call = setspi_write h.first h.count h.other_writes

  one_pulses : (v : ℕ) → Pulses shape v h.one one_call
  one_pulses v = by_message z.window z.one_inside z.one_number

  other_pulses : (v : ℕ) → Pulses shape v h.other other_call
  other_pulses v = by_message z.window z.other_inside z.other_written_lem

  -- the first message, and until the second
  controls₁ : Controls shape (story.one_written h).state
  controls₁ = every_other_call shape one_call refl h.words z.controls

  controls₂ : Controls shape (story.before_other h)
  controls₂ = pulse_controls shape 0 h.one h.meanwhile₁ (story.one_written h).state controls₁ z.one_untaken₁

  one_waits_lem : pends shape 0 h.one (story.before_other h) ≡ true
  one_waits_lem = waits shape h.one one_spi h.meanwhile₁ (story.one_written h).state controls₁ (a_signal_is_pending shape 0 h.one one_call (one_pulses 0) h.words z.controls) z.one_untaken₁

  -- the second, and until the first read
  controls₃ : Controls shape (story.other_written h).state
  controls₃ = every_other_call shape other_call refl (story.before_other h) controls₂

  controls₄ : Controls shape (story.messages_wait h)
  controls₄ = pulse_controls shape 0 h.other h.meanwhile₂ (story.other_written h).state controls₃ z.other_untaken₂

  one_still_waits : pends shape 0 h.one (story.messages_wait h) ≡ true
  one_still_waits =
      waits shape h.one one_spi h.meanwhile₂ (story.other_written h).state controls₃
      (passes_message shape h.one one_spi h.first h.count h.other_writes (story.before_other h) controls₂ one_waits_lem) z.one_untaken₂

  other_waits : pends shape 0 h.other (story.messages_wait h) ≡ true
  other_waits =
      waits shape h.other other_spi h.meanwhile₂ (story.other_written h).state controls₃ (a_signal_is_pending shape 0 h.other other_call (other_pulses 0) (story.before_other h) controls₂) z.other_untaken₂

  two : Two shape (story.messages_wait h) h.sooner h.later
  two =
      in_turn shape (story.messages_wait h) h.one h.other
      (record { sooner_spi = one_spi; later_spi = other_spi; sooner_waits = one_still_waits; later_waits_lem = other_waits; apart = z.two })
      (record { sooner_spi = other_spi; later_spi = one_spi; sooner_waits = other_waits; later_waits_lem = one_still_waits; apart = λ e. z.two (sym e) })
      h.sooner h.later z.either

  sooner_gives : story.sooner_read h ≡ gave h.sooner (given shape h.sooner_reader (candidate_for shape h.sooner_reader (story.messages_wait h) h.sooner) (story.messages_wait h))
  sooner_gives = given_it shape h.sooner two.sooner_spi h.sooner_reader (story.messages_wait h) controls₄ z.sooner_exists z.sooner_takes two.sooner_waits z.sooner_first

  -- until the second read
  controls₅ : Controls shape (story.sooner_read h).state
  controls₅ = every_other_call shape (iar_read h.sooner_reader) refl (story.messages_wait h) controls₄

  controls₆ : Controls shape (story.later_waits h)
  controls₆ = pulse_controls shape 0 h.later h.meanwhile₃ (story.sooner_read h).state controls₅ z.later_untaken₃

  later_still_waits : pends shape 0 h.later (story.later_waits h) ≡ true
  later_still_waits =
      waits shape h.later two.later_spi h.meanwhile₃ (story.sooner_read h).state controls₅
      (passes_read shape h.later two.later_spi h.sooner_reader h.sooner (story.messages_wait h) controls₄ two.later_waits_lem two.apart (ap (λ (o : Outcome). o.value) sooner_gives))
      z.later_untaken₃

  later_gives : story.later_read h ≡ gave h.later (given shape h.later_reader (candidate_for shape h.later_reader (story.later_waits h) h.later) (story.later_waits h))
  later_gives = given_it shape h.later two.later_spi h.later_reader (story.later_waits h) controls₆ z.later_exists z.later_takes later_still_waits z.later_first

  pub both_rung : BothRung h
  both_rung = record {
    one_accepted = ap (λ (o : Outcome). o.refusal) (pulses_call shape 0 h.one one_call (one_pulses 0) h.words z.controls);
    one_wakes = λ v sleeps. a_pulse_wakes shape v v h.one (met shape h.one one_spi v v) one_call (one_pulses v) h.words z.controls sleeps;
    other_accepted = ap (λ (o : Outcome). o.refusal) (pulses_call shape 0 h.other other_call (other_pulses 0) (story.before_other h) controls₂);
    other_wakes = λ v sleeps. a_pulse_wakes shape v v h.other (met shape h.other other_spi v v) other_call (other_pulses v) (story.before_other h) controls₂ sleeps;
    sooner_accepted = ap (λ (o : Outcome). o.refusal) sooner_gives;
    sooner_given = ap (λ (o : Outcome). o.value) sooner_gives;
    later_accepted = ap (λ (o : Outcome). o.refusal) later_gives;
    later_given = ap (λ (o : Outcome). o.value) later_gives;
  }
