-- The hypotheses of each story hold of its example, computed, and so what the story promises happens there. Assumes nothing.
use mathlib.Core.Path.{◌≡◌, refl, sym, ap, subst}
use mathlib.Core.Bool.{Bool, true, false, not, ◌&&◌, ◌||◌, false≢true}
use mathlib.Core.List.{List}
use mathlib.Core.Logic.{inr}
use Prim.Native.Nat.{ℕ}
use native.Mathlib.Omega.{arith}
use lib.Dec.{leb, ltb}
use lib.ListN.{length}
use borrow.Author.Tests.{ltb-true}
use Rattle.register.specs.declared.frame.AccessWidth.TheVariants.{Dword}
use Rattle.state.specs.declared.layout.Shape.{Shape}
use Rattle.state.specs.Lent.{shaped, in_limits}
use Rattle.state.specs.Layout.{size}
use Rattle.state.specs.Loop.{every_below}
use Rattle.state.proofs.Tests.{left_true, right_true, every_at}
use Rattle.select.specs.Select.{offered, candidate, candidate_for, both_on}
use Rattle.acknowledge.specs.Acknowledge.{preempts}
use Rattle.interrupt.specs.declared.record.InterruptRecord.{InterruptRecord}
use Rattle.interrupt.specs.Record.{is_ready}
use Rattle.interrupt.specs.With.{with_pending}
use Rattle.state.specs.declared.layout.InterfaceValue.TheVariants.{PriorityMask}
use Rattle.state.specs.Words.{record_at, interface_at}
use Rattle.answer.specs.Answer.{Outcome, gave}
use Rattle.lawful.specs.Lawful.{Controls}
use Rattle.history.specs.History.{Call, Setup, ReadDistributor, called, run, no_start, iar_read, eoir_write, setspi_write}
use Rattle.history.proofs.Always.{a_fresh_controller, same_controller}
use Rattle.waiting.specs.Waiting.{bit}
use Rattle.corners.specs.Corners.{zeros}
use Rattle.corners.proofs.Started.{started, setup_started, computing}
use Rattle.stories.specs.Stories.{Takes, ahead, NoneAhead, TwoRings, both_wait, first_read, one_waits, second_read, Sleeping, by_message, PulseInFlight, turn, read_again, InService, SignalInFlight, signal_turn, signal_read_again, SignalInService, OnePulse, one_turn, one_read, Untaken, TwoMessages, one_written, messages_wait, sooner_read, later_waits, later_read, MessagesWritten}
use Rattle.handlers.specs.Handlers.{Handler, next_read, running_read, later, Runs, Foremost}
use Rattle.handlers.proofs.Shielded.{a_handler_is_shielded}
use Rattle.held_lines.specs.HeldLines.{HeldLine, line_waits, line_retires, line_waits_again, Holding, Retirement}
use Rattle.held_lines.proofs.Silence.{the_ring_is_never_silent}
use Rattle.stories.proofs.OnePulse.{a_pulse_is_given}
use Rattle.stories.proofs.TwoMessages.{both_rung}
use Rattle.stories.proofs.TwoRings.{both_given}
use Rattle.stories.proofs.PulseInFlight.{given_again}
use Rattle.stories.proofs.SignalInFlight.{signal_given_again}
use Rattle.story_examples.specs.Examples.{lent, after_calls, before_rings, two_rings_from, rings_example, before_pulse, pulse_in_flight_from, pulse_example, signal_in_flight_from, message_example, before_messages, two_messages_from, two_messages_example, one_message_from, one_message_example, before_handler, neighbour_rings, urgent_rings, handler_from, handler_example, before_line, held_line_from, held_line_example}

-- the words after a setup and calls, from the state that setup leaves built once
module _ (count limit : ℕ) (cs : List Call) where
  abbrev begun : List ℕ
  begun = run cs (started (shaped count limit) (lent count limit))

  module _ (within : in_limits count limit ≡ true) (long : leb (size (shaped count limit)) (length (lent count limit)) ≡ true) where
    set_up : called (Setup count limit) (lent count limit) ≡ gave 0 (started (shaped count limit) (lent count limit))
    set_up = setup_started count limit (lent count limit) within long

    same_words : begun ≡ after_calls count limit cs
    unfolding run
    same_words = ap (λ (o : Outcome). run cs o.state) (sym set_up)

    -- a controller, by what holds of every history
    controls : no_start cs ≡ true → Controls (shaped count limit) begun
    controls others =
        same_controller (shaped count limit) cs others (started (shaped count limit) (lent count limit))
        (subst (λ (o : Outcome). Controls (shaped count limit) o.state) set_up
        (a_fresh_controller count limit (lent count limit) (ap (λ (o : Outcome). o.refusal) set_up)))

-- nothing goes before n, tested number by number
abbrev tested : Shape → ℕ → ℕ → List ℕ → Bool
tested shape v n s = every_below (λ m. not (candidate shape v s m) || not (ahead shape v s m n)) shape.limit

none_ahead : (shape : Shape) (v n : ℕ) (s : List ℕ) → tested shape v n s ≡ true → NoneAhead shape v n s
none_ahead shape v n s e m below c =
    go (candidate shape v s m) (ahead shape v s m n) c (every_at (λ k. not (candidate shape v s k) || not (ahead shape v s k n)) shape.limit m e below)
  where
    go : (a b : Bool) → a ≡ true → (not a || not b) ≡ true → b ≡ false
    go a false p q = refl
    go true true p q = absurd (false≢true q)
    go false true p q = absurd (false≢true p)

-- a vCPU can take a number, tested
abbrev can_take : Shape → ℕ → ℕ → List ℕ → Bool
can_take shape v n s =
    let r : InterruptRecord = record_at shape v n s in
    both_on shape v s && (offered v n r && (is_ready (with_pending true r) && (ltb r.priority.0 (interface_at shape v PriorityMask s) && preempts shape v s (candidate_for shape v s n))))

can_take_lem : (shape : Shape) (v n : ℕ) (s : List ℕ) → can_take shape v n s ≡ true → Takes shape v n s
can_take_lem shape v n s e =
    let r : InterruptRecord = record_at shape v n s in
    let e₁ = right_true (both_on shape v s) _ e in
    let e₂ = right_true (offered v n r) _ e₁ in
    let e₃ = right_true (is_ready (with_pending true r)) _ e₂ in
    let unmasked : Bool = ltb r.priority.0 (interface_at shape v PriorityMask s) in
    record {
      on = left_true (both_on shape v s) _ e;
      for_it = left_true (offered v n r) _ e₁;
      ready = left_true (is_ready (with_pending true r)) _ e₂;
      unmasked = ltb-true _ _ (left_true unmasked _ e₃);
      preempts = right_true unmasked _ e₃;
    }

-- two rings
abbrev asleep : List ℕ
asleep = begun 3 34 before_rings

abbrev rings : TwoRings
rings = two_rings_from asleep

rings_controls : Controls (shaped 3 34) asleep
unfolding zeros before_rings
rings_controls = controls 3 34 before_rings refl refl refl

rings_takes : Takes (shaped 3 34) 2 3 asleep
unfolding run zeros before_rings computing
rings_takes = can_take_lem (shaped 3 34) 2 3 asleep refl

first_turn : tested (shaped 3 34) 2 3 (both_wait rings) ≡ true
unfolding run zeros before_rings two_rings_from computing
first_turn = refl

second_turn : tested (shaped 3 34) 2 3 (one_waits rings) ≡ true
unfolding run zeros before_rings two_rings_from computing
second_turn = refl

rings_sleeping : Sleeping rings
unfolding run zeros before_rings two_rings_from computing
rings_sleeping = record {
  controls = rings_controls;
  target_exists = omega arith;
  one_exists = omega arith;
  other_exists = omega arith;
  two = λ e. omega (arith, e);
  is_sgi_lem = omega arith;
  one_rings_lem = record { numbered = refl; named = refl };
  other_rings_lem = record { numbered = refl; named = refl };
  asleep = refl;
  takes = rings_takes;
  unrung = refl;
  elsewhere₁ = refl;
  elsewhere₂ = refl;
  elsewhere₃ = refl;
  elsewhere₄ = refl;
  elsewhere₅ = refl;
  none_ahead₁ = none_ahead (shaped 3 34) 2 3 (both_wait rings) first_turn;
  none_ahead₂ = none_ahead (shaped 3 34) 2 3 (one_waits rings) second_turn;
}

pub sleeping : Sleeping rings_example
unfolding zeros
sleeping = subst (λ (s : List ℕ). Sleeping (two_rings_from s)) (same_words 3 34 before_rings refl refl) rings_sleeping

pub first_read_lem : (first_read rings_example).value ≡ 3
unfolding two_rings_from
first_read_lem = (both_given rings_example sleeping).first_given

pub second_read_lem : (second_read rings_example).value ≡ 0x403
unfolding two_rings_from
second_read_lem = (both_given rings_example sleeping).second_given

-- a pulse in flight
abbrev in_service : List ℕ
in_service = begun 1 34 before_pulse

abbrev pulses : PulseInFlight
pulses = pulse_in_flight_from in_service

pulses_controls : Controls (shaped 1 34) in_service
unfolding zeros before_pulse
pulses_controls = controls 1 34 before_pulse refl refl refl

pulses_takes : Takes (shaped 1 34) 0 33 (turn pulses)
unfolding run zeros before_pulse pulse_in_flight_from computing
pulses_takes = can_take_lem (shaped 1 34) 0 33 (turn pulses) refl

its_turn : tested (shaped 1 34) 0 33 (turn pulses) ≡ true
unfolding run zeros before_pulse pulse_in_flight_from computing
its_turn = refl

pulses_served : InService pulses
unfolding run zeros before_pulse pulse_in_flight_from computing
pulses_served = record {
  controls = pulses_controls;
  there = record { numbered = omega arith; banked = λ e. omega (arith, e) };
  no_sgi = omega arith;
  in_flight = refl;
  its_retirer = refl;
  retired = refl;
  untaken₁ = refl;
  untaken₂ = refl;
  reader_exists = omega arith;
  its_reader = refl;
  takes = pulses_takes;
  none_ahead = none_ahead (shaped 1 34) 0 33 (turn pulses) its_turn;
}

served_words : in_service ≡ after_calls 1 34 before_pulse
unfolding zeros
served_words = same_words 1 34 before_pulse refl refl

pub served : InService pulse_example
served = subst (λ (s : List ℕ). InService (pulse_in_flight_from s)) served_words pulses_served

pub read_again_lem : (read_again pulse_example).value ≡ 33
unfolding pulse_in_flight_from
read_again_lem = (given_again pulse_example served).given_again

-- a message in flight
abbrev signals : SignalInFlight
signals = signal_in_flight_from (setspi_write 32 2 33) in_service

signals_takes : Takes (shaped 1 34) 0 33 (signal_turn signals)
unfolding run zeros before_pulse signal_in_flight_from computing
signals_takes = can_take_lem (shaped 1 34) 0 33 (signal_turn signals) refl

signals_turn : tested (shaped 1 34) 0 33 (signal_turn signals) ≡ true
unfolding run zeros before_pulse signal_in_flight_from computing
signals_turn = refl

message_served : SignalInService signals
unfolding run zeros before_pulse signal_in_flight_from computing
message_served = record {
  controls = pulses_controls;
  pulses = by_message refl refl refl;
  in_flight = refl;
  its_retirer = refl;
  retired = refl;
  untaken₁ = refl;
  untaken₂ = refl;
  reader_exists = omega arith;
  its_reader = refl;
  takes = signals_takes;
  none_ahead = none_ahead (shaped 1 34) 0 33 (signal_turn signals) signals_turn;
}

pub served_messages : SignalInService message_example
served_messages = subst (λ (s : List ℕ). SignalInService (signal_in_flight_from (setspi_write 32 2 33) s)) served_words message_served

pub message_read_again : (signal_read_again message_example).value ≡ 33
unfolding signal_in_flight_from
message_read_again = (signal_given_again message_example served_messages).given_again

-- two messages
abbrev card_words : List ℕ
card_words = begun 2 37 before_messages

abbrev card : TwoMessages
card = two_messages_from card_words

card_controls : Controls (shaped 2 37) card_words
unfolding zeros before_messages
card_controls = controls 2 37 before_messages refl refl refl

sooner_turn : tested (shaped 2 37) 1 33 (messages_wait card) ≡ true
unfolding run zeros before_messages two_messages_from computing
sooner_turn = refl

later_turn : tested (shaped 2 37) 1 34 (later_waits card) ≡ true
unfolding run zeros before_messages two_messages_from computing
later_turn = refl

card_written : MessagesWritten card
unfolding run zeros before_messages two_messages_from computing
card_written = record {
  controls = card_controls;
  window = refl;
  one_inside = refl;
  other_inside = refl;
  one_number = refl;
  other_written_lem = refl;
  two = λ e. omega (arith, e);
  one_untaken₁ = refl;
  one_untaken₂ = refl;
  other_untaken₂ = refl;
  either = inr (refl, refl);
  sooner_exists = omega arith;
  sooner_takes = can_take_lem (shaped 2 37) 1 33 (messages_wait card) refl;
  sooner_first = none_ahead (shaped 2 37) 1 33 (messages_wait card) sooner_turn;
  later_untaken₃ = refl;
  later_exists = omega arith;
  later_takes = can_take_lem (shaped 2 37) 1 34 (later_waits card) refl;
  later_first = none_ahead (shaped 2 37) 1 34 (later_waits card) later_turn;
}

-- whom the first message wakes, and what vCPU 1 is given
pub record CardRings (h : TwoMessages) : Type 0 where
  pub wakes : bit 1 (one_written h).wake ≡ true
  pub first_read_lem : (sooner_read h).value ≡ 33
  pub second_read_lem : (later_read h).value ≡ 34

card_rings : CardRings card
unfolding run zeros before_messages two_messages_from computing
card_rings =
    let both = both_rung card card_written in
    record {
      wakes = both.one_wakes 1 (record { exists = omega arith; asleep = refl; takes = can_take_lem (shaped 2 37) 1 34 (one_written card).state refl });
      first_read_lem = both.sooner_given;
      second_read_lem = both.later_given;
    }

card_same : card_words ≡ after_calls 2 37 before_messages
unfolding zeros
card_same = same_words 2 37 before_messages refl refl

pub written : MessagesWritten two_messages_example
written = subst (λ (s : List ℕ). MessagesWritten (two_messages_from s)) card_same card_written

pub both_messages : CardRings two_messages_example
both_messages = subst (λ (s : List ℕ). CardRings (two_messages_from s)) card_same card_rings

-- one message
abbrev message : OnePulse
message = one_message_from card_words

message_turn : tested (shaped 2 37) 1 34 (one_turn message) ≡ true
unfolding run zeros before_messages one_message_from computing
message_turn = refl

message_untaken : Untaken message
unfolding run zeros before_messages one_message_from computing
message_untaken = record {
  controls = card_controls;
  pulses = by_message refl refl refl;
  untaken = refl;
  reader_exists = omega arith;
  its_reader = refl;
  takes = can_take_lem (shaped 2 37) 1 34 (one_turn message) refl;
  none_ahead = none_ahead (shaped 2 37) 1 34 (one_turn message) message_turn;
}

pub untaken : Untaken one_message_example
untaken = subst (λ (s : List ℕ). Untaken (one_message_from s)) card_same message_untaken

pub message_read : (one_read one_message_example).value ≡ 34
unfolding one_message_from
message_read = (a_pulse_is_given one_message_example untaken).given

-- a handler
abbrev before_it : List ℕ
before_it = begun 2 36 before_handler

handler_controls : Controls (shaped 2 36) before_it
unfolding zeros before_handler
handler_controls = controls 2 36 before_handler refl refl refl

neighbour_runs : Runs (handler_from neighbour_rings before_it)
unfolding run zeros before_handler neighbour_rings computing
neighbour_runs = record { controls = handler_controls; exists = omega arith; numbered = omega arith; given = refl; unended = refl }

urgent_runs : Runs (handler_from urgent_rings before_it)
unfolding run zeros before_handler urgent_rings computing
urgent_runs = record { controls = handler_controls; exists = omega arith; numbered = omega arith; given = refl; unended = refl }

urgent_turn : tested (shaped 2 36) 0 35 (later (handler_from urgent_rings before_it)) ≡ true
unfolding run zeros before_handler urgent_rings computing
urgent_turn = refl

urgent_waits : Foremost (handler_from urgent_rings before_it) 35
unfolding run zeros before_handler urgent_rings computing
urgent_waits = record { numbered = omega arith; on = refl; waits = refl; none_ahead = none_ahead (shaped 2 36) 0 35 (later (handler_from urgent_rings before_it)) urgent_turn }

-- what runs, what is given while it does, and what after its EOIR
pub record NeighbourWaits (h : Handler) : Type 0 where
  pub running : (running_read h).value ≡ 0x40
  pub waits : (next_read false h).value ≡ 1023
  pub then_given : (called (iar_read 0) (called (eoir_write 0 33) (later h)).state).value ≡ 34

neighbour_at : NeighbourWaits (handler_from neighbour_rings before_it)
unfolding run zeros before_handler neighbour_rings computing
neighbour_at = record { running = (a_handler_is_shielded (handler_from neighbour_rings before_it) neighbour_runs).runs refl; waits = refl; then_given = refl }

urgent_at : (next_read false (handler_from urgent_rings before_it)).value ≡ 35
unfolding run zeros before_handler urgent_rings computing
urgent_at = ((a_handler_is_shielded (handler_from urgent_rings before_it) urgent_runs).smaller_given false 35 urgent_waits refl (omega arith)).given

handler_words : before_it ≡ after_calls 2 36 before_handler
unfolding zeros
handler_words = same_words 2 36 before_handler refl refl

pub neighbour_running : Runs (handler_example neighbour_rings)
neighbour_running = subst (λ (s : List ℕ). Runs (handler_from neighbour_rings s)) handler_words neighbour_runs

pub urgent_running : Runs (handler_example urgent_rings)
urgent_running = subst (λ (s : List ℕ). Runs (handler_from urgent_rings s)) handler_words urgent_runs

-- 0x47 runs at 0x40, and while it does SPI 34, of 0x41, waits; when it is ended SPI 34 is given
pub neighbour_waits : NeighbourWaits (handler_example neighbour_rings)
neighbour_waits = subst (λ (s : List ℕ). NeighbourWaits (handler_from neighbour_rings s)) handler_words neighbour_at

-- SPI 35, of 0x3f, is given
pub urgent_read : (next_read false (handler_example urgent_rings)).value ≡ 35
urgent_read = subst (λ (s : List ℕ). (next_read false (handler_from urgent_rings s)).value ≡ 35) handler_words urgent_at

-- a held line
abbrev line_words : List ℕ
line_words = begun 2 34 before_line

line_controls : Controls (shaped 2 34) line_words
unfolding zeros before_line
line_controls = controls 2 34 before_line refl refl refl

abbrev its : HeldLine
its = held_line_from line_words

line_holds : Holding its
unfolding run zeros before_line held_line_from computing
line_holds = record {
  controls = line_controls;
  there = record { numbered = omega arith; banked = λ e. omega (arith, e) };
  no_sgi = omega arith;
  level = refl;
  held₁ = refl;
}

line_retires_lem : Retirement its
unfolding run zeros before_line held_line_from computing
line_retires_lem = record { held₂ = refl; its_retirer = refl; retired = refl; held₃ = refl }

-- vCPU 1 can take it while it waits, first and again, and nothing goes before it
first_takes : Takes (shaped 2 34) 1 33 (line_waits its)
unfolding run zeros before_line held_line_from computing
first_takes = can_take_lem (shaped 2 34) 1 33 (line_waits its) refl

again_takes : Takes (shaped 2 34) 1 33 (line_waits_again its)
unfolding run zeros before_line held_line_from computing
again_takes = can_take_lem (shaped 2 34) 1 33 (line_waits_again its) refl

line_first : tested (shaped 2 34) 1 33 (line_waits its) ≡ true
unfolding run zeros before_line held_line_from computing
line_first = refl

line_again : tested (shaped 2 34) 1 33 (line_waits_again its) ≡ true
unfolding run zeros before_line held_line_from computing
line_again = refl

-- what ISPENDR reads after the clears, what vCPU 1 is given, whom its EOIR wakes, and what it is given after one more clear
pub record RingsOn (h : HeldLine) : Type 0 where
  pub pending : (called (ReadDistributor 0 0x204 Dword) (line_waits h)).value ≡ 0x2
  pub given : (called (iar_read 1) (line_waits h)).value ≡ 33
  pub wakes : (line_retires h).wake ≡ 0x2
  pub given_again : (called (iar_read 1) (line_waits_again h)).value ≡ 33

line_at : RingsOn its
unfolding run zeros before_line held_line_from computing
line_at = record {
  pending = refl;
  given = (the_ring_is_never_silent its line_holds).waits.given 1 (record { exists = omega arith; its_reader = refl; takes = first_takes }) (none_ahead (shaped 2 34) 1 33 (line_waits its) line_first);
  wakes = refl;
  given_again =
      ((the_ring_is_never_silent its line_holds).again line_retires_lem).still_waits.given 1 (record { exists = omega arith; its_reader = refl; takes = again_takes }) (none_ahead (shaped 2 34) 1 33 (line_waits_again its) line_again);
}

line_words_lem : line_words ≡ after_calls 2 34 before_line
unfolding zeros
line_words_lem = same_words 2 34 before_line refl refl

pub line_held : Holding held_line_example
line_held = subst (λ (s : List ℕ). Holding (held_line_from s)) line_words_lem line_holds

pub line_retired : Retirement held_line_example
line_retired = subst (λ (s : List ℕ). Retirement (held_line_from s)) line_words_lem line_retires_lem

pub line_rings_on : RingsOn held_line_example
line_rings_on = subst (λ (s : List ℕ). RingsOn (held_line_from s)) line_words_lem line_at
