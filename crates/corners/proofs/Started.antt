-- Calls from a setup on, made cheap to compute: the state that setup leaves, built once, and what a call computes by, under one name. Assumes
-- nothing.
use mathlib.Core.Path.{◌≡◌, refl, ap, ◌∙◌}
use mathlib.Core.Bool.{true}
use mathlib.Core.List.{List, [], ◌∷◌}
use Prim.Native.Nat.{ℕ, zero, suc, ◌+◌}
use native.Mathlib.Nat.{zero-add}
use native.Mathlib.Omega.{arith}
use lib.Dec.{leb}
use lib.ListN.{length, set}
use Rattle.interrupt.specs.Record.{new_record, starting_record, set_enabled, set_pending, set_active, state_of, set_state, mark_inflight, synchronize_inflight, cancel_inflight, held, finish_inflight, deactivate_inflight, set_priority, set_trigger, set_cpu_target_mask, set_owner, set_level, pulse, complete}
use Rattle.interrupt.specs.Types.{decoded, starting_trigger}
use Rattle.word.specs.Word.{record_of, word_of}
use Rattle.word.specs.Fields.{packed, gathered}
use Rattle.register.specs.Distributor.{first_number, is_private, place_at, unfit, single, bit_word, byte_array, locate_in_frame, locate_distributor}
use Rattle.register.specs.CpuInterface.{registers, register_in, register_at, locate_cpu_interface}
use Rattle.register.specs.Ranges.{ranges, range_in, range_at}
use Rattle.state.specs.Loop.{up_to, every_below}
use Rattle.state.specs.Fresh.{fresh}
use Rattle.state.specs.declared.layout.Shape.{Shape}
use Rattle.state.specs.Layout.{size, interface_of, header_slot, vcpu_slot, slot_at}
use Rattle.state.specs.Words.{record_slot, start_at, with_bit, ready_bit, with_ready_bit}
use Rattle.state.specs.Lent.{in_limits, shaped, limited, validated}
use Rattle.bits.specs.Bits.{read_number, read_bits, clear_active, write_number, write_bits}
use Rattle.targets.specs.Targets.{read_target, write_target}
use Rattle.sgi.specs.Sgi.{write_sources, pend_sgi, sgi_target, send_sgi, write_sgir}
use Rattle.distributor.specs.Bytes.{read_priority, write_priority, read_bytes, write_bytes}
use Rattle.select.specs.Select.{candidate, best_among, highest_pending}
use Rattle.service.specs.Service.{stack_to, pushed, popped, dropped}
use Rattle.acknowledge.specs.Acknowledge.{group_priority, offer, lowest_from, source_of, pend_if_left, source_taken, given_record, given, answered, taken}
use Rattle.end.specs.End.{retire, deactivated, retired, ended, end_retired}
use Rattle.wake.specs.Wake.{wake_set}
use Rattle.controller.specs.Start as start
use Rattle.distributor_frame.specs.DistributorFrame.{read_v2_distributor, write_v2_distributor}
use Rattle.cpu_interface_frame.specs.CpuInterfaceFrame.{read_v2_cpu_interface, write_v2_cpu_interface}
use Rattle.input.specs.Input.{input_of, device_input}
use Rattle.message_frame.specs.MessageFrame.{decoded_window, locate_v2m, read_v2m, write_v2m}
use Rattle.answer.specs.Answer.{Outcome, gave}
use Rattle.history.specs.History.{Call, called}

-- the first n words, each by its place; the rest stay. `fresh` one word after the other, so that a computation builds the state once
abbrev pub overlaid : (ℕ → ℕ) → ℕ → ℕ → List ℕ → List ℕ
overlaid f k zero s = s
overlaid f k (suc n) [] = []
overlaid f k (suc n) (x ∷ s) = f k ∷ overlaid f (suc k) n s

one_more : (f : ℕ → ℕ) (k n : ℕ) (s : List ℕ) → set (overlaid f k n s) n (f (k + n)) ≡ overlaid f k (suc n) s
one_more f k zero [] = refl
one_more f k zero (x ∷ s) = ap (λ (j : ℕ). f j ∷ s) (omega arith)
one_more f k (suc n) [] = refl
one_more f k (suc n) (x ∷ s) = let e : k + suc n ≡ suc k + n = omega arith in rw e (ap (λ (t : List ℕ). f k ∷ t) (one_more f (suc k) n s))

filled : (f : ℕ → ℕ) (n : ℕ) (s : List ℕ) → up_to (λ k t. set t k (f k)) n s ≡ overlaid f 0 n s
unfolding up_to
filled f zero s = refl
filled f (suc n) s = ap (λ (t : List ℕ). set t n (f n)) (filled f n s) ∙ simp zero-add at (one_more f 0 n s)

abbrev pub started : Shape → List ℕ → List ℕ
started shape s = overlaid (start_at shape) 0 (size shape) s

fresh_started : (shape : Shape) (s : List ℕ) → fresh shape s ≡ started shape s
unfolding fresh
fresh_started shape s = filled (start_at shape) (size shape) s

-- what a setup within the limits, in words enough, comes to
pub setup_started : (count limit : ℕ) (s : List ℕ) → in_limits count limit ≡ true → leb (size (shaped count limit)) (length s) ≡ true → start.setup count limit s ≡ gave 0 (started (shaped count limit) s)
unfolding start.setup limited
setup_started count limit s within long = simp (within, long, fresh_started (shaped count limit) s)

-- a call; where this unfolds, so does all that the calls of a computed history go by
unfoldable pub computing : Call → List ℕ → Outcome
unfolding with_bit ready_bit with_ready_bit up_to limited new_record starting_record set_enabled set_pending set_active state_of set_state mark_inflight synchronize_inflight cancel_inflight held finish_inflight deactivate_inflight set_priority set_trigger set_cpu_target_mask set_owner set_level pulse complete decoded starting_trigger record_of word_of packed gathered first_number is_private place_at unfit single bit_word byte_array locate_in_frame locate_distributor registers register_in register_at locate_cpu_interface ranges range_in range_at every_below interface_of header_slot vcpu_slot slot_at record_slot validated read_number read_bits clear_active write_number write_bits read_target write_target write_sources pend_sgi sgi_target send_sgi write_sgir read_priority write_priority read_bytes write_bytes candidate best_among highest_pending stack_to pushed popped dropped group_priority offer lowest_from source_of pend_if_left source_taken given_record given answered taken retire deactivated retired ended end_retired wake_set read_v2_distributor write_v2_distributor read_v2_cpu_interface write_v2_cpu_interface input_of device_input decoded_window locate_v2m read_v2m write_v2m
computing c s = called c s
