-- Every call but setup and load, to any words that pass the test of refusal 6, is a chain of moves, each one that the call makes; a refused call
-- is the chain of none. Assumes nothing.
use Rattle.std.specs.Prelude.{Some}
use mathlib.Core.Path.{◌≡◌, refl, sym, ◌∙◌}
use mathlib.Core.Bool.{Bool, true, false, cond, ◌&&◌}
use mathlib.Core.List.{List}
use Prim.Native.Nat.{ℕ, ◌≤◌, ◌<◌}
use native.Mathlib.Omega.{arith}
use lib.Dec.{ltb}
use borrow.Author.Tests.{ltb-true}
use Rattle.register.specs.declared.cpu_interface.CpuInterfaceRegister.{CpuInterfaceRegister}
use Rattle.state.specs.declared.layout.Shape.{Shape}
use Rattle.state.specs.Lent.{shaped, validated}
use Rattle.state.specs.Layout.{Count, Limit}
use Rattle.state.specs.Words.{RecordThere, record_at, changed, enabled_at}
use Rattle.state.proofs.Tests.{left_true, right_true}
use Rattle.state.proofs.Validated.{validated_held, held_validated}
use Rattle.service.specs.Service as service
use Rattle.service.proofs.Soundness.{validated_sound}
use Rattle.acknowledge.specs.Acknowledge.{acknowledge, acknowledged}
use Rattle.end.specs.End.{served_here, only_active, deactivated}
use Rattle.delivery.proofs.Ended.{ended_keeps}
use Rattle.delivery.proofs.Registers.{write_cases}
use Rattle.cpu_interface.specs.CpuInterface as interface-looks
use Rattle.cpu_interface_frame.specs.CpuInterfaceFrame.{read_answer}
use Rattle.input.specs.declared.Signal.{Signal}
use Rattle.input.specs.declared.Signal.TheVariants.{Level, Edge}
use Rattle.input.specs.Input.{signalled}
use Rattle.moves.specs.Moves as moves
use Rattle.moves.specs.Moves.{Change, Changed, Kept, Given, Popped, Chain, none}
use Rattle.moves.proofs.Acknowledges.{each_acknowledge}
use Rattle.moves.proofs.Slots.{served, touched_kind}
use Rattle.moves.proofs.Sounds.{chain_sound, chain_others}
use Rattle.history.specs.History.{Call, Signals, is_start, called}
use Rattle.history.specs.Made.{ReadMade, WriteMade, ActionMade, DeedMade, Made}
use Rattle.history.proofs.Chains.{one, join, if_chain, place_chain}
use Rattle.history.proofs.Each.{each_call}

-- Deactivate
deactivated_chain : (shape : Shape) (v n : ℕ) (r : List ℕ) → v < shape.count → Chain shape (WriteMade v) r (deactivated shape v n r)
unfolding deactivated
deactivated_chain shape v n r exists = go (ltb n shape.limit && served_here v (record_at shape v n r)) refl
  where
    there : (b : Bool) → (ltb n shape.limit && b) ≡ true → RecordThere shape v n
    there b e = record { numbered = ltb-true n shape.limit (left_true (ltb n shape.limit) b e); banked = λ low. exists }

    ended : (c : Change) → List ℕ
    ended c = moves.moved shape (Changed v n c) r

    go : (b : Bool) → (ltb n shape.limit && served_here v (record_at shape v n r)) ≡ b
        → Chain shape (WriteMade v) r (cond b (ended moves.DeactivateInflight) (cond (ltb n shape.limit && only_active (record_at shape v n r)) (ended moves.Complete) r))
    go true e = one (Changed v n moves.DeactivateInflight) (refl, tt) (record { there = there (served_here v (record_at shape v n r)) e; fits = right_true (ltb n shape.limit) (served_here v (record_at shape v n r)) e })
    go false e =
        if_chain (ltb n shape.limit && only_active (record_at shape v n r))
        (λ q. one (Changed v n moves.Complete) (refl, tt) (record { there = there (only_active (record_at shape v n r)) q; fits = right_true (ltb n shape.limit) (only_active (record_at shape v n r)) q }))

module _ (shape : Shape) (s : List ℕ) (h : validated s ≡ Some shape) where
  sound : service.Sound shape s
  sound = validated_sound shape s h

  -- an acknowledge: an interrupt is given, or nothing changes
  acknowledged_chain : (v : ℕ) → (enabled_at shape s ≡ true → v < shape.count) → Chain shape (ReadMade v) s (read_answer (acknowledge shape v s) s (acknowledged shape v s)).state
  acknowledged_chain v looked = each_acknowledge shape s sound v looked (λ a r. Chain shape (ReadMade v) s (read_answer a s r).state) none (λ e exists p full. none) (λ e o. one (Given v e) refl o)

  -- a write to a CPU interface
  pub write_chain : (v value : ℕ) (register : CpuInterfaceRegister) → (interface-looks.write_register_looks_up register value ≡ true → v < shape.count)
      → Chain shape (WriteMade v) s (interface-looks.write_register shape v register value s)
  write_chain v value register looked =
      write_cases shape v s (Chain shape (WriteMade v) s) none value
      (λ exists k off. one (Kept v k value) refl (record { exists = exists; off_depth = off }))
      (λ exists n. ended_keeps shape v n s (served shape s sound v exists) (Chain shape (WriteMade v) s) none
      (λ some. one (Popped v) refl (record { exists = exists; some = some }))
      (λ some pop. join pop (deactivated_chain shape v n (service.popped shape v s) exists)))
      (λ exists n. deactivated_chain shape v n s exists)
      register looked

  -- a device's signal
  signal_chain : (v n : ℕ) → RecordThere shape v n → 16 ≤ n → (signal : Signal) → Chain shape (ActionMade shape (Signals v n signal)) s (changed shape v n (signalled signal) s)
  signal_chain v n there past (Level asserted) = one (Changed v n (moves.SetLevel asserted)) refl (record { there = there; fits = past })
  signal_chain v n there past Edge = one (Changed v n moves.Pulse) refl (record { there = there; fits = past })

  pub call_chain : (c : Call) → is_start c ≡ false → Chain shape (Made shape c) s (called c s).state
  call_chain =
      each_call shape s h (λ c d o. Chain shape (DeedMade shape d) s o.state)
      (λ c d r may bar. none)
      (λ c by x. none)
      (λ c v register x no. none)
      (λ c v register is looked full. acknowledged_chain v looked)
      (λ c v register value looked. write_chain v value register looked)
      (λ c v place width value at. place_chain shape v width value s sound place at)
      (λ c v n signal there past. signal_chain v n there past signal)

  -- and the words stay a state of this count and limit
  pub call_valid : (c : Call) → is_start c ≡ false → validated (called c s).state ≡ Some shape
  call_valid c e =
      let chain = call_chain c e in
      let after = chain_sound chain sound in
      let count = chain_others Count tt (λ m q made o p. absurd (omega (arith, touched_kind m Count p))) chain sound in
      let limit = chain_others Limit tt (λ m q made o p. absurd (omega (arith, touched_kind m Limit p))) chain sound in
      held_validated (called c s).state shape
      (record { stored = (validated_held s shape h).stored ∙ (λ i. shaped (sym count i) (sym limit i)); state = after.state; depths = after.depths })
