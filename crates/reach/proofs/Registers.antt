-- Every register of a CPU interface goes through a change of lent words that the slots do not see. Assumes nothing.
use Rattle.std.specs.Prelude.{Option, Some, None}
use mathlib.Core.Path.{◌≡◌, refl, sym, ap, ◌∙◌}
use mathlib.Core.Bool.{Bool, true, false}
use mathlib.Core.List.{List}
use Prim.Native.Nat.{ℕ, ◌<◌}
use lib.ListN.{length}
use Rattle.interrupt.specs.Types.{is_valid}
use Rattle.register.specs.declared.cpu_interface.CpuInterfaceRegister.{CpuInterfaceRegister}
use Rattle.register.specs.declared.cpu_interface.CpuInterfaceRegister.TheVariants.{Ctlr, Pmr, Bpr, Iar, Eoir, Rpr, Hppir, Abpr, Aiar, Aeoir, Ahppir, Apr, Iidr, Dir, Other}
use Rattle.state.specs.declared.layout.Shape.{Shape}
use Rattle.state.specs.declared.layout.InterfaceValue.{InterfaceValue}
use Rattle.state.specs.declared.layout.InterfaceValue.TheVariants.{Control, PriorityMask, BinaryPoint}
use Rattle.state.specs.Words.{interface_at, with_interface, enabled_at}
use Rattle.distributor.specs.Values.{iidr}
use Rattle.select.specs.Select.{highest_pending}
use Rattle.service.specs.Service.{running, Sound}
use Rattle.service.proofs.Soundness.{sound_served}
use Rattle.acknowledge.specs.Acknowledge.{offer, answered, taken, acknowledge, acknowledged}
use Rattle.end.specs.End.{decoded_eoi, eoi_state, eoi_retired, dir_state, dir_retired}
use Rattle.cpu_interface.specs.CpuInterface.{WriteRule, Ignored, Keeps, Ends, Deactivates, rule_of, write_by, retired_by, write_by_looks_up, read_register, after_read, read_register_looks_up, write_register, write_retired, write_register_looks_up}
use Rattle.cpu_interface_frame.specs.CpuInterfaceFrame.{read_answer}
use Rattle.reach.proofs.Readings.{Alike, enabled_alike, interface_alike, highest_alike, retired_alike, running_alike, acknowledge_alike}
use Rattle.reach.proofs.Around.{Around, Passes, none_passes}
use Rattle.reach.proofs.Interface.{interface_through, deactivated_through, acknowledged_passes, ended_passes, end_retired_alike}
use Rattle.reach.proofs.Outcomes.{Carries, gave_carries}
use Rattle.interrupt.specs.declared.types.IntId.{IntId}

-- a write that passes, and retires the same
pub record Written (wrap : List ℕ → List ℕ) (x : List ℕ → ℕ) (g : List ℕ → List ℕ) (s : List ℕ) : Type 0 where
  pub alike : x (wrap s) ≡ x s
  pub passes : Passes wrap g s

-- while the Distributor is off an acknowledge reads and changes nothing
module _ (shape : Shape) (v : ℕ) (s : List ℕ) (off : enabled_at shape s ≡ false) where
  off_answer : acknowledge shape v s ≡ Some 1023
  unfolding offer answered
  off_answer = simp off

  off_state : acknowledged shape v s ≡ s
  unfolding offer taken
  off_state = simp off

module _ {shape : Shape} {wrap : List ℕ → List ℕ} (around : Around shape wrap) (s : List ℕ) (h : Sound shape s) (v : ℕ) where
  abbrev same : Alike shape (wrap s) s
  same = around.alike s h.state

  answer_carries : (a : List ℕ → Option ℕ) (g : List ℕ → List ℕ) → a (wrap s) ≡ a s → Passes wrap g s → Carries wrap (λ r. read_answer (a r) r (g r)) s
  answer_carries a g alike p = go (a s) refl
    where
      go : (b : Option ℕ) → a s ≡ b → Carries wrap (λ r. read_answer (a r) r (g r)) s
      go (Some x) e = record { same = simp (alike, e, p.same); long = simp e p.long }
      go None e = record { same = simp (alike, e); long = simp e }

  acknowledge_carries : (enabled_at shape s ≡ true → v < shape.count) → Carries wrap (λ r. read_answer (acknowledge shape v r) r (acknowledged shape v r)) s
  acknowledge_carries looked = go (enabled_at shape s) refl
    where
      go : (b : Bool) → enabled_at shape s ≡ b → Carries wrap (λ r. read_answer (acknowledge shape v r) r (acknowledged shape v r)) s
      go true e =
          let exists = looked e in
          answer_carries (acknowledge shape v) (acknowledged shape v) (acknowledge_alike same v exists (h.depths v exists)) (acknowledged_passes around v exists s (sound_served v h exists))
      go false e =
          let too : enabled_at shape (wrap s) ≡ false = enabled_alike same ∙ e in
          answer_carries (acknowledge shape v) (acknowledged shape v) (off_answer shape v (wrap s) too ∙ sym (off_answer shape v s e))
          (record { same = off_state shape v (wrap s) too ∙ ap wrap (sym (off_state shape v s e)); long = ap length (off_state shape v s e) })

  constant_carries : (x : ℕ) → Carries wrap (λ r. read_answer (Some x) r r) s
  constant_carries x = gave_carries s (λ r. x) refl

  kept_carries : (k : InterfaceValue) → v < shape.count → Carries wrap (λ r. read_answer (Some (interface_at shape v k r)) r r) s
  kept_carries k exists = gave_carries s (interface_at shape v k) (interface_alike same v exists k)

  highest_carries : v < shape.count → Carries wrap (λ r. read_answer (Some (highest_pending shape v r)) r r) s
  highest_carries exists = gave_carries s (highest_pending shape v) (highest_alike same v exists)

  pub register_read : (register : CpuInterfaceRegister) → (read_register_looks_up register (enabled_at shape s) ≡ true → v < shape.count)
      → Carries wrap (λ r. read_answer (read_register shape v register r) r (after_read shape v register r)) s
  register_read Ctlr looked = kept_carries Control (looked refl)
  register_read Pmr looked = kept_carries PriorityMask (looked refl)
  register_read Bpr looked = kept_carries BinaryPoint (looked refl)
  register_read Iar looked = acknowledge_carries looked
  register_read Eoir looked = constant_carries 0
  register_read Rpr looked = gave_carries s (running shape v) (running_alike same v (looked refl) (h.depths v (looked refl)))
  register_read Hppir looked = highest_carries (looked refl)
  register_read Abpr looked = kept_carries BinaryPoint (looked refl)
  register_read Aiar looked = acknowledge_carries looked
  register_read Aeoir looked = constant_carries 0
  register_read Ahppir looked = highest_carries (looked refl)
  register_read Apr looked = constant_carries 0
  register_read Iidr looked = constant_carries iidr
  register_read Dir looked = constant_carries 0
  register_read Other looked = constant_carries 0

  -- a write
  module _ (value : ℕ) where
    nothing : Written wrap (λ r. 1023) (λ r. r) s
    nothing = record { alike = refl; passes = none_passes s }

    kept_written : (k : InterfaceValue) → v < shape.count → Written wrap (λ r. 1023) (with_interface shape v k value) s
    kept_written k exists = record { alike = refl; passes = interface_through around v exists k value s h.state }

    ended_written : (number : Option IntId) → (is_valid number ≡ true → v < shape.count) → Written wrap (eoi_retired shape v number) (eoi_state shape v number) s
    ended_written None looked = nothing
    ended_written (Some n) looked =
        let served = sound_served v h (looked refl) in
        record { alike = end_retired_alike around v (looked refl) s served n.0; passes = ended_passes around v (looked refl) s served n.0 }

    deactivated_written : (number : Option IntId) → (is_valid number ≡ true → v < shape.count) → Written wrap (dir_retired shape v number) (dir_state shape v number) s
    deactivated_written None looked = nothing
    deactivated_written (Some n) looked = record { alike = retired_alike same v (looked refl) n.0; passes = deactivated_through around v (looked refl) n.0 s h.state }

    written_by : (rule : WriteRule) → (write_by_looks_up rule value ≡ true → v < shape.count) → Written wrap (retired_by shape v rule value) (write_by shape v rule value) s
    written_by Ignored looked = nothing
    written_by (Keeps k) looked = kept_written k (looked refl)
    written_by Ends looked = ended_written (decoded_eoi value) looked
    written_by Deactivates looked = deactivated_written (decoded_eoi value) looked

    pub register_written : (register : CpuInterfaceRegister) → (write_register_looks_up register value ≡ true → v < shape.count)
        → Written wrap (write_retired shape v register value) (write_register shape v register value) s
    register_written register = written_by (rule_of register).writes
