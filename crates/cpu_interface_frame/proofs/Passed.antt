-- A vCPU that passed its look-up exists, so that what the access goes on to asks for is there, and the answer is the definition's; a read
-- that 7 refuses changes nothing. Each law takes what the steps of `read_at` or `write_at` have shown, one premise for each step. Assumes
-- nothing.
use Rattle.std.specs.Prelude.{Option, Some, None}
use mathlib.Core.Path.{◌≡◌, refl, sym, ap, ◌∙◌}
use mathlib.Core.Bool.{Bool, true, false}
use mathlib.Core.List.{List}
use Prim.Native.Nat.{ℕ}
use Rattle.register.specs.declared.frame.Refusal.TheVariants.{Vcpu, FullStack}
use Rattle.register.specs.declared.cpu_interface.CpuInterfaceRegister.{CpuInterfaceRegister}
use Rattle.state.specs.declared.layout.Shape.{Shape}
use Rattle.state.specs.Words.{enabled_at}
use Rattle.service.specs.Service.{Sound}
use Rattle.service.proofs.Soundness.{sound_served}
use Rattle.acknowledge.specs.Acknowledge.{refusal_of}
use Rattle.wake.specs.Halves.{quiet_among, wake_from}
use Rattle.cpu_interface.specs.CpuInterface.{read_register, after_read, write_register, write_retired, read_register_looks_up, write_register_looks_up, Reading, Writing}
use Rattle.delivery.proofs.Answers.{full-unchanged}
use Rattle.delivery.proofs.Registers.{each_read}
use Rattle.delivery.proofs.Sounds.{write_sound}
use Rattle.answer.specs.Answer.{Outcome, refused, gave, done, absent}
use Rattle.answer.proofs.Present.{present}
use Rattle.cpu_interface_frame.specs.Seers.{write_seers}
use Rattle.cpu_interface_frame.proofs.Wakes.{write_wakes}
use Rattle.cpu_interface_frame.specs.CpuInterfaceFrame.{read_interface_at, write_interface_at}

module _ {shape : Shape} {s : List ℕ} (v : ℕ) (h : Sound shape s) where
  pub interface_read : {register : CpuInterfaceRegister} → absent (read_register_looks_up register (enabled_at shape s)) shape v ≡ false → Reading shape v register s
  interface_read e = record { state = h.state; served = λ q. sound_served v h (present _ shape v e q) }

  pub interface_written : {register : CpuInterfaceRegister} {value : ℕ} → absent (write_register_looks_up register value) shape v ≡ false → Writing shape v register value s
  interface_written e = record { state = h.state; served = λ q. sound_served v h (present _ shape v e q) }

pub full_read : (shape : Shape) (v : ℕ) (register : CpuInterfaceRegister) (s : List ℕ) → read_register shape v register s ≡ None → after_read shape v register s ≡ s
full_read shape v register s = each_read shape v s (λ k looks_up answer r. answer ≡ None → r ≡ s) (λ k no looks_up x e. refl) (λ k q e. full-unchanged shape v s (ap refusal_of e)) register

module _ (shape : Shape) (v : ℕ) (register : CpuInterfaceRegister) (s : List ℕ) (looks q : Bool) (a : q ≡ absent looks shape v) where
  module _ (on : Bool) (d : on ≡ enabled_at shape s) (l : looks ≡ read_register_looks_up register on) where
    pub read_refused : q ≡ true → refused Vcpu s ≡ read_interface_at shape v register s
    read_refused p = simp (← d, ← l, ← a, p)

    module _ (p : q ≡ false) where
      pub read_passed : Sound shape s → Reading shape v register s
      read_passed h = interface_read v h (rw (l, d) at (sym a ∙ p))

      module _ (r : List ℕ) (answer : Option ℕ) (e : answer ≡ read_register shape v register s) (f : r ≡ after_read shape v register s) where
        pub read_answered : (x : ℕ) (out : Outcome) → answer ≡ Some x → out ≡ gave x r → out ≡ read_interface_at shape v register s
        read_answered x out g given = given ∙ simp (← d, ← l, ← a, p, ← e, g, f)

        pub read_full : answer ≡ None → refused FullStack r ≡ read_interface_at shape v register s
        read_full g = simp (← d, ← l, ← a, p, ← e, g, f, full_read shape v register s (sym e ∙ g))

  module _ (value : ℕ) (l : looks ≡ write_register_looks_up register value) where
    pub write_refused : q ≡ true → refused Vcpu s ≡ write_interface_at shape v register value s
    write_refused p = simp (← l, ← a, p)

    module _ (p : q ≡ false) (h : Sound shape s) where
      pub write_passed : Writing shape v register value s
      write_passed = interface_written v h (rw l at (sym a ∙ p))

      pub write_stays_sound : (r : List ℕ) → r ≡ write_register shape v register value s → Sound shape r
      write_stays_sound r e = rw e (write_sound shape v s h register value (present _ shape v (rw l at (sym a ∙ p))))

      pub write_answered : (r : List ℕ) (seers quiet retired : ℕ) (out : Outcome) → seers ≡ write_seers shape v value s → quiet ≡ quiet_among seers shape s → r ≡ write_register shape v register value s → retired ≡ write_retired shape v register value s
          → out ≡ done (wake_from quiet shape r) retired r → out ≡ write_interface_at shape v register value s
      write_answered r seers quiet retired out d e f g given = given ∙ simp (g, f, e, d, write_wakes shape v value s h register (present _ shape v (rw l at (sym a ∙ p))), ← l, ← a, p)
