-- No access to a CPU interface makes a state one that refusal 6 is for: every depth stays within the stack's capacity. Assumes nothing.
use mathlib.Core.Path.{◌≡◌, refl}
use mathlib.Core.Bool.{true}
use mathlib.Core.List.{List}
use Prim.Native.Nat.{ℕ, ◌-◌, ◌≤◌, ◌<◌}
use native.Mathlib.Omega.{arith}
use Rattle.register.specs.declared.cpu_interface.CpuInterfaceRegister.{CpuInterfaceRegister}
use Rattle.word.proofs.Cases.{same_or}
use Rattle.state.specs.declared.layout.Shape.{Shape}
use Rattle.state.specs.declared.layout.InterfaceValue.{InterfaceValue}
use Rattle.state.specs.declared.layout.InterfaceValue.TheVariants.{Depth}
use Rattle.state.specs.Layout.{Interface, Stack, stack_capacity}
use Rattle.state.specs.Words.{kept, with_interface, enabled_at}
use Rattle.state.proofs.Accessors.{put_room, put_other}
use Rattle.state.proofs.Canonical.{OffStack, off_stack_apart}
use Rattle.state.proofs.SlotKinds.{kinds_apart, apart_record}
use Rattle.service.specs.Service.{depth_at, popped, Served, Sound}
use Rattle.service.proofs.Soundness.{sound_served}
use Rattle.service.proofs.Stacks.{popped_room, popped_others, popped_depth}
use Rattle.acknowledge.specs.Acknowledge.{acknowledged}
use Rattle.end.specs.End.{deactivated, ended}
use Rattle.cpu_interface.specs.CpuInterface.{after_read, write_register, read_register_looks_up, write_register_looks_up}
use Rattle.delivery.proofs.Answers.{acknowledged-cases}
use Rattle.delivery.proofs.Deactivation.{deactivated_room, deactivated_others}
use Rattle.delivery.proofs.Ended.{ended_keeps}
use Rattle.delivery.proofs.Registers.{read_cases, write_cases}
use Rattle.delivery.proofs.Given.{given_room, given_depth, given_depths}

module _ (shape : Shape) (v : ℕ) (s : List ℕ) (h : Sound shape s) (exists : v < shape.count) where
  served : Served shape v s
  served = sound_served v h exists

  pub acknowledged_sound : Sound shape (acknowledged shape v s)
  acknowledged_sound =
      acknowledged-cases shape v s served (Sound shape) h
      (λ e p g. let room : depth_at shape v s < stack_capacity = g.room in record {
        state = given_room shape v e s g;
        depths = λ u x. same_or u v (λ w. rw (w, given_depth shape v e s g) (omega arith)) (λ d. rw (given_depths shape v e s g u x d) (h.depths u x));
      })

  popped_sound : 0 < depth_at shape v s → Sound shape (popped shape v s)
  popped_sound some = record {
    state = popped_room shape v s served some;
    depths = λ u x. same_or u v
        (λ w. let deep : depth_at shape v s ≤ stack_capacity = h.depths v exists in rw (w, popped_depth shape v s served some) (omega arith))
        (λ d. rw (popped_others shape v s served some (Interface u Depth) x (λ p. d (cc)) (kinds_apart (Interface u Depth) (Stack v (depth_at shape v s - 1)) refl)) (h.depths u x));
  }

  pub deactivated_sound : (n : ℕ) (r : List ℕ) → Sound shape r → Sound shape (deactivated shape v n r)
  deactivated_sound n r g = record {
    state = deactivated_room shape v n r g.state exists;
    depths = λ u x. rw (deactivated_others shape v n r g.state exists (Interface u Depth) x (apart_record (Interface u Depth) v n refl)) (g.depths u x);
  }

  pub ended_sound : (n : ℕ) → Sound shape (ended shape v n s)
  ended_sound n = ended_keeps shape v n s served (Sound shape) h popped_sound (λ some pop. deactivated_sound n (popped shape v s) pop)

  -- a value that is not the depth
  interface_sound : (k : InterfaceValue) (x : ℕ) → OffStack (Interface v k) → Sound shape (with_interface shape v k x s)
  interface_sound k x off = record {
    state = put_room shape s (Interface v k) (kept k x) h.state;
    depths = λ u y. rw (put_other shape s (Interface u Depth) (Interface v k) (kept k x) y exists (off_stack_apart (Interface u Depth) (Interface v k) refl off)) (h.depths u y);
  }

-- every read and write, by a vCPU that exists where it is looked up
module _ (shape : Shape) (v : ℕ) (s : List ℕ) (h : Sound shape s) where
  pub read_sound : (register : CpuInterfaceRegister) → (read_register_looks_up register (enabled_at shape s) ≡ true → v < shape.count) → Sound shape (after_read shape v register s)
  read_sound = read_cases shape v s (Sound shape) h (acknowledged_sound shape v s h)

  pub write_sound : (register : CpuInterfaceRegister) (value : ℕ) → (write_register_looks_up register value ≡ true → v < shape.count) → Sound shape (write_register shape v register value s)
  write_sound register value =
      write_cases shape v s (Sound shape) h value
      (λ x k off. interface_sound shape v s h x k value off)
      (ended_sound shape v s h)
      (λ x n. deactivated_sound shape v s h x n s h)
      register
