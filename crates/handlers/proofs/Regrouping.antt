-- A write to BPR regroups nothing that is stored: every stack is as it was, and every running priority reads as it did. Assumes nothing.
use Rattle.std.specs.Prelude.{Ok}
use mathlib.Core.Path.{◌≡◌, refl, sym, ap, subst, ◌∙◌}
use mathlib.Core.Bool.{true}
use mathlib.Core.List.{List}
use Prim.Native.Nat.{ℕ, ◌%◌, ◌^◌, ◌<◌}
use Rattle.register.specs.declared.frame.AccessWidth.TheVariants.{Dword}
use Rattle.register.specs.declared.cpu_interface.CpuInterfaceRegister.TheVariants.{Bpr}
use Rattle.register.specs.CpuInterface.{registers, register_in, register_at, locate_cpu_interface}
use Rattle.state.specs.declared.layout.Shape.{Shape}
use Rattle.state.specs.declared.layout.InterfaceValue.TheVariants.{BinaryPoint, Depth}
use Rattle.state.specs.Layout.{Interface, Stack}
use Rattle.state.specs.Words.{kept, with_interface}
use Rattle.state.proofs.Accessors.{put_other}
use Rattle.state.proofs.SlotKinds.{kinds_apart}
use Rattle.service.specs.Service.{running_of, stack_at}
use Rattle.service.proofs.Stacks.{stack_same}
use Rattle.answer.specs.Answer.{Outcome, went}
use Rattle.answer.proofs.Present.{found}
use Rattle.cpu_interface_frame.specs.CpuInterfaceFrame.{write_v2_cpu_interface}
use Rattle.lawful.specs.Lawful.{Controls}
use Rattle.moves.proofs.Slots.{served}
use Rattle.moves.proofs.Sounds.{lawful_sound}
use Rattle.history.specs.History.{WriteCpuInterface, called, rpr_read}
use Rattle.history.proofs.Always.{every_other_call}
use Rattle.history.proofs.Each.{valid}
use Rattle.handlers.proofs.Keeping.{point_apart}
use Rattle.handlers.proofs.Shielded.{running_call}

bpr_at : locate_cpu_interface 0x08 Dword ≡ Ok Bpr
unfolding locate_cpu_interface register_at register_in registers
bpr_at = refl

module _ (shape : Shape) (s : List ℕ) (h : Controls shape s) (v value : ℕ) (exists : v < shape.count) where
  abbrev after : List ℕ
  after = (called (WriteCpuInterface v 0x08 Dword value) s).state

  bpr_call : called (WriteCpuInterface v 0x08 Dword value) s ≡ went shape 1023 s (with_interface shape v BinaryPoint (value % 2 ^ 32) s)
  unfolding write_v2_cpu_interface
  bpr_call = simp (valid shape s h, bpr_at, found true shape v (λ q. exists))

  pub a_bpr_write_regroups_nothing : (u : ℕ) → u < shape.count → stack_at shape u after ≡ stack_at shape u s
  a_bpr_write_regroups_nothing u there =
      subst (λ (o : Outcome). stack_at shape u o.state ≡ stack_at shape u s) (sym bpr_call)
      (stack_same shape u s (with_interface shape v BinaryPoint (value % 2 ^ 32) s) (served shape s (lawful_sound h.lawful) u there).deep
      (put_other shape s (Interface u Depth) (Interface v BinaryPoint) (kept BinaryPoint (value % 2 ^ 32)) there exists (λ q. point_apart u v (sym q)))
      (λ i b. put_other shape s (Stack u i) (Interface v BinaryPoint) (kept BinaryPoint (value % 2 ^ 32)) (there, b) exists (kinds_apart (Stack u i) (Interface v BinaryPoint) refl)))

  pub rpr_reads_as_before : (u : ℕ) → u < shape.count → (called (rpr_read u) after).value ≡ (called (rpr_read u) s).value
  rpr_reads_as_before u there =
      running_call shape after (every_other_call shape (WriteCpuInterface v 0x08 Dword value) refl s h) u there
      ∙ ap running_of (a_bpr_write_regroups_nothing u there) ∙ sym (running_call shape s h u there)
