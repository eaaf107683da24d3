-- What a write to a CPU interface retires is below 1024, so that a packed answer keeps it whole; the other calls' definitions have 1023.
-- Assumes nothing.
use Rattle.std.specs.Prelude.{Option, Some, None, Result, Ok, Err}
use mathlib.Core.Path.{◌≡◌, refl}
use mathlib.Core.Bool.{Bool, true, false, cond, ◌&&◌}
use mathlib.Core.List.{List}
use Prim.Native.Nat.{ℕ, ◌%◌, ◌^◌, ◌≤◌, ◌<◌}
use native.Mathlib.Omega.{arith}
use lib.Dec.{ltb}
use borrow.Author.Tests.{ltb-true}
use Rattle.register.specs.declared.frame.AccessWidth.{AccessWidth}
use Rattle.register.specs.declared.frame.Refusal.TheVariants.{Vcpu}
use Rattle.register.specs.declared.cpu_interface.CpuInterfaceRegister.{CpuInterfaceRegister}
use Rattle.register.specs.CpuInterface.{locate_cpu_interface}
use Rattle.state.specs.declared.layout.Shape.{Shape}
use Rattle.state.specs.Layout.{Limits}
use Rattle.state.specs.Lent.{validated}
use Rattle.state.specs.Words.{record_at}
use Rattle.state.proofs.Tests.{left_true}
use Rattle.state.proofs.Validated.{validated_held}
use Rattle.service.specs.Service.{dropped}
use Rattle.end.specs.End.{served_here, retired, deactivates, end_retired}
use Rattle.cpu_interface.specs.CpuInterface.{write_register, write_retired, write_register_looks_up}
use Rattle.delivery.proofs.Registers.{each_write}
use Rattle.answer.specs.Answer.{refused, went, on_state, absent}
use Rattle.cpu_interface_frame.specs.CpuInterfaceFrame.{write_interface_access, write_v2_cpu_interface}
use Rattle.register.specs.declared.frame.Refusal.{Refusal}

module _ (shape : Shape) (l : Limits shape) (v : ℕ) where
  retired_below : (n : ℕ) (s : List ℕ) → retired shape v n s < 1024
  unfolding retired
  retired_below n s = go (ltb n shape.limit && served_here v (record_at shape v n s)) refl
    where
      go : (b : Bool) → (ltb n shape.limit && served_here v (record_at shape v n s)) ≡ b → cond b n 1023 < 1024
      go true e = let h : n < shape.limit = ltb-true n shape.limit (left_true (ltb n shape.limit) (served_here v (record_at shape v n s)) e) in let f : shape.limit ≤ 1020 = l.few_numbers in omega arith
      go false e = omega arith

  end_below : (n : ℕ) (s : List ℕ) → end_retired shape v n s < 1024
  unfolding end_retired
  end_below n s = go (deactivates shape v n s)
    where
      go : (b : Bool) → cond b (retired shape v n (dropped shape v n s)) 1023 < 1024
      go true = retired_below n (dropped shape v n s)
      go false = omega arith

  write_below : (register : CpuInterfaceRegister) (value : ℕ) (s : List ℕ) → write_retired shape v register value s < 1024
  write_below register value s =
      each_write shape v s value (λ looks_up number r. number < 1024) (λ looks_up. omega arith) (λ k away. omega arith) (λ n. end_below n s) (λ n. retired_below n s) register

  access_below : (access : Result CpuInterfaceRegister Refusal) (value : ℕ) (s : List ℕ) → (write_interface_access shape v access value s).retired < 1024
  access_below (Err r) value s = omega arith
  access_below (Ok register) value s = go (absent (write_register_looks_up register value) shape v)
    where
      go : (b : Bool) → (cond b (refused Vcpu s) (went shape (write_retired shape v register value s) s (write_register shape v register value s))).retired < 1024
      go true = omega arith
      go false = write_below register value s

-- only a write to a CPU interface retires anything but 1023
pub write_v2_cpu_interface_below : (v offset : ℕ) (width : AccessWidth) (value : ℕ) (s : List ℕ) → (write_v2_cpu_interface v offset width value s).retired < 1024
unfolding write_v2_cpu_interface
write_v2_cpu_interface_below v offset width value s = go (validated s) refl
  where
    go : (lent : Option Shape) → validated s ≡ lent → (on_state lent s (λ shape. write_interface_access shape v (locate_cpu_interface offset width) (value % 2 ^ 32) s)).retired < 1024
    go None e = omega arith
    go (Some shape) e = access_below shape (validated_held s shape e).state.limits v (locate_cpu_interface offset width) (value % 2 ^ 32) s
