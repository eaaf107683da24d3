-- `input::input_at` meets its contract. Assumes nothing.
-- that there is a record was tested before: `tested` is where the test had passed
use mathlib.Core.Bool.{Bool}
use Rattle.std.specs.Prelude.{Some}
use mathlib.Core.Path.{◌≡◌, sym, ap, ◌∙◌}
use native.Mathlib.Omega.{arith}
use Rattle.answer.specs.Answer.{absent}
use Rattle.input.specs.Input.{input_of}
use Rattle.input.proofs.Passed.{input_there}
use Rattle.input.proofs.input_at.Goals as goal

pub signal_interrupt-requires : goal.signal_interrupt-requires
signal_interrupt-requires c =
    let a = c.args in
    let device : input_of a.shape a.number ≡ Some c.in_ok-intid.intid = grind arith in
    record {
      sound = c.requires;
      there = input_there a.shape a.vcpu.0 a.number _ (device)
          (sym (ap (λ (b : Bool). absent b a.shape a.vcpu.0) c.is_private.ensures) ∙ sym c.absent.ensures ∙ c.if-absent.false);
    }
