-- Each call's promise, as its `ensures` has it, admits one outcome: two answers and states that it allows for the same inputs are the same answer,
-- case by case and number by number, and the same words; a save's buffers are the same too. Assumes nothing.
use Rattle.std.specs.Prelude.{Ok, Err}
use mathlib.Core.Path.{◌≡◌, refl, sym, ap, ◌∙◌}
use mathlib.Core.Bool.{Bool, cond}
use mathlib.Core.List.{List}
use Prim.Native.Nat.{ℕ}
use native.Mathlib.Omega.{arith}
use lib.Dec.{eqb}
use Rattle.register.specs.declared.frame.AccessWidth.{AccessWidth}
use Rattle.register.specs.declared.frame.Refusal.{Refusal}
use Rattle.register.specs.declared.frame.Refusal.TheVariants.{Access, Width, Vcpu, Limits, ShortState, BrokenState, FullStack, Input, Unlawful, NoRoom, Window}
use Rattle.register.specs.Frame.{refusal_number}
use Rattle.answer.specs.declared.Reply.{Reply}
use Rattle.answer.specs.Answer.{Answer, Outcome, outcome, AdmitsOne}
use Rattle.controller.specs.Start.{setup, SetupPromise}
use Rattle.distributor_frame.specs.DistributorFrame.{read_v2_distributor, write_v2_distributor, ReadDistributorPromise, WriteDistributorPromise}
use Rattle.cpu_interface_frame.specs.CpuInterfaceFrame.{read_v2_cpu_interface, write_v2_cpu_interface, ReadCpuInterfacePromise, WriteCpuInterfacePromise}
use Rattle.input.specs.Input.{device_level, device_pulse, SetLevelPromise, PulsePromise}
use Rattle.message_frame.specs.MessageFrame.{read_v2m, write_v2m, ReadV2mPromise, WriteV2mPromise}
use Rattle.look.specs.Look.{irq_level, interrupt_word, IrqLevelPromise, InterruptWordPromise}
use Rattle.save.specs.Save.{Saved, save, SavePromise}
use Rattle.load.specs.Load.{load, LoadPromise, shape_stated, ImageShapePromise}

-- a refusal is known by its number, and no number is 0
numbered : (r q : Refusal) → refusal_number r ≡ refusal_number q → r ≡ q
numbered r q p = sym (back r) ∙ ap named p ∙ back q
  where
    named : ℕ → Refusal
    named n =
        cond (eqb n 1) Access
        (cond (eqb n 2) Width
        (cond (eqb n 3) Vcpu
        (cond (eqb n 4) Limits
        (cond (eqb n 5) ShortState
        (cond (eqb n 6) BrokenState
        (cond (eqb n 7) FullStack
        (cond (eqb n 8) Input
        (cond (eqb n 9) Unlawful
        (cond (eqb n 10) NoRoom Window)))))))))

    back : (r : Refusal) → named (refusal_number r) ≡ r
    back Access = refl
    back Width = refl
    back Vcpu = refl
    back Limits = refl
    back ShortState = refl
    back BrokenState = refl
    back FullStack = refl
    back Input = refl
    back Unlawful = refl
    back NoRoom = refl
    back Window = refl

some_number : (r : Refusal) → 0 ≡ refusal_number r → ⊥
some_number Access p = omega (arith, p)
some_number Width p = omega (arith, p)
some_number Vcpu p = omega (arith, p)
some_number Limits p = omega (arith, p)
some_number ShortState p = omega (arith, p)
some_number BrokenState p = omega (arith, p)
some_number FullStack p = omega (arith, p)
some_number Input p = omega (arith, p)
some_number Unlawful p = omega (arith, p)
some_number NoRoom p = omega (arith, p)
some_number Window p = omega (arith, p)

replied : (r q : Reply) → r.value ≡ q.value → r.wake ≡ q.wake → r.retired.0 ≡ q.retired.0 → r ≡ q
replied r q a b c =
    ap (λ (x : ℕ). made x r.wake r.retired.0) a
    ∙ ap (λ (x : ℕ). made q.value x r.retired.0) b
    ∙ ap (λ (x : ℕ). made q.value q.wake x) c
  where
    made : ℕ → ℕ → ℕ → Reply
    made x w n = record { value = x; wake = w; retired = record { 0 = n } }

same_answer : (a b : Answer) (x y : List ℕ) → outcome a x ≡ outcome b y → a ≡ b
same_answer (Ok r) (Ok q) x y p = ap Ok (replied r q (ap (λ (o : Outcome). o.value) p) (ap (λ (o : Outcome). o.wake) p) (ap (λ (o : Outcome). o.retired) p))
same_answer (Ok r) (Err q) x y p = absurd (some_number q (ap (λ (o : Outcome). o.refusal) p))
same_answer (Err r) (Ok q) x y p = absurd (some_number r (sym (ap (λ (o : Outcome). o.refusal) p)))
same_answer (Err r) (Err q) x y p = ap Err (numbered r q (ap (λ (o : Outcome). o.refusal) p))

-- two answers and states of one meaning
one : (meaning : Outcome) (a b : Answer) (x y : List ℕ) → outcome a x ≡ meaning → outcome b y ≡ meaning → (a ≡ b) × (x ≡ y)
one meaning a b x y p q = let e : outcome a x ≡ outcome b y = p ∙ sym q in (same_answer a b x y e, ap (λ (o : Outcome). o.state) e)

pub setup_one : (count limit : ℕ) (s : List ℕ) → AdmitsOne (SetupPromise count limit s)
setup_one count limit s = one (setup count limit s)

pub read_v2_distributor_one : (v offset : ℕ) (width : AccessWidth) (s : List ℕ) → AdmitsOne (ReadDistributorPromise v offset width s)
read_v2_distributor_one v offset width s = one (read_v2_distributor v offset width s)

pub write_v2_distributor_one : (v offset : ℕ) (width : AccessWidth) (value : ℕ) (s : List ℕ) → AdmitsOne (WriteDistributorPromise v offset width value s)
write_v2_distributor_one v offset width value s = one (write_v2_distributor v offset width value s)

pub read_v2_cpu_interface_one : (v offset : ℕ) (width : AccessWidth) (s : List ℕ) → AdmitsOne (ReadCpuInterfacePromise v offset width s)
read_v2_cpu_interface_one v offset width s = one (read_v2_cpu_interface v offset width s)

pub write_v2_cpu_interface_one : (v offset : ℕ) (width : AccessWidth) (value : ℕ) (s : List ℕ) → AdmitsOne (WriteCpuInterfacePromise v offset width value s)
write_v2_cpu_interface_one v offset width value s = one (write_v2_cpu_interface v offset width value s)

pub set_level_one : (v n : ℕ) (asserted : Bool) (s : List ℕ) → AdmitsOne (SetLevelPromise v n asserted s)
set_level_one v n asserted s = one (device_level v n asserted s)

pub pulse_one : (v n : ℕ) (s : List ℕ) → AdmitsOne (PulsePromise v n s)
pulse_one v n s = one (device_pulse v n s)

pub read_v2m_one : (first count offset : ℕ) (width : AccessWidth) (s : List ℕ) → AdmitsOne (ReadV2mPromise first count offset width s)
read_v2m_one first count offset width s = one (read_v2m first count offset width s)

pub write_v2m_one : (first count offset : ℕ) (width : AccessWidth) (value : ℕ) (s : List ℕ) → AdmitsOne (WriteV2mPromise first count offset width value s)
write_v2m_one first count offset width value s = one (write_v2m first count offset width value s)

pub irq_level_one : (v : ℕ) (s : List ℕ) → AdmitsOne (IrqLevelPromise v s)
irq_level_one v s = one (irq_level v s)

pub interrupt_word_one : (v n : ℕ) (s : List ℕ) → AdmitsOne (InterruptWordPromise v n s)
interrupt_word_one v n s = one (interrupt_word v n s)

pub load_one : (bytes s : List ℕ) → AdmitsOne (LoadPromise bytes s)
load_one bytes s = one (load bytes s)

pub image_shape_one : (bytes : List ℕ) → AdmitsOne (ImageShapePromise bytes)
image_shape_one bytes = one (shape_stated bytes)

-- a save's promise speaks of the buffer too: one answer with one list of words, and one buffer
pub save_one : (s buffer : List ℕ) → AdmitsOne {A = Answer × List ℕ} (λ o written. SavePromise s buffer o.0 o.1 written)
save_one s buffer a b written other p q =
    let o = one (save s buffer).outcome a.0 b.0 a.1 b.1 (ap (λ (z : Saved). z.outcome) p) (ap (λ (z : Saved). z.outcome) q) in
    ((λ i. (o.0 i, o.1 i)), ap (λ (z : Saved). z.buffer) p ∙ sym (ap (λ (z : Saved). z.buffer) q))
