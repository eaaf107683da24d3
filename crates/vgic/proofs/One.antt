-- Each C function's promise, as its `ensures` has it, admits one outcome: one number, and one list of words after it. Assumes nothing.
use mathlib.Core.Path.{◌≡◌, sym, ◌∙◌}
use mathlib.Core.Bool.{Bool}
use mathlib.Core.List.{List}
use Prim.Native.Nat.{ℕ}
use Rattle.answer.specs.Answer.{Outcome, AdmitsOne}
use Rattle.vgic.specs.Packed.{PacksTo, VgicSetup, VgicReadDistributor, VgicWriteDistributor, VgicReadCpuInterface, VgicWriteCpuInterface, VgicSetLevel, VgicPulse, VgicReadV2m, VgicWriteV2m, VgicIrqLevel, VgicInterrupt, VgicSave, VgicLoad, VgicImageShape}

one : {meaning : Outcome} → AdmitsOne (λ number s. PacksTo number s meaning)
one a b x y p q = (p.number_is ∙ sym q.number_is, p.state_is ∙ sym q.state_is)

pub vgic_setup_one : (count limit : ℕ) (s : List ℕ) → AdmitsOne (VgicSetup count limit s)
vgic_setup_one count limit s = one

pub vgic_read_v2_distributor_one : (v offset width : ℕ) (s : List ℕ) → AdmitsOne (VgicReadDistributor v offset width s)
vgic_read_v2_distributor_one v offset width s = one

pub vgic_write_v2_distributor_one : (v offset width value : ℕ) (s : List ℕ) → AdmitsOne (VgicWriteDistributor v offset width value s)
vgic_write_v2_distributor_one v offset width value s = one

pub vgic_read_v2_cpu_interface_one : (v offset width : ℕ) (s : List ℕ) → AdmitsOne (VgicReadCpuInterface v offset width s)
vgic_read_v2_cpu_interface_one v offset width s = one

pub vgic_write_v2_cpu_interface_one : (v offset width value : ℕ) (s : List ℕ) → AdmitsOne (VgicWriteCpuInterface v offset width value s)
vgic_write_v2_cpu_interface_one v offset width value s = one

pub vgic_set_level_one : (v n : ℕ) (asserted : Bool) (s : List ℕ) → AdmitsOne (VgicSetLevel v n asserted s)
vgic_set_level_one v n asserted s = one

pub vgic_pulse_one : (v n : ℕ) (s : List ℕ) → AdmitsOne (VgicPulse v n s)
vgic_pulse_one v n s = one

pub vgic_read_v2m_one : (first count offset width : ℕ) (s : List ℕ) → AdmitsOne (VgicReadV2m first count offset width s)
vgic_read_v2m_one first count offset width s = one

pub vgic_write_v2m_one : (first count offset width value : ℕ) (s : List ℕ) → AdmitsOne (VgicWriteV2m first count offset width value s)
vgic_write_v2m_one first count offset width value s = one

pub vgic_irq_level_one : (v : ℕ) (s : List ℕ) → AdmitsOne (VgicIrqLevel v s)
vgic_irq_level_one v s = one

pub vgic_interrupt_one : (v n : ℕ) (s : List ℕ) → AdmitsOne (VgicInterrupt v n s)
vgic_interrupt_one v n s = one

pub vgic_load_one : (image s : List ℕ) → AdmitsOne (VgicLoad image s)
vgic_load_one image s = one

pub vgic_image_shape_one : (image : List ℕ) → AdmitsOne (VgicImageShape image)
vgic_image_shape_one image = one

-- of a save, one buffer too
pub vgic_save_one : (s buffer : List ℕ) (a b : ℕ) (x y u v : List ℕ) → VgicSave s buffer a x u → VgicSave s buffer b y v → (a ≡ b) × (x ≡ y) × (u ≡ v)
vgic_save_one s buffer a b x y u v p q =
    (p.number_is ∙ sym q.number_is, p.state_is ∙ sym q.state_is, p.buffer_is ∙ sym q.buffer_is)
