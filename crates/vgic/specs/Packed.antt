-- The C face: an answer as one number of 64 bits, and a width as a number of bytes. include/vgic.h says the same to a C compiler.
use Rattle.std.specs.Prelude.{◌≡◌, Bool, List, ℕ, ◌+◌, ◌*◌, ◌%◌, ◌^◌, Option, Some, None}
use Rattle.register.specs.declared.frame.AccessWidth.{AccessWidth}
use Rattle.register.specs.declared.frame.Refusal.TheVariants.{Width}
use Rattle.register.specs.Frame.{decoded_width}
use Rattle.state.specs.Layout.{size}
use Rattle.state.specs.Lent.{limited}
use Rattle.answer.specs.Answer.{Outcome, refused}
use Rattle.distributor_frame.specs.DistributorFrame.{read_v2_distributor, write_v2_distributor}
use Rattle.cpu_interface_frame.specs.CpuInterfaceFrame.{read_v2_cpu_interface, write_v2_cpu_interface}
use Rattle.input.specs.Input.{device_level, device_pulse}
use Rattle.message_frame.specs.MessageFrame.{read_v2m, write_v2m}
use Rattle.look.specs.Look.{irq_level, interrupt_word}
use Rattle.load.specs.Load.{load, shape_stated}
use Rattle.save.specs.Save.{Saved, save, image_bytes}
use Rattle.controller.specs.Start.{setup}
use Rattle.state.specs.declared.layout.Shape.{Shape}

-- bits 0 to 31 the value, 32 to 47 the retired number, 48 to 55 the wake set, 56 to 63 the refusal
unfoldable pub packed_answer : Outcome → ℕ
packed_answer o = o.value + 2 ^ 32 * (o.retired % 2 ^ 16) + 2 ^ 48 * o.wake + 2 ^ 56 * o.refusal

-- a call at the C face: its number and the words after it are the outcome's
pub record PacksTo (number : ℕ) (s : List ℕ) (o : Outcome) : Type 0 where
  pub number_is : number ≡ packed_answer o
  pub state_is : s ≡ o.state

-- "a call can be given no other": a width that is none is refused by 2 before all else
abbrev pub at_width : Option AccessWidth → List ℕ → (AccessWidth → Outcome) → Outcome
at_width (Some w) s call = call w
at_width None s call = refused Width s

abbrev pub accessed : ℕ → List ℕ → (AccessWidth → Outcome) → Outcome
accessed width s call = at_width (decoded_width width) s call

-- what the C functions promise of their number and the words after it
abbrev pub VgicSetup : ℕ → ℕ → List ℕ → ℕ → List ℕ → Type 0
VgicSetup count limit before number after = PacksTo number after (setup count limit before)

abbrev pub VgicReadDistributor : ℕ → ℕ → ℕ → List ℕ → ℕ → List ℕ → Type 0
VgicReadDistributor v offset width before number after = PacksTo number after (accessed width before (λ w. read_v2_distributor v offset w before))

abbrev pub VgicWriteDistributor : ℕ → ℕ → ℕ → ℕ → List ℕ → ℕ → List ℕ → Type 0
VgicWriteDistributor v offset width value before number after =
    PacksTo number after (accessed width before (λ w. write_v2_distributor v offset w value before))

abbrev pub VgicReadCpuInterface : ℕ → ℕ → ℕ → List ℕ → ℕ → List ℕ → Type 0
VgicReadCpuInterface v offset width before number after = PacksTo number after (accessed width before (λ w. read_v2_cpu_interface v offset w before))

abbrev pub VgicWriteCpuInterface : ℕ → ℕ → ℕ → ℕ → List ℕ → ℕ → List ℕ → Type 0
VgicWriteCpuInterface v offset width value before number after =
    PacksTo number after (accessed width before (λ w. write_v2_cpu_interface v offset w value before))

abbrev pub VgicSetLevel : ℕ → ℕ → Bool → List ℕ → ℕ → List ℕ → Type 0
VgicSetLevel v n asserted before number after = PacksTo number after (device_level v n asserted before)

abbrev pub VgicPulse : ℕ → ℕ → List ℕ → ℕ → List ℕ → Type 0
VgicPulse v n before number after = PacksTo number after (device_pulse v n before)

abbrev pub VgicReadV2m : ℕ → ℕ → ℕ → ℕ → List ℕ → ℕ → List ℕ → Type 0
VgicReadV2m first count offset width before number after = PacksTo number after (accessed width before (λ w. read_v2m first count offset w before))

abbrev pub VgicWriteV2m : ℕ → ℕ → ℕ → ℕ → ℕ → List ℕ → ℕ → List ℕ → Type 0
VgicWriteV2m first count offset width value before number after =
    PacksTo number after (accessed width before (λ w. write_v2m first count offset w value before))

abbrev pub VgicIrqLevel : ℕ → List ℕ → ℕ → List ℕ → Type 0
VgicIrqLevel v before number after = PacksTo number after (irq_level v before)

abbrev pub VgicInterrupt : ℕ → ℕ → List ℕ → ℕ → List ℕ → Type 0
VgicInterrupt v n before number after = PacksTo number after (interrupt_word v n before)

-- of a save its number, and the words and the buffer after it
pub record SavesTo (number : ℕ) (s buffer : List ℕ) (o : Saved) : Type 0 where
  pub number_is : number ≡ packed_answer o.outcome
  pub state_is : s ≡ o.outcome.state
  pub buffer_is : buffer ≡ o.buffer

abbrev pub VgicSave : List ℕ → List ℕ → ℕ → List ℕ → List ℕ → Type 0
VgicSave before buffer number after written = SavesTo number after written (save before buffer)

abbrev pub VgicLoad : List ℕ → List ℕ → ℕ → List ℕ → Type 0
VgicLoad image before number after = PacksTo number after (load image before)

-- the lent bytes are the image
abbrev pub VgicImageShape : List ℕ → ℕ → List ℕ → Type 0
VgicImageShape image number after = PacksTo number after (shape_stated image)

-- how many bytes an image takes at most, 0 where count or limit is out of range
abbrev pub room_of : Option Shape → ℕ
room_of None = 0
room_of (Some shape) = image_bytes shape

abbrev pub image_room : ℕ → ℕ → ℕ
image_room count limit = room_of (limited count limit)

-- how many words a state takes, 0 where count or limit is out of range
abbrev pub size_of : Option Shape → ℕ
size_of None = 0
size_of (Some shape) = size shape

abbrev pub state_words : ℕ → ℕ → ℕ
state_words count limit = size_of (limited count limit)
