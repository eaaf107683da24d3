-- Calls one after another: document 01, "What the promises have to hold". A call is any public call with any arguments, refused or not, and
-- acts as its promise says.
use Rattle.std.specs.Prelude.{Bool, true, false, not, cond, ◌&&◌, ◌≡◌, List, [], ◌∷◌, ℕ, ◌%◌, ◌^◌, Result, Ok, Err, Option, None, Some}
use Rattle.register.specs.declared.frame.AccessWidth.{AccessWidth}
use Rattle.register.specs.declared.frame.AccessWidth.TheVariants.{Dword}
use Rattle.register.specs.declared.distributor.DistributorAccess.{DistributorAccess}
use Rattle.register.specs.CpuInterface.{locate_cpu_interface}
use Rattle.register.specs.Distributor.{locate_distributor}
use Rattle.answer.specs.Answer.{Outcome}
use Rattle.controller.specs.Start.{setup}
use Rattle.distributor_frame.specs.DistributorFrame.{read_v2_distributor, write_v2_distributor}
use Rattle.cpu_interface_frame.specs.CpuInterfaceFrame.{read_v2_cpu_interface, write_v2_cpu_interface}
use Rattle.input.specs.declared.Signal.{Signal}
use Rattle.input.specs.declared.Signal.TheVariants.{Level, Edge}
use Rattle.input.specs.Input.{device_level, device_pulse}
use Rattle.message_frame.specs.declared.Window.{Window}
use Rattle.message_frame.specs.MessageFrame.{window_of, rings_spi, locate_v2m, read_v2m, write_v2m}
use Rattle.look.specs.Look.{irq_level, interrupt_word}
use Rattle.save.specs.Save.{save}
use Rattle.load.specs.Load.{image_shape, load}
use Rattle.message_frame.specs.declared.MessageRegister.{MessageRegister}
use Rattle.register.specs.declared.frame.Refusal.{Refusal}
use Rattle.register.specs.declared.cpu_interface.CpuInterfaceRegister.{CpuInterfaceRegister}

-- count and limit; vCPU, offset, width and, to write, value; for inputs vCPU, number and, for a line, its level; at the message frame the
-- window's first number and count, offset, width and, to write, value; a vCPU, and an interrupt's number, to look at; the bytes of a lent
-- buffer to save into, and of an image to load
pub data Call : Type 0 where
  Setup : ℕ → ℕ → Call
  ReadDistributor : ℕ → ℕ → AccessWidth → Call
  WriteDistributor : ℕ → ℕ → AccessWidth → ℕ → Call
  ReadCpuInterface : ℕ → ℕ → AccessWidth → Call
  WriteCpuInterface : ℕ → ℕ → AccessWidth → ℕ → Call
  SetLevel : ℕ → ℕ → Bool → Call
  Pulse : ℕ → ℕ → Call
  ReadV2m : ℕ → ℕ → ℕ → AccessWidth → Call
  WriteV2m : ℕ → ℕ → ℕ → AccessWidth → ℕ → Call
  IrqLevel : ℕ → Call
  InterruptWord : ℕ → ℕ → Call
  Save : List ℕ → Call
  Load : List ℕ → Call

-- its numbers, of 64 bits each
abbrev pub call_numbers : Call → List ℕ
call_numbers (Setup count limit) = count ∷ limit ∷ []
call_numbers (ReadDistributor v offset width) = v ∷ offset ∷ []
call_numbers (WriteDistributor v offset width value) = v ∷ offset ∷ value ∷ []
call_numbers (ReadCpuInterface v offset width) = v ∷ offset ∷ []
call_numbers (WriteCpuInterface v offset width value) = v ∷ offset ∷ value ∷ []
call_numbers (SetLevel v n asserted) = v ∷ n ∷ []
call_numbers (Pulse v n) = v ∷ n ∷ []
call_numbers (ReadV2m first count offset width) = first ∷ count ∷ offset ∷ []
call_numbers (WriteV2m first count offset width value) = first ∷ count ∷ offset ∷ value ∷ []
call_numbers (IrqLevel v) = v ∷ []
call_numbers (InterruptWord v n) = v ∷ n ∷ []
call_numbers (Save buffer) = []
call_numbers (Load bytes) = []

-- what it does
abbrev pub called : Call → List ℕ → Outcome
called (Setup count limit) s = setup count limit s
called (ReadDistributor v offset width) s = read_v2_distributor v offset width s
called (WriteDistributor v offset width value) s = write_v2_distributor v offset width value s
called (ReadCpuInterface v offset width) s = read_v2_cpu_interface v offset width s
called (WriteCpuInterface v offset width value) s = write_v2_cpu_interface v offset width value s
called (SetLevel v n asserted) s = device_level v n asserted s
called (Pulse v n) s = device_pulse v n s
called (ReadV2m first count offset width) s = read_v2m first count offset width s
called (WriteV2m first count offset width value) s = write_v2m first count offset width value s
called (IrqLevel v) s = irq_level v s
called (InterruptWord v n) s = interrupt_word v n s
called (Save buffer) s = (save s buffer).outcome
called (Load bytes) s = load bytes s

-- What kind of call it is: what is said of calls goes by this, and not by the calls. A call acts on the controller that is lent: it
pub data Action : Type 0 where
  -- looks and changes nothing, as a vCPU or as nobody;
  Looks : Option ℕ → Action
  -- reads a vCPU's CPU interface at this place;
  ReadsRegister : ℕ → Result CpuInterfaceRegister Refusal → Action
  -- writes there, this value;
  WritesRegister : ℕ → Result CpuInterfaceRegister Refusal → ℕ → Action
  -- writes the Distributor at this place, as a vCPU, by this width and value;
  WritesPlace : ℕ → DistributorAccess → AccessWidth → ℕ → Action
  -- signals this number, as a vCPU meets it;
  Signals : ℕ → ℕ → Signal → Action

-- or it starts one anew, of this count and limit: a load's are those that its image states
pub data Deed : Type 0 where
  Starts : ℕ → ℕ → Deed
  Acts : Action → Deed

-- a message is a pulse of the number that it rings, which no vCPU meets otherwise than another; one that rings nobody changes nothing
abbrev pub message_action : Window → Result MessageRegister Refusal → ℕ → Action
message_action window (Err r) n = Looks None
message_action window (Ok register) n = cond (rings_spi window register n) (Signals 0 n Edge) (Looks None)

-- "Bits of a written value above the access width are ignored"
abbrev pub deed : Call → Deed
deed (Setup count limit) = Starts count limit
deed (ReadDistributor v offset width) = Acts (Looks (Some v))
deed (WriteDistributor v offset width value) = Acts (WritesPlace v (locate_distributor offset width) width (value % 2 ^ 32))
deed (ReadCpuInterface v offset width) = Acts (ReadsRegister v (locate_cpu_interface offset width))
deed (WriteCpuInterface v offset width value) = Acts (WritesRegister v (locate_cpu_interface offset width) (value % 2 ^ 32))
deed (SetLevel v n asserted) = Acts (Signals v n (Level asserted))
deed (Pulse v n) = Acts (Signals v n Edge)
deed (ReadV2m first count offset width) = Acts (Looks None)
deed (WriteV2m first count offset width value) = Acts (message_action (window_of first count) (locate_v2m offset width) (value % 2 ^ 32))
deed (IrqLevel v) = Acts (Looks None)
deed (InterruptWord v n) = Acts (Looks None)
deed (Save buffer) = Acts (Looks None)
deed (Load bytes) = Starts (image_shape bytes).count (image_shape bytes).limit

abbrev pub starts_anew : Deed → Bool
starts_anew (Starts count limit) = true
starts_anew (Acts a) = false

-- a setup or a load
abbrev pub is_start : Call → Bool
is_start c = starts_anew (deed c)

-- a guest's calls: a ring (a write to SGIR), an acknowledge (a read of IAR), an end (a write to EOIR), a deactivation (a write to DIR), a look at the
-- running priority (a read of RPR)
abbrev pub sgir_write : ℕ → ℕ → Call
sgir_write v value = WriteDistributor v 0xf00 Dword value

abbrev pub iar_read : ℕ → Call
iar_read v = ReadCpuInterface v 0x0c Dword

abbrev pub eoir_write : ℕ → ℕ → Call
eoir_write v n = WriteCpuInterface v 0x10 Dword n

abbrev pub dir_write : ℕ → ℕ → Call
dir_write v n = WriteCpuInterface v 0x1000 Dword n

abbrev pub rpr_read : ℕ → Call
rpr_read v = ReadCpuInterface v 0x14 Dword

-- and a device's: a message (a write to SETSPI), in a window
abbrev pub setspi_write : ℕ → ℕ → ℕ → Call
setspi_write first count value = WriteV2m first count 0x040 Dword value

-- the state after a history
unfoldable pub run : List Call → List ℕ → List ℕ
run [] s = s
run (c ∷ cs) s = run cs (called c s).state

-- what a call hands out beside the state: "refusal, value, wake set and retired number"
pub record Handed : Type 0 where
  pub refusal : ℕ
  pub value : ℕ
  pub wake : ℕ
  pub retired : ℕ

abbrev pub handed : Outcome → Handed
handed o = record { refusal = o.refusal; value = o.value; wake = o.wake; retired = o.retired }

-- and a history: an answer for each of its calls, in their order
unfoldable pub answers : List Call → List ℕ → List Handed
answers [] s = []
answers (c ∷ cs) s = handed (called c s) ∷ answers cs (called c s).state

-- calls without a setup or load among them
abbrev pub no_start : List Call → Bool
no_start [] = true
no_start (c ∷ cs) = not (is_start c) && no_start cs

-- setup accepts this count and limit in these words
abbrev pub Accepted : ℕ → ℕ → List ℕ → Type 0
Accepted count limit s = (called (Setup count limit) s).refusal ≡ 0

-- a call that starts a controller anew is accepted in these words: request One, "from a fresh or loaded controller"
pub record Started (c : Call) (s : List ℕ) : Type 0 where
  pub starts : is_start c ≡ true
  pub accepted : (called c s).refusal ≡ 0

-- a refusal that is neither 6 nor 7
pub record Ordinary (refusal : ℕ) : Type 0 where
  pub not_6 : refusal ≡ 6 → ⊥
  pub not_7 : refusal ≡ 7 → ⊥

-- of each answer
abbrev pub EachAnswer : (Handed → Type 0) → List Handed → Type 0
EachAnswer P [] = Unit
EachAnswer P (a ∷ rest) = P a × EachAnswer P rest
