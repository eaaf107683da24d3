-- What a call can touch, for whoever has several vCPUs and devices at one controller. A slot is a word of the state, by its name: document 01,
-- "Distributor places" ("each vCPU has its own"; SGIR) and "CPU interface places" (IAR).
use Rattle.std.specs.Prelude.{◌≡◌, Bool, true, false, not, ◌&&◌, ◌||◌, List, ℕ, ◌%◌, eqb, Result, Ok, Err, None, Some}
use Rattle.register.specs.declared.ranges.Class.TheVariants.{Sgir}
use Rattle.register.specs.declared.distributor.DistributorAccess.{DistributorAccess}
use Rattle.register.specs.declared.distributor.DistributorAccess.TheVariants as distributor
use Rattle.register.specs.Ranges.{class_number}
use Rattle.state.specs.declared.layout.Shape.{Shape}
use Rattle.state.specs.Layout.{Slot, vcpu_of, number_of, is_record, is_sources, is_depth, is_entry, of_vcpu}
use Rattle.state.specs.Words.{word_at}
use Rattle.sgi.specs.Sgi.{sgi_target, includes}
use Rattle.cpu_interface.specs.CpuInterface.{acknowledging}
use Rattle.answer.specs.Answer.{Outcome}
use Rattle.input.specs.declared.Signal.{Signal}
use Rattle.input.specs.declared.Signal.TheVariants.{Level, Edge}
use Rattle.history.specs.History.{Call, SetLevel, Pulse, Looks, ReadsRegister, WritesRegister, WritesPlace, Signals, Deed, Starts, Acts, deed, called}
use Rattle.register.specs.declared.cpu_interface.CpuInterfaceRegister.{CpuInterfaceRegister}
use Rattle.register.specs.declared.frame.Refusal.{Refusal}

-- the call c to the words s leaves the word of the slot t
abbrev pub Stays : Shape → Slot → Call → List ℕ → Type 0
Stays shape t c s = word_at shape t (called c s).state ≡ word_at shape t s

-- the vCPU u's own slots: its interface's values with the depth, its SGIs' source sets, its private records, its stack
abbrev pub belongs_to : ℕ → Slot → Bool
belongs_to u t = of_vcpu (vcpu_of t) (λ v. eqb v u)

-- an access by the vCPU v, to either frame
abbrev pub acts_as : ℕ → Deed → Bool
acts_as v (Starts count limit) = false
acts_as v (Acts (Looks None)) = false
acts_as v (Acts (Looks (Some u))) = eqb u v
acts_as v (Acts (ReadsRegister u a)) = eqb u v
acts_as v (Acts (WritesRegister u a value)) = eqb u v
acts_as v (Acts (WritesPlace u a width value)) = eqb u v
acts_as v (Acts (Signals u n signal)) = false

abbrev pub access_by : ℕ → Call → Bool
access_by v c = acts_as v (deed c)

-- a call that reads or looks; a message that rings nobody is one too
abbrev pub reads_only : Deed → Bool
reads_only (Starts count limit) = false
reads_only (Acts (Looks by)) = true
reads_only (Acts (ReadsRegister v a)) = true
reads_only (Acts (WritesRegister v a value)) = false
reads_only (Acts (WritesPlace v a width value)) = false
reads_only (Acts (Signals v n signal)) = false

abbrev pub is_read : Call → Bool
is_read c = reads_only (deed c)

-- SGIR: "number in bits 3:0, filter in 25:24. Filter 0 sends to existing vCPUs in bits 23:16, 1 to all but the sender, 2 to the sender, 3 does
-- nothing": what v writes sends the SGI n to u
abbrev pub sgir_sends : ℕ → ℕ → ℕ → ℕ → Bool
sgir_sends v value u n = eqb (value % 16) n && includes (sgi_target value) v u

abbrev pub sgir_at : DistributorAccess → Bool
sgir_at (distributor.Refused r) = false
sgir_at distributor.PrivateWidth = false
sgir_at (distributor.At place) = eqb (class_number place.class) (class_number Sgir)

abbrev pub rings_by : Deed → ℕ → ℕ → Bool
rings_by (Starts count limit) u n = false
rings_by (Acts (Looks by)) u n = false
rings_by (Acts (ReadsRegister v a)) u n = false
rings_by (Acts (WritesRegister v a value)) u n = false
rings_by (Acts (WritesPlace v a width value)) u n = sgir_at a && sgir_sends v value u n
rings_by (Acts (Signals v m signal)) u n = false

abbrev pub rings_at : Call → ℕ → ℕ → Bool
rings_at c u n = rings_by (deed c) u n

-- "Each target gains the sender's source bit and its SGI is set pending": the source set and the record of an SGI that c sends
abbrev pub rung_slot : Call → Slot → Bool
rung_slot c t = (is_sources t || is_record t) && of_vcpu (vcpu_of t) (λ u. rings_at c u (number_of t))

-- no vCPU's own
abbrev pub is_everybodys : Slot → Bool
is_everybodys t = not (of_vcpu (vcpu_of t) (λ v. true))

-- the record of the number n as the vCPU v meets it: a private one is v's, an SPI's is everybody's
abbrev pub is_record_of : ℕ → ℕ → Slot → Bool
is_record_of v n t = is_record t && (eqb (number_of t) n && (belongs_to v t || is_everybodys t))

-- a device's input as a call
abbrev pub input_call : Signal → ℕ → ℕ → Call
input_call (Level asserted) v n = SetLevel v n asserted
input_call Edge v n = Pulse v n

-- IAR "marks the record in flight, .. and pushes number and priority. For an SGI it takes the lowest source": what goes with the record of n when
-- v is given it, and all of it
abbrev pub taken_with : ℕ → ℕ → Slot → Bool
taken_with v n t = (is_depth t || is_entry t || (is_sources t && eqb (number_of t) n)) && belongs_to v t

abbrev pub given_slot : ℕ → ℕ → Slot → Bool
given_slot v n t = is_record_of v n t || taken_with v n t

-- a read of IAR or AIAR that gave a number: it was not refused, and did not answer 1023
abbrev pub acknowledges_at : Result CpuInterfaceRegister Refusal → Bool
acknowledges_at (Err r) = false
acknowledges_at (Ok register) = acknowledging register

abbrev pub acknowledges_by : Deed → Bool
acknowledges_by (Starts count limit) = false
acknowledges_by (Acts (Looks by)) = false
acknowledges_by (Acts (ReadsRegister v a)) = acknowledges_at a
acknowledges_by (Acts (WritesRegister v a value)) = false
acknowledges_by (Acts (WritesPlace v a width value)) = false
acknowledges_by (Acts (Signals v n signal)) = false

abbrev pub hands_out : Call → Outcome → Bool
hands_out c o = acknowledges_by (deed c) && (eqb o.refusal 0 && not (eqb o.value 1023))
