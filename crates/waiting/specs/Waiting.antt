-- What waits for a vCPU, and the calls that end its waiting: a ring of an SGI, and a pending PPI or SPI; and a line that its device holds. A ring is
-- a bit of the source set that SGIR leaves at its target (document 01, "Distributor places"); it goes when IAR answers its number with its source,
-- and a pending bit goes when IAR answers its number ("CPU interface places"). What else can take them is listed here, and nothing else can.
use Rattle.std.specs.Prelude.{Bool, true, false, not, ◌&&◌, ◌||◌, List, [], ◌∷◌, ℕ, ◌+◌, ◌*◌, ◌-◌, ◌/◌, ◌%◌, ◌^◌, eqb, leb, ltb, Result, Ok, Err}
use Rattle.interrupt.specs.declared.record.InterruptRecord.{InterruptRecord}
use Rattle.interrupt.specs.Types.{is_private_id}
use Rattle.interrupt.specs.Record.{held, falls_idle}
use Rattle.register.specs.declared.frame.AccessWidth.{AccessWidth}
use Rattle.register.specs.declared.ranges.BitRegister.TheVariants.{Icpendr, Icfgr}
use Rattle.register.specs.declared.ranges.ByteRegister.TheVariants.{Cpendsgir}
use Rattle.register.specs.declared.ranges.Class.{Class}
use Rattle.register.specs.declared.ranges.Class.TheVariants.{Bits, Bytes}
use Rattle.register.specs.declared.distributor.DistributorAccess.{DistributorAccess}
use Rattle.register.specs.declared.distributor.DistributorAccess.TheVariants as distributor
use Rattle.register.specs.Frame.{bytes}
use Rattle.register.specs.Ranges.{class_number}
use Rattle.word.specs.Fields.{field_at}
use Rattle.state.specs.declared.layout.Shape.{Shape}
use Rattle.state.specs.Words.{record_at, sources_at}
use Rattle.cpu_interface.specs.CpuInterface.{acknowledging}
use Rattle.answer.specs.Answer.{Outcome}
use Rattle.input.specs.declared.Signal.{Signal}
use Rattle.input.specs.declared.Signal.TheVariants.{Level, Edge}
use Rattle.history.specs.History.{Call, Looks, ReadsRegister, WritesRegister, WritesPlace, Signals, Deed, Starts, Acts, deed, called}
use Rattle.register.specs.declared.cpu_interface.CpuInterfaceRegister.{CpuInterfaceRegister}
use Rattle.register.specs.declared.frame.Refusal.{Refusal}

-- bit u of x
abbrev pub bit : ℕ → ℕ → Bool
bit u x = eqb (x / 2 ^ u % 2) 1

-- the vCPU u has rung the SGI n at t, and t has not been given that ring
abbrev pub rung : Shape → ℕ → ℕ → ℕ → List ℕ → Bool
rung shape t n u s = bit u (sources_at shape t n s)

-- the number n, as the vCPU v meets it, is pending
abbrev pub pends : Shape → ℕ → ℕ → List ℕ → Bool
pends shape v n s = (record_at shape v n s).pending

-- a vCPU u that meets v's number n: below 32 each vCPU has its own
abbrev pub meets : ℕ → ℕ → ℕ → Bool
meets v n u = not (is_private_id (record { 0 = n })) || eqb u v

-- a read of IAR or AIAR that was answered by one of these
abbrev pub gives : (ℕ → Bool) → Result CpuInterfaceRegister Refusal → Outcome → Bool
gives these (Err r) o = false
gives these (Ok register) o = acknowledging register && eqb o.refusal 0 && these o.value

-- the class c is this one: classes go by their numbers
abbrev pub is_class : Class → Class → Bool
is_class this c = eqb (class_number c) (class_number this)

-- n is one of the `count` numbers from `first` up
abbrev pub among : ℕ → ℕ → ℕ → Bool
among n first count = leb first n && ltb n (first + count)

-- "writing 1 bits clears .. them": a 1 for the source u in the byte of the SGI n
abbrev pub clears_source_at : ℕ → ℕ → DistributorAccess → AccessWidth → ℕ → Bool
clears_source_at n u (distributor.Refused r) width value = false
clears_source_at n u distributor.PrivateWidth width value = false
clears_source_at n u (distributor.At place) width value =
    is_class (Bytes Cpendsgir) place.class && among n place.first.0 (bytes width) && bit u (field_at 8 (n - place.first.0) value)

-- "Writing a 1 bit .. to a clear register" of pending bits
abbrev pub clears_pending_at : ℕ → DistributorAccess → ℕ → Bool
clears_pending_at n (distributor.Refused r) value = false
clears_pending_at n distributor.PrivateWidth value = false
clears_pending_at n (distributor.At place) value = is_class (Bits Icpendr) place.class && among n place.first.0 32 && eqb (field_at 1 (n - place.first.0) value) 1

-- "the high bit 1 for edge": the number n is made edge
abbrev pub turns_edge_at : ℕ → DistributorAccess → ℕ → Bool
turns_edge_at n (distributor.Refused r) value = false
turns_edge_at n distributor.PrivateWidth value = false
turns_edge_at n (distributor.At place) value = is_class (Bits Icfgr) place.class && among n place.first.0 16 && eqb (field_at 2 (n - place.first.0) value / 2) 1

-- the line of a level interrupt that is not active falls
abbrev pub lowers : Signal → InterruptRecord → Bool
lowers (Level asserted) r = falls_idle r asserted
lowers Edge r = false

-- a device tells that its line is low
abbrev pub is_low : Signal → Bool
is_low (Level asserted) = not asserted
is_low Edge = false

-- What takes a thing that waits, beside all starting anew: of a vCPU that can take it, which answers of an acknowledge and which write to the
-- Distributor; which signal at which number.
pub record Taker : Type 0 where
  pub by : ℕ → Bool
  pub answer : ℕ → Bool
  pub write : DistributorAccess → AccessWidth → ℕ → Bool
  pub signal : ℕ → Signal → Bool

abbrev pub taken_by : Taker → Deed → Outcome → Bool
taken_by k (Starts count limit) o = eqb o.refusal 0
taken_by k (Acts (Looks by)) o = false
taken_by k (Acts (ReadsRegister v a)) o = k.by v && gives k.answer a o
taken_by k (Acts (WritesRegister v a value)) o = false
taken_by k (Acts (WritesPlace v a width value)) o = k.by v && k.write a width value
taken_by k (Acts (Signals v m signal)) o = k.by v && k.signal m signal

-- a ring of u is taken from the SGI n at t: all starts anew, it is given, or t clears it
abbrev pub ring_taker : ℕ → ℕ → ℕ → Taker
ring_taker t n u = record { by = λ v. eqb v t; answer = λ x. eqb x (n + 1024 * u); write = clears_source_at n u; signal = λ m signal. false }

abbrev pub takes_ring : ℕ → ℕ → ℕ → Call → Outcome → Bool
takes_ring t n u c o = taken_by (ring_taker t n u) (deed c) o

-- a pending PPI or SPI is taken: all starts anew, it is given, its bit is written to ICPENDR while its line is not held, or the line of a level
-- interrupt that is not active falls
abbrev pub pending_taker : Shape → ℕ → ℕ → List ℕ → Taker
pending_taker shape v n s = record {
  by = meets v n;
  answer = λ x. eqb x n;
  write = λ a width value. clears_pending_at n a value && not (held (record_at shape v n s));
  signal = λ m signal. eqb m n && lowers signal (record_at shape v n s);
}

abbrev pub takes_pending : Shape → ℕ → ℕ → List ℕ → Call → Outcome → Bool
takes_pending shape v n s c o = taken_by (pending_taker shape v n s) (deed c) o

-- a held line of a PPI or SPI is let go: all starts anew, its device lowers it, or the interrupt is made edge. Beside that it may be asked that
-- no acknowledge is answered by one of these.
abbrev pub line_taker : (ℕ → Bool) → ℕ → ℕ → Taker
line_taker these v n = record { by = meets v n; answer = these; write = λ a width value. turns_edge_at n a value; signal = λ m signal. eqb m n && is_low signal }

abbrev pub lets_go : ℕ → ℕ → Call → Outcome → Bool
lets_go v n c o = taken_by (line_taker (λ x. false) v n) (deed c) o

abbrev pub lets_go_or_gives : ℕ → ℕ → Call → Outcome → Bool
lets_go_or_gives v n c o = taken_by (line_taker (λ x. eqb x n) v n) (deed c) o

-- none of the calls of a history does
abbrev pub never : (List ℕ → Call → Outcome → Bool) → List Call → List ℕ → Bool
never f [] s = true
never f (c ∷ cs) s = not (f s c (called c s)) && never f cs (called c s).state
