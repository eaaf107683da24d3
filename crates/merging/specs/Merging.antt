-- Writes that add up: document 02, Six. "The kernel team merges register writes and asks when that is sound": what two writes to the Distributor, with
-- nothing between them, come to. docs/MERGING.md says it to the kernel team, with what may not be merged.
use Rattle.std.specs.Prelude.{◌≡◌, Bool, true, false, cond, List, [], ◌∷◌, ◌⊎◌, ℕ, ◌+◌, ◌/◌, ◌%◌, ◌^◌, ◌≤◌}
use Rattle.std.specs.Int.Bits.{bit_or}
use Rattle.register.specs.declared.frame.AccessWidth.{AccessWidth}
use Rattle.register.specs.declared.ranges.BitRegister.{BitRegister}
use Rattle.register.specs.declared.ranges.BitRegister.TheVariants.{Igroupr, Isenabler, Icenabler, Ispendr, Icpendr, Isactiver, Icactiver, Icfgr}
use Rattle.register.specs.declared.ranges.ByteRegister.{ByteRegister}
use Rattle.register.specs.declared.ranges.ByteRegister.TheVariants.{Ipriorityr, Itargetsr, Cpendsgir, Spendsgir}
use Rattle.register.specs.declared.ranges.Class.{Class}
use Rattle.register.specs.declared.ranges.Class.TheVariants.{Ctlr, Typer, Iidr, Sgir, Bits, Bytes, Other}
use Rattle.register.specs.declared.distributor.DistributorAccess.TheVariants.{At}
use Rattle.register.specs.declared.distributor.Place.{Place}
use Rattle.register.specs.Distributor.{locate_distributor}
use Rattle.register.specs.Frame.{bytes}
use Rattle.state.specs.declared.layout.Shape.{Shape}
use Rattle.state.specs.Lent.{HoldsState}
use Rattle.bits.specs.Bits.{is_config, per_word}
use Rattle.answer.specs.Answer.{Outcome}
use Rattle.lawful.specs.Lawful.{Orderly}
use Rattle.history.specs.History.{WriteDistributor, WriteV2m, called}

-- "from any state that demand 3 describes": words that hold a state, with demand 3's properties and no more. A controller (`Controls`) has more.
pub record Described (s : List ℕ) : Type 0 where
  pub shape : Shape
  pub holds : HoldsState shape s
  pub orderly : Orderly shape s

-- "accepted .. at the same place": the map has a place of this class for an access of this width at this offset, and refuses it neither by 1 nor by 2. What
-- is said here of such writes holds of those too that 3 refuses
pub record PlacedAs (offset : ℕ) (width : AccessWidth) (class : Class) : Type 0 where
  pub place : Place
  pub located : locate_distributor offset width ≡ At place
  pub is : place.class ≡ class

-- "writes by one vCPU": what is written, and the words it is written to, come last
abbrev pub write_there : ℕ → ℕ → AccessWidth → ℕ → List ℕ → Outcome
write_there v offset width value s = called (WriteDistributor v offset width value) s

-- "with a and then with b leaves the state of one write" of c; and each of the three is refused if one is
pub record OneState (write : ℕ → List ℕ → Outcome) (a b c : ℕ) (s : List ℕ) : Type 0 where
  pub state : (write b (write a s).state).state ≡ (write c s).state
  pub first_refusal : (write a s).refusal ≡ (write c s).refusal
  pub second_refusal : (write b (write a s).state).refusal ≡ (write c s).refusal

-- "and the two wake sets together are that write's wake set"
abbrev pub OneWakeSet : (ℕ → List ℕ → Outcome) → ℕ → ℕ → ℕ → List ℕ → Type 0
OneWakeSet write a b c s = bit_or (write a s).wake (write b (write a s).state).wake ≡ (write c s).wake

-- the one write wakes nobody whom neither of the two wakes: or-ed to their wake sets, its own changes nothing
abbrev pub WakesNoOther : (ℕ → List ℕ → Outcome) → ℕ → ℕ → ℕ → List ℕ → Type 0
WakesNoOther write a b c s = bit_or (bit_or (write a s).wake (write b (write a s).state).wake) (write c s).wake ≡ bit_or (write a s).wake (write b (write a s).state).wake

-- the one write: where 1 bits set or clear, "the bits of both"; where what is written replaces what was, "only the later counts"; where writes are ignored
-- any value would do
abbrev pub bits_as_one : BitRegister → ℕ → ℕ → ℕ
bits_as_one register a b = cond (is_config register) b (bit_or a b)

abbrev pub bytes_as_one : ByteRegister → ℕ → ℕ → ℕ
bytes_as_one Ipriorityr a b = b
bytes_as_one Itargetsr a b = b
bytes_as_one Cpendsgir a b = bit_or a b
bytes_as_one Spendsgir a b = bit_or a b

abbrev pub as_one : Class → ℕ → ℕ → ℕ
as_one Ctlr a b = b
as_one Typer a b = b
as_one Iidr a b = b
as_one Sgir a b = bit_or a b
as_one (Bits register) a b = bits_as_one register a b
as_one (Bytes register) a b = bytes_as_one register a b
as_one Other a b = b

-- any two writes at a place are one, but at SGIR: there both must send the same number by the same filter
pub record SameRing (a b : ℕ) : Type 0 where
  pub filter : a / 2 ^ 24 % 4 ≡ b / 2 ^ 24 % 4
  pub number : a % 16 ≡ b % 16

abbrev pub MayMerge : Class → ℕ → ℕ → Type 0
MayMerge Ctlr a b = Unit
MayMerge Typer a b = Unit
MayMerge Iidr a b = Unit
MayMerge Sgir a b = SameRing a b
MayMerge (Bits register) a b = Unit
MayMerge (Bytes register) a b = Unit
MayMerge Other a b = Unit

-- what is supposed of the words, for two writes to be one: nothing, but at CPENDSGIR
abbrev pub Supposes : Class → List ℕ → Type 0
Supposes Ctlr s = Unit
Supposes Typer s = Unit
Supposes Iidr s = Unit
Supposes Sgir s = Unit
Supposes (Bits register) s = Unit
Supposes (Bytes Ipriorityr) s = Unit
Supposes (Bytes Itargetsr) s = Unit
Supposes (Bytes Cpendsgir) s = Described s
Supposes (Bytes Spendsgir) s = Unit
Supposes Other s = Unit

-- where the wake sets add up too: not at CTLR, priorities and targets, where the first write may wake or silence whom the second does not leave so
abbrev pub wakes_add : Class → Bool
wakes_add Ctlr = false
wakes_add Typer = true
wakes_add Iidr = true
wakes_add Sgir = true
wakes_add (Bits register) = true
wakes_add (Bytes Ipriorityr) = false
wakes_add (Bytes Itargetsr) = false
wakes_add (Bytes Cpendsgir) = true
wakes_add (Bytes Spendsgir) = true
wakes_add Other = true

-- a row of writes, one after another: the state after it, its wake sets together, and the one write; each may be merged with the first
abbrev pub row_state : (ℕ → List ℕ → Outcome) → List ℕ → List ℕ → List ℕ
row_state write [] s = s
row_state write (b ∷ bs) s = row_state write bs (write b s).state

abbrev pub row_wakes : (ℕ → List ℕ → Outcome) → List ℕ → List ℕ → ℕ
row_wakes write [] s = 0
row_wakes write (b ∷ bs) s = bit_or (write b s).wake (row_wakes write bs (write b s).state)

abbrev pub row_as_one : Class → ℕ → List ℕ → ℕ
row_as_one class a [] = a
row_as_one class a (b ∷ bs) = row_as_one class (as_one class a b) bs

abbrev pub RowMayMerge : Class → ℕ → List ℕ → Type 0
RowMayMerge class a [] = Unit
RowMayMerge class a (b ∷ bs) = MayMerge class a b × RowMayMerge class a bs

-- the bit registers whose writes make no record readier
abbrev pub readies_none : BitRegister → Bool
readies_none Igroupr = true
readies_none Isenabler = false
readies_none Icenabler = true
readies_none Ispendr = false
readies_none Icpendr = true
readies_none Isactiver = true
readies_none Icactiver = false
readies_none Icfgr = true

-- so a write there wakes nobody
abbrev pub wakes_nobody : Class → Bool
wakes_nobody Ctlr = false
wakes_nobody Typer = true
wakes_nobody Iidr = true
wakes_nobody Sgir = false
wakes_nobody (Bits register) = readies_none register
wakes_nobody (Bytes Ipriorityr) = false
wakes_nobody (Bytes Itargetsr) = false
wakes_nobody (Bytes Cpendsgir) = true
wakes_nobody (Bytes Spendsgir) = false
wakes_nobody Other = true

-- "the same state in either order"
abbrev pub EitherOrder : (List ℕ → Outcome) → (List ℕ → Outcome) → List ℕ → Type 0
EitherOrder write other s = (other (write s).state).state ≡ (write (other s).state).state

-- a write to the message frame of document 02, Seven
abbrev pub message_there : ℕ → ℕ → ℕ → AccessWidth → ℕ → List ℕ → Outcome
message_there first count offset width value s = called (WriteV2m first count offset width value) s

-- whom two writes wake together is the same in either order
abbrev pub SameWakes : (List ℕ → Outcome) → (List ℕ → Outcome) → List ℕ → Type 0
SameWakes write other s = bit_or (write s).wake (other (write s).state).wake ≡ bit_or (other s).wake (write (other s).state).wake

-- a write made again with nothing between changes no word more, and wakes nobody
pub record AddsNothing (write : List ℕ → Outcome) (s : List ℕ) : Type 0 where
  pub state : (write (write s).state).state ≡ (write s).state
  pub wake : (write (write s).state).wake ≡ 0

-- "without a common byte"
abbrev pub NoCommonByte : ℕ → AccessWidth → ℕ → AccessWidth → Type 0
NoCommonByte offset width offset' width' = (offset + bytes width ≤ offset') ⊎ (offset' + bytes width' ≤ offset)

-- the bit registers and the byte arrays: how many interrupts a write of this width is about, from the place's first number up; 0 elsewhere
abbrev pub numbers_in : Class → AccessWidth → ℕ
numbers_in Ctlr width = 0
numbers_in Typer width = 0
numbers_in Iidr width = 0
numbers_in Sgir width = 0
numbers_in (Bits register) width = per_word register
numbers_in (Bytes register) width = bytes width
numbers_in Other width = 0

abbrev pub NoCommonNumber : Place → AccessWidth → Place → AccessWidth → Type 0
NoCommonNumber p width q width' = (p.first.0 + numbers_in p.class width ≤ q.first.0) ⊎ (q.first.0 + numbers_in q.class width' ≤ p.first.0)

-- the classes of which `NoCommonNumber` says something
abbrev pub has_numbers : Class → Bool
has_numbers Ctlr = false
has_numbers Typer = false
has_numbers Iidr = false
has_numbers Sgir = false
has_numbers (Bits register) = true
has_numbers (Bytes register) = true
has_numbers Other = false
