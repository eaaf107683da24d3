-- Which moves a call makes: by the register that an access falls on, by the vCPU, by the device's signal. That it makes no others is a law
-- (`call_chain`); the promises speak of calls, and a reader need not believe any of this.
use Rattle.std.specs.Prelude.{◌≡◌, true, false, ◌⊎◌, ℕ, ◌+◌, ◌/◌, ◌%◌, ◌^◌, ◌<◌, eqb}
use Rattle.register.specs.declared.frame.AccessWidth.{AccessWidth}
use Rattle.register.specs.declared.ranges.BitRegister.{BitRegister}
use Rattle.register.specs.declared.ranges.BitRegister.TheVariants.{Igroupr, Isenabler, Icenabler, Ispendr, Icpendr, Isactiver, Icactiver, Icfgr}
use Rattle.register.specs.declared.ranges.ByteRegister.{ByteRegister}
use Rattle.register.specs.declared.ranges.ByteRegister.TheVariants.{Ipriorityr, Itargetsr, Cpendsgir, Spendsgir}
use Rattle.register.specs.declared.ranges.Class.{Class}
use Rattle.register.specs.declared.ranges.Class.TheVariants.{Ctlr, Typer, Iidr, Sgir, Bits, Bytes, Other}
use Rattle.register.specs.declared.distributor.DistributorAccess.{DistributorAccess}
use Rattle.register.specs.declared.distributor.DistributorAccess.TheVariants.{Refused, PrivateWidth, At}
use Rattle.register.specs.Frame.{bytes}
use Rattle.word.specs.Fields.{field_at}
use Rattle.word.specs.Word.{trigger_of}
use Rattle.state.specs.declared.layout.Shape.{Shape}
use Rattle.bits.specs.Bits.{field_bits, per_word, acts}
use Rattle.targets.specs.Targets.{existing_bits}
use Rattle.sgi.specs.Sgi.{sgi_target, includes}
use Rattle.moves.specs.Moves as moves
use Rattle.moves.specs.Moves.{Change, Move, Changed, Sourced, Kept, Switched, Given, Popped}
use Rattle.input.specs.declared.Signal.{Signal}
use Rattle.input.specs.declared.Signal.TheVariants.{Level, Edge}
use Rattle.history.specs.History.{Call, Action, Looks, ReadsRegister, WritesRegister, WritesPlace, Signals, Deed, Starts, Acts, deed}

-- the field x of a bit register makes the change c
abbrev pub BitMakes : BitRegister → ℕ → Change → Type 0
BitMakes Igroupr x c = ⊥
BitMakes Isenabler x c = c ≡ moves.SetEnabled true
BitMakes Icenabler x c = c ≡ moves.SetEnabled false
BitMakes Ispendr x c = c ≡ moves.SetPending true
BitMakes Icpendr x c = c ≡ moves.SetPending false
BitMakes Isactiver x c = c ≡ moves.SetActive true
BitMakes Icactiver x c = (c ≡ moves.SetActive false) ⊎ (c ≡ moves.CancelInflight)
BitMakes Icfgr x c = c ≡ moves.SetTrigger (trigger_of (eqb (x / 2) 1))

-- the byte of the number n makes this move
abbrev pub byte_move : Shape → ByteRegister → ℕ → ℕ → ℕ → Move
byte_move shape Ipriorityr v n byte = Changed v n (moves.SetPriority byte)
byte_move shape Itargetsr v n byte = Changed v n (moves.SetCpuTargetMask (existing_bits shape byte))
byte_move shape Cpendsgir v n byte = Sourced v n false byte
byte_move shape Spendsgir v n byte = Sourced v n true byte

pub record BitMade (register : BitRegister) (v first value : ℕ) (m : Move) : Type 0 where
  pub at : ℕ
  pub in_word : at < per_word register
  pub acting : acts register (first + at) (field_at (field_bits register) at value) ≡ true
  pub change : Change
  pub makes : BitMakes register (field_at (field_bits register) at value) change
  pub is : m ≡ Changed v (first + at) change

pub record ByteMade (shape : Shape) (register : ByteRegister) (v first count value : ℕ) (m : Move) : Type 0 where
  pub at : ℕ
  pub in_run : at < count
  pub is : m ≡ byte_move shape register v (first + at) (field_at 8 at value)

pub record RingMade (v value : ℕ) (m : Move) : Type 0 where
  pub to : ℕ
  pub named : includes (sgi_target value) v to ≡ true
  pub is : m ≡ Sourced to (value % 16) true (2 ^ v)

abbrev pub ClassMade : Shape → ℕ → Class → ℕ → AccessWidth → ℕ → Move → Type 0
ClassMade shape v Ctlr first width value m = m ≡ Switched value
ClassMade shape v Typer first width value m = ⊥
ClassMade shape v Iidr first width value m = ⊥
ClassMade shape v Sgir first width value m = RingMade v value m
ClassMade shape v (Bits register) first width value m = BitMade register v first value m
ClassMade shape v (Bytes register) first width value m = ByteMade shape register v first (bytes width) value m
ClassMade shape v Other first width value m = ⊥

abbrev pub PlaceMade : Shape → ℕ → DistributorAccess → AccessWidth → ℕ → Move → Type 0
PlaceMade shape v (Refused r) width value m = ⊥
PlaceMade shape v PrivateWidth width value m = ⊥
PlaceMade shape v (At place) width value m = ClassMade shape v place.class place.first.0 width value m

-- a vCPU's own: what it is given, what it ends, its interface's values
abbrev pub ReadMade : ℕ → Move → Type 0
ReadMade v (Changed u n c) = ⊥
ReadMade v (Sourced u n on byte) = ⊥
ReadMade v (Kept u k x) = ⊥
ReadMade v (Switched value) = ⊥
ReadMade v (Given u e) = u ≡ v
ReadMade v (Popped u) = ⊥

abbrev pub Ends : Change → Type 0
Ends (moves.SetEnabled e) = ⊥
Ends (moves.SetPending p) = ⊥
Ends (moves.SetActive a) = ⊥
Ends moves.CancelInflight = ⊥
Ends (moves.SetTrigger t) = ⊥
Ends (moves.SetPriority q) = ⊥
Ends (moves.SetCpuTargetMask b) = ⊥
Ends (moves.SetLevel a) = ⊥
Ends moves.Pulse = ⊥
Ends moves.DeactivateInflight = Unit
Ends moves.Complete = Unit
Ends moves.ClearDeliveryState = ⊥

abbrev pub WriteMade : ℕ → Move → Type 0
WriteMade v (Changed u n c) = (u ≡ v) × Ends c
WriteMade v (Sourced u n on byte) = ⊥
WriteMade v (Kept u k x) = u ≡ v
WriteMade v (Switched value) = ⊥
WriteMade v (Given u e) = ⊥
WriteMade v (Popped u) = u ≡ v

abbrev pub signal_change : Signal → Change
signal_change (Level asserted) = moves.SetLevel asserted
signal_change Edge = moves.Pulse

abbrev pub ActionMade : Shape → Action → Move → Type 0
ActionMade shape (Looks by) m = ⊥
ActionMade shape (ReadsRegister v a) m = ReadMade v m
ActionMade shape (WritesRegister v a value) m = WriteMade v m
ActionMade shape (WritesPlace v a width value) m = PlaceMade shape v a width value m
ActionMade shape (Signals v n signal) m = m ≡ Changed v n (signal_change signal)

-- a call that starts a controller anew makes no move of the one that it finds
abbrev pub DeedMade : Shape → Deed → Move → Type 0
DeedMade shape (Starts count limit) m = ⊥
DeedMade shape (Acts a) m = ActionMade shape a m

abbrev pub Made : Shape → Call → Move → Type 0
Made shape c m = DeedMade shape (deed c) m
