-- What an accepted access to the Distributor reads and what a write to it does: document 01, "Distributor places"; and where the vCPU is
-- looked up: "Refusal numbers". IHI 0048, Table 4-1, "Distributor register map". A place is what `locate_distributor` gives for an offset
-- and a width.
use Rattle.std.specs.Prelude.{◌≡◌, Bool, true, false, cond, List, ℕ, ◌<◌}
use Rattle.register.specs.declared.frame.AccessWidth.{AccessWidth}
use Rattle.register.specs.declared.ranges.ByteRegister.{ByteRegister}
use Rattle.register.specs.declared.ranges.ByteRegister.TheVariants.{Ipriorityr, Itargetsr, Cpendsgir, Spendsgir}
use Rattle.register.specs.declared.ranges.Class.{Class}
use Rattle.register.specs.declared.ranges.Class.TheVariants.{Ctlr, Typer, Iidr, Sgir, Bits, Bytes, Other}
use Rattle.register.specs.declared.distributor.Place.{Place}
use Rattle.register.specs.declared.distributor.DistributorAccess.TheVariants.{At}
use Rattle.register.specs.Frame.{bytes}
use Rattle.register.specs.Distributor.{locate_distributor}
use Rattle.state.specs.declared.layout.Shape.{Shape}
use Rattle.state.specs.Layout.{Room}
use Rattle.bits.specs.Bits.{read_bits, write_bits}
use Rattle.sgi.specs.declared.SgiTarget.{SgiTarget}
use Rattle.sgi.specs.declared.SgiTarget.TheVariants.{Mask, AllExceptSelf, SelfOnly, Nobody}
use Rattle.sgi.specs.Sgi.{sgi_target, write_sgir}
use Rattle.distributor.specs.Bytes.{read_bytes, write_bytes}
use Rattle.distributor.specs.Values.{read_control, write_control, typer, iidr}

-- "The vCPU is not looked up for: Distributor CTLR, TYPER, IIDR; target bytes; SGIR reads; SGIR writes with filter 3; shared and reserved
-- Distributor places": so it is for private registers, for the source bytes, and for the other writes to SGIR
abbrev pub byte_looks_up : ByteRegister → Bool → Bool
byte_looks_up Ipriorityr own = own
byte_looks_up Itargetsr own = false
byte_looks_up Cpendsgir own = true
byte_looks_up Spendsgir own = true

abbrev pub names : SgiTarget → Bool
names (Mask byte) = true
names AllExceptSelf = true
names SelfOnly = true
names Nobody = false

abbrev pub sends : ℕ → Bool
sends value = names (sgi_target value)

-- `own`: the place is private, and each vCPU has its own
abbrev pub read_place_looks_up : Class → Bool → Bool
read_place_looks_up Ctlr own = false
read_place_looks_up Typer own = false
read_place_looks_up Iidr own = false
read_place_looks_up Sgir own = false
read_place_looks_up (Bits register) own = own
read_place_looks_up (Bytes register) own = byte_looks_up register own
read_place_looks_up Other own = false

abbrev pub write_place_looks_up : Class → Bool → ℕ → Bool
write_place_looks_up Ctlr own value = false
write_place_looks_up Typer own value = false
write_place_looks_up Iidr own value = false
write_place_looks_up Sgir own value = sends value
write_place_looks_up (Bits register) own value = own
write_place_looks_up (Bytes register) own value = byte_looks_up register own
write_place_looks_up Other own value = false

-- "SGIR reads 0"; "Every other place .. reads 0"
abbrev pub read_class : Shape → ℕ → Class → ℕ → AccessWidth → List ℕ → ℕ
read_class shape v Ctlr first width s = read_control shape s
read_class shape v Typer first width s = typer shape
read_class shape v Iidr first width s = iidr
read_class shape v Sgir first width s = 0
read_class shape v (Bits register) first width s = read_bits shape register v first s
read_class shape v (Bytes register) first width s = read_bytes shape register v first (bytes width) s
read_class shape v Other first width s = 0

-- filter "3 does nothing"
abbrev pub ringed : Shape → ℕ → ℕ → List ℕ → List ℕ
ringed shape v value s = cond (sends value) (write_sgir shape v value s) s

-- "Every other place .. ignores writes", and so do TYPER and IIDR
abbrev pub write_class : Shape → ℕ → Class → ℕ → AccessWidth → ℕ → List ℕ → List ℕ
write_class shape v Ctlr first width value s = write_control shape value s
write_class shape v Typer first width value s = s
write_class shape v Iidr first width value s = s
write_class shape v Sgir first width value s = ringed shape v value s
write_class shape v (Bits register) first width value s = write_bits shape register v first value s
write_class shape v (Bytes register) first width value s = write_bytes shape register v first (bytes width) value s
write_class shape v Other first width value s = s

abbrev pub read_place : Shape → ℕ → Place → AccessWidth → List ℕ → ℕ
read_place shape v place width s = read_class shape v place.class place.first.0 width s

abbrev pub write_place : Shape → ℕ → Place → AccessWidth → ℕ → List ℕ → List ℕ
write_place shape v place width value s = write_class shape v place.class place.first.0 width value s

-- a place that the map gives for some offset at this width
pub record Located (place : Place) (width : AccessWidth) : Type 0 where
  pub offset : ℕ
  pub at : locate_distributor offset width ≡ At place

-- words that hold a state, with the vCPU where it is looked up
pub record PlaceRead (shape : Shape) (v : ℕ) (place : Place) (width : AccessWidth) (s : List ℕ) : Type 0 where
  pub state : Room shape s
  pub located : Located place width
  pub looked : read_place_looks_up place.class place.private ≡ true → v < shape.count

pub record PlaceWritten (shape : Shape) (v : ℕ) (place : Place) (width : AccessWidth) (value : ℕ) (s : List ℕ) : Type 0 where
  pub state : Room shape s
  pub located : Located place width
  pub looked : write_place_looks_up place.class place.private value ≡ true → v < shape.count

pub record Ringing (shape : Shape) (v value : ℕ) (s : List ℕ) : Type 0 where
  pub state : Room shape s
  pub looked : sends value ≡ true → v < shape.count
