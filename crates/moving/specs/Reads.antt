-- What reading a part of an image gives is what some words hold there: this ties the bytes to the words, on both ways. A reader need not
-- believe any of it; the promises are in proofs/Moving.antt.
use Rattle.std.specs.Prelude.{Some, ◌≡◌, true, cond, List, ◌++◌, ℕ, suc, ◌+◌, ◌≤◌, ◌<◌, length, drop}
use Rattle.groups.specs.Groups.{spelled}
use Rattle.interrupt.specs.Types.{is_sgi}
use Rattle.state.specs.declared.layout.Shape.{Shape}
use Rattle.state.specs.declared.layout.InterfaceValue.TheVariants.{Control, PriorityMask, BinaryPoint}
use Rattle.state.specs.Layout.{stack_capacity}
use Rattle.state.specs.Words.{record_at, sources_at, interface_at, entry_at}
use Rattle.service.specs.Service.{depth_at, stack_to, running_of}
use Rattle.lawful_test.specs.LawfulTest.{number_lawful, stack_lawful}
use Rattle.image.specs.Parts.{Part, Registers, Service, Interrupt, part_numbers}
use Rattle.load.specs.Reading.{number_up_to, registers_at, entry_found, record_found, registers_from, record_and_sources}

-- entry after entry, from `first` to `next`
pub record ServiceReads (shape : Shape) (image : List ℕ) (v at next : ℕ) (s : List ℕ) : Type 0 where
  pub places : ℕ → ℕ
  pub depth : number_up_to stack_capacity image at ≡ Some (depth_at shape v s, places 0)
  pub entries : (i : ℕ) → i < depth_at shape v s
      → entry_found shape (running_of (stack_to shape v s i)) image (places i) ≡ Some (entry_at shape v i s, places (suc i))
  pub ends : places (depth_at shape v s) ≡ next

-- the part from `at` to `next`, read, is what the words hold
abbrev pub Reads : Shape → List ℕ → Part → ℕ → ℕ → List ℕ → Type 0
Reads shape image (Registers v) at next s =
    registers_at image at ≡ Some (registers_from (interface_at shape v.0 Control s) (interface_at shape v.0 PriorityMask s) (interface_at shape v.0 BinaryPoint s), next)
Reads shape image (Service v) at next s = ServiceReads shape image v.0 at next s
Reads shape image (Interrupt v n) at next s =
    record_found shape v.0 n.0 image at ≡ Some (record_and_sources (record_at shape v.0 n.0 s) (cond (is_sgi n) (sources_at shape v.0 n.0 s) 0), next)

-- a part that is lawful
abbrev pub LawfulPart : Shape → List ℕ → Part → Type 0
LawfulPart shape s (Registers v) = Unit
LawfulPart shape s (Service v) = (depth_at shape v.0 s ≤ stack_capacity) × (stack_lawful shape v.0 s ≡ true)
LawfulPart shape s (Interrupt v n) = number_lawful shape v.0 s n.0 ≡ true

-- the bytes from `at` to `next` are the part's
pub record Spells (shape : Shape) (image : List ℕ) (p : Part) (at next : ℕ) (s : List ℕ) : Type 0 where
  pub bytes : drop at image ≡ spelled (part_numbers shape s p) ++ drop next image
  pub past : next ≡ at + length (spelled (part_numbers shape s p))

-- what a part means is the same in both
abbrev pub SamePart : Shape → Part → List ℕ → List ℕ → Type 0
SamePart shape (Registers v) s r =
    (interface_at shape v.0 Control s ≡ interface_at shape v.0 Control r)
    × (interface_at shape v.0 PriorityMask s ≡ interface_at shape v.0 PriorityMask r)
    × (interface_at shape v.0 BinaryPoint s ≡ interface_at shape v.0 BinaryPoint r)
SamePart shape (Service v) s r =
    (depth_at shape v.0 s ≡ depth_at shape v.0 r)
    × ((i : ℕ) → i < depth_at shape v.0 s → entry_at shape v.0 i s ≡ entry_at shape v.0 i r)
SamePart shape (Interrupt v n) s r =
    (record_at shape v.0 n.0 s ≡ record_at shape v.0 n.0 r)
    × (n.0 < 16 → sources_at shape v.0 n.0 s ≡ sources_at shape v.0 n.0 r)
