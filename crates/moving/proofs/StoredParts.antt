-- One part of an image, stored: it touches the slots of its own part alone, and where it was read to its end, they hold what was read of it, as we
-- write it. Assumes nothing.
use mathlib.Core.Path.{◌≡◌, refl, ◌∙◌}
use mathlib.Core.Bool.{Bool, true, false, cond}
use mathlib.Core.List.{List}
use Prim.Native.Nat.{ℕ, zero, suc, ◌+◌, ◌-◌, ◌≤◌, ◌<◌}
use native.Mathlib.Omega.{arith}
use lib.Dec.{ltb}
use lib.ListN.{length, drop}
use borrow.Author.Tests.{lt-ltb, ltb-true}
use Rattle.std.specs.Prelude.{Option, Some, None}
use Rattle.state.specs.declared.words.Entry.{Entry}
use Rattle.state.specs.declared.layout.Shape.{Shape}
use Rattle.state.specs.declared.layout.InterfaceValue.TheVariants.{Control, PriorityMask, BinaryPoint, Depth}
use Rattle.state.specs.Layout.{Slot, Interface, Sources, Stack, stack_capacity, size, Exists, Room}
use Rattle.state.specs.Loop.{up_to}
use Rattle.state.specs.Words.{put, record_slot, RecordThere, with_record, with_sources, without_entry}
use Rattle.state.proofs.Accessors.{put_length, put_past, record_exists}
use Rattle.state.proofs.Ready.{PutKeeps, Anywhere}
use Rattle.state.proofs.Numbers.{then_local, put_local}
use Rattle.state.proofs.Steps.{Local}
use Rattle.image.specs.Parts.{Part, Registers, Service, Interrupt, PartThere}
use Rattle.load.specs.declared.reading.RecordAndSources.{RecordAndSources}
use Rattle.load.specs.declared.reading.InterfaceRegisters.{InterfaceRegisters}
use Rattle.load.specs.Reading.{then_number, number_up_to, registers_at, record_found}
use Rattle.load.specs.Walking.{registers_stored, entry_in, entry_spot, entry_stored, entries_stored, cleared_from, with_depth, service_stored, record_stored, part_stored}
use Rattle.moving.proofs.StoredPlaces.{part_index, OfPart}
use Rattle.moving.proofs.StoredRanges.{number_most}

-- steps that leave the length and the words past the state, and keep what every write of a slot keeps
pub record Bounded (shape : Shape) (f : List ℕ → List ℕ) : Type 1 where
  pub puts : (P : List ℕ → Type 0) → PutKeeps shape Anywhere P → (s : List ℕ) → P s → P (f s)
  pub long : (s : List ℕ) → length (f s) ≡ length s
  pub past : (s : List ℕ) → Room shape s → drop (size shape) (f s) ≡ drop (size shape) s

idle_bounded : {shape : Shape} → Bounded shape (λ s. s)
idle_bounded = record { puts = λ P keeps s p. p; long = λ s. refl; past = λ s h. refl }

then_bounded : {shape : Shape} {f g : List ℕ → List ℕ} → Bounded shape f → Bounded shape g → Bounded shape (λ s. g (f s))
then_bounded {f = f} bf bg = record {
  puts = λ P keeps s p. bg.puts P keeps (f s) (bf.puts P keeps s p);
  long = λ s. bg.long (f s) ∙ bf.long s;
  past = λ s h. bg.past (f s) (record { limits = h.limits; room = rw (bf.long s) h.room }) ∙ bf.past s h;
}

pub up_bounded : {shape : Shape} (f : ℕ → List ℕ → List ℕ) (n : ℕ) → ((i : ℕ) → i < n → Bounded shape (f i)) → Bounded shape (up_to f n)
unfolding up_to
up_bounded f zero steps = idle_bounded
up_bounded f (suc n) steps = then_bounded (up_bounded f n (λ i b. steps i (omega arith))) (steps n (omega arith))

-- .. and keep to some slots
pub record Keeps (shape : Shape) (Mine : Slot → Type 0) (f : List ℕ → List ℕ) : Type 1 where
  pub local : Local shape Mine f
  pub bounded : Bounded shape f

pub idle_keeps : {shape : Shape} {Mine : Slot → Type 0} → Keeps shape Mine (λ s. s)
idle_keeps = record { local = record { room = λ s h. h; others = λ s h t e away. refl; own = λ s r hs hr a. a }; bounded = idle_bounded }

then_keeps : {shape : Shape} {Mine : Slot → Type 0} {f g : List ℕ → List ℕ} → Keeps shape Mine f → Keeps shape Mine g → Keeps shape Mine (λ s. g (f s))
then_keeps kf kg = record { local = then_local kf.local kg.local; bounded = then_bounded kf.bounded kg.bounded }

up_keeps : {shape : Shape} {Mine : Slot → Type 0} (f : ℕ → List ℕ → List ℕ) (n : ℕ) → ((i : ℕ) → i < n → Keeps shape Mine (f i)) → Keeps shape Mine (up_to f n)
unfolding up_to
up_keeps f zero steps = idle_keeps
up_keeps f (suc n) steps = then_keeps (up_keeps f n (λ i b. steps i (omega arith))) (steps n (omega arith))

pub word_keeps : (shape : Shape) (Mine : Slot → Type 0) (u : Slot) (x : ℕ) → Exists shape u → Mine u → Keeps shape Mine (put shape u x)
word_keeps shape Mine u x e m = record {
  local = put_local shape Mine u (λ _. x) e m (λ _ _ _. refl);
  bounded = record { puts = λ P keeps s p. keeps u x s e tt p; long = λ s. put_length shape s u x; past = λ s h. put_past shape s u x h.limits e };
}

pub entry_keeps : (shape : Shape) (Mine : Slot → Type 0) (v i : ℕ) (f : Option (Entry × ℕ)) → Exists shape (Stack v i) → Mine (Stack v i) → Keeps shape Mine (entry_stored shape v i f)
entry_keeps shape Mine v i None e m = idle_keeps
entry_keeps shape Mine v i (Some (x, next)) e m = word_keeps shape Mine (Stack v i) _ e m

-- a part keeps to its slots
module _ (shape : Shape) where
  registers_keeps : (v : ℕ) (f : Option (InterfaceRegisters × ℕ)) → v < shape.count → Keeps shape (OfPart shape (Registers (record { 0 = v }))) (registers_stored shape v f)
  registers_keeps v None b = idle_keeps
  registers_keeps v (Some (r, next)) b =
      then_keeps (word_keeps shape _ (Interface v Control) _ b refl)
      (then_keeps (word_keeps shape _ (Interface v PriorityMask) _ b refl) (word_keeps shape _ (Interface v BinaryPoint) _ b refl))

  service_keeps : (image : List ℕ) (v at : ℕ) → v < shape.count → Keeps shape (OfPart shape (Service (record { 0 = v }))) (service_stored shape image v at)
  unfolding service_stored cleared_from entries_stored
  service_keeps image v at b = go (number_up_to stack_capacity image at) refl
    where
      go : (f : Option (ℕ × ℕ)) → number_up_to stack_capacity image at ≡ f
          → Keeps shape (OfPart shape (Service (record { 0 = v }))) (λ s. then_number s f (λ d next. entries_stored shape image v next d (with_depth shape v d s)))
      go None p = idle_keeps
      go (Some (d, next)) p =
          let most : d ≤ stack_capacity = number_most stack_capacity image at d next p in
          then_keeps (word_keeps shape _ (Interface v Depth) d b refl)
          (then_keeps (up_keeps (λ i. without_entry shape v (d + i)) (stack_capacity - d) (λ i c. word_keeps shape _ (Stack v (d + i)) 0 (b, omega arith) refl))
          (up_keeps _ d (λ i c. entry_keeps shape _ v i (entry_in shape image (entry_spot shape image next i)) (b, omega arith) refl)))

  pub sources_index : (v n : ℕ) → n < 16 → part_index shape (Sources v n) ≡ part_index shape (record_slot v n)
  unfolding record_slot
  sources_index v n sgi = rw (lt-ltb n 32 (omega arith))

  record_keeps : (v n : ℕ) (f : Option (RecordAndSources × ℕ)) → RecordThere shape v n
      → Keeps shape (OfPart shape (Interrupt (record { 0 = v }) (record { 0 = n }))) (record_stored shape v n f)
  record_keeps v n None there = idle_keeps
  record_keeps v n (Some (it, next)) there = go (ltb n 16) refl
    where
      go : (b : Bool) → ltb n 16 ≡ b → Keeps shape (OfPart shape (Interrupt (record { 0 = v }) (record { 0 = n }))) (λ s. cond b (with_sources shape v n it.sources (with_record shape v n it.«record» s)) (with_record shape v n it.«record» s))
      go true p =
          let sgi : n < 16 = ltb-true n 16 p in
          then_keeps (word_keeps shape _ (record_slot v n) _ (record_exists shape v n there) refl)
          (word_keeps shape _ (Sources v n) it.sources (there.banked (omega arith), sgi) (sources_index v n sgi))
      go false p = word_keeps shape _ (record_slot v n) _ (record_exists shape v n there) refl

  pub part_keeps : (image : List ℕ) (p : Part) (at : ℕ) → PartThere shape p → Keeps shape (OfPart shape p) (part_stored shape image p at)
  part_keeps image (Registers v) at there = registers_keeps v.0 (registers_at image at) there
  part_keeps image (Service v) at there = service_keeps image v.0 at there
  part_keeps image (Interrupt v n) at there = record_keeps v.0 n.0 (record_found shape v.0 n.0 image at) there
