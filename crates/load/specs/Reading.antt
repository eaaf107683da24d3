-- How an image is read, number by number: docs/IMAGE.md, "What is left out of a range is not an image", and of a lawful state what a part
-- shows by itself. A reader need not believe any of it: crates/moving says that exactly the images of lawful states load, and as what.
use Rattle.std.specs.Prelude.{Option, Some, None, Bool, not, cond, ◌&&◌, List, ℕ, ◌%◌, ◌^◌, eqb, leb, ltb}
use Rattle.groups.specs.Groups.{found_at}
use Rattle.interrupt.specs.Types.{is_sgi, is_private_id, priority_of}
use Rattle.interrupt.specs.declared.record.InterruptRecord.{InterruptRecord}
use Rattle.word.specs.Word.{flag, trigger_of, owner_of}
use Rattle.state.specs.declared.layout.Shape.{Shape}
use Rattle.state.specs.declared.layout.InterfaceValue.{InterfaceValue}
use Rattle.state.specs.declared.layout.InterfaceValue.TheVariants.{Control, PriorityMask, BinaryPoint}
use Rattle.state.specs.declared.words.Entry.{Entry}
use Rattle.state.specs.Words.{kept}
use Rattle.lawful_test.specs.LawfulTest.{implied, record_lawful, sources_lawful, entry_lawful}
use Rattle.image.specs.Image.{unset_mark}
use Rattle.load.specs.declared.reading.InterfaceRegisters.{InterfaceRegisters}
use Rattle.load.specs.declared.reading.RecordRest.{RecordRest}
use Rattle.load.specs.declared.reading.RecordAndSources.{RecordAndSources}
use Rattle.interrupt.specs.declared.types.GicVcpuId.{GicVcpuId}

-- what is read after a number, or nothing if there is none
abbrev pub then_number : {A : Type 0} → A → Option (ℕ × ℕ) → (ℕ → ℕ → A) → A
then_number nothing None f = nothing
then_number nothing (Some (n, next)) f = f n next

-- a number that passes a test
abbrev pub passing : (ℕ → Bool) → Option (ℕ × ℕ) → Option (ℕ × ℕ)
passing test None = None
passing test (Some (n, next)) = cond (test n) (Some (n, next)) None

abbrev pub number_up_to : ℕ → List ℕ → ℕ → Option (ℕ × ℕ)
number_up_to most image at = passing (λ n. leb n most) (found_at 2 image at)

-- a register's value has no other bits than it keeps
abbrev pub register_found : InterfaceValue → List ℕ → ℕ → Option (ℕ × ℕ)
register_found k image at = passing (λ n. eqb (kept k n) n) (found_at 2 image at)

-- the values of a vCPU's registers
abbrev pub registers_from : ℕ → ℕ → ℕ → InterfaceRegisters
registers_from control mask point = record { control = control; mask = mask; point = point }

unfoldable pub registers_at : List ℕ → ℕ → Option (InterfaceRegisters × ℕ)
registers_at image at =
    then_number None (register_found Control image at) (λ control a.
    then_number None (register_found PriorityMask image a) (λ mask b.
    then_number None (register_found BinaryPoint image b) (λ point next. Some (registers_from control mask point, next))))

-- an entry of a stack, where `above` is the priority of the one before it
abbrev pub entry_from : ℕ → ℕ → Entry
entry_from n p = record { intid = record { 0 = n }; priority = priority_of p }

abbrev pub entry_if_lawful : Shape → ℕ → Entry → ℕ → Option (Entry × ℕ)
entry_if_lawful shape above e next = cond (entry_lawful shape above e) (Some (e, next)) None

unfoldable pub entry_found : Shape → ℕ → List ℕ → ℕ → Option (Entry × ℕ)
entry_found shape above image at =
    then_number None (found_at 2 image at) (λ n a.
    then_number None (number_up_to 255 image a) (λ p next. entry_if_lawful shape above (entry_from n p) next))

-- a private record in flight is its own vCPU's
abbrev pub own_owner : ℕ → Bool → Option GicVcpuId
own_owner v inflight = cond inflight (Some (record { 0 = v })) None

abbrev pub mask_from : ℕ → Option ℕ
mask_from m = cond (eqb m unset_mark) None (Some m)

-- what follows a record's flags and priority: of an SGI its source set, of another private number nothing, of an SPI owner and mask
abbrev pub rest_from : Option GicVcpuId → Option ℕ → ℕ → RecordRest
rest_from owner mask x = record { owner = owner; mask = mask; sources = x }

unfoldable pub sgi_rest : Option GicVcpuId → List ℕ → ℕ → Option (RecordRest × ℕ)
sgi_rest owner image at = then_number None (number_up_to 255 image at) (λ x next. Some (rest_from owner None x, next))

unfoldable pub spi_rest : List ℕ → ℕ → Option (RecordRest × ℕ)
spi_rest image at =
    then_number None (number_up_to 8 image at) (λ o a.
    then_number None (number_up_to unset_mark image a) (λ m next. Some (rest_from (owner_of o) (mask_from m) 0, next)))

unfoldable pub rest_at : ℕ → ℕ → Bool → List ℕ → ℕ → Option (RecordRest × ℕ)
rest_at v n inflight image at =
    cond (is_sgi (record { 0 = n })) (sgi_rest (own_owner v inflight) image at)
    (cond (is_private_id (record { 0 = n })) (Some (rest_from (own_owner v inflight) None 0, at)) (spi_rest image at))

abbrev pub record_from : ℕ → ℕ → Option GicVcpuId → Option ℕ → InterruptRecord
record_from f p owner mask = record {
  enabled = flag 0 f;
  pending = flag 1 f;
  active = flag 2 f;
  inflight = flag 3 f;
  redelivery_pending = flag 4 f;
  line_asserted = flag 5 f;
  trigger = trigger_of (flag 6 f);
  cpu_target_mask = mask;
  priority = priority_of p;
  owner = owner;
}

abbrev pub lawful_number : Shape → ℕ → ℕ → InterruptRecord → ℕ → Bool
lawful_number shape v n r x = record_lawful shape v n r && implied (is_sgi (record { 0 = n })) (sources_lawful x r.pending)

abbrev pub record_and_sources : InterruptRecord → ℕ → RecordAndSources
record_and_sources r x = record { «record» = r; sources = x }

abbrev pub record_if_lawful : Shape → ℕ → ℕ → InterruptRecord → ℕ → ℕ → Option (RecordAndSources × ℕ)
record_if_lawful shape v n r x next = cond (lawful_number shape v n r x) (Some (record_and_sources r x, next)) None

-- the same of an SPI's numbers: `spi_read` (proofs/Spis.antt)
abbrev pub flight_lawful : ℕ → ℕ → ℕ → Bool
flight_lawful f owner count = cond (eqb owner 0) (not (flag 3 f) && not (flag 4 f)) (flag 3 f && flag 2 f && leb owner count)

abbrev pub spi_lawful : Shape → ℕ → ℕ → ℕ → Bool
spi_lawful shape f owner mask = flight_lawful f owner shape.count && ltb (mask % unset_mark) (2 ^ shape.count)

abbrev pub then_rest : Option (RecordRest × ℕ) → (Option GicVcpuId → Option ℕ → ℕ → ℕ → Option (RecordAndSources × ℕ)) → Option (RecordAndSources × ℕ)
then_rest None f = None
then_rest (Some (rest, next)) f = f rest.owner rest.mask rest.sources next

unfoldable pub record_found : Shape → ℕ → ℕ → List ℕ → ℕ → Option (RecordAndSources × ℕ)
record_found shape v n image at =
    then_number None (number_up_to 127 image at) (λ f a.
    then_number None (number_up_to 255 image a) (λ p b.
    then_rest (rest_at v n (flag 3 f) image b) (λ owner mask x next. record_if_lawful shape v n (record_from f p owner mask) x next)))
