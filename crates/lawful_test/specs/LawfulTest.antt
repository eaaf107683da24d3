-- `Lawful` as a test of the words. A reader need not believe any of it: `lawful_passes` and `passes_lawful` (proofs/Passing.antt) say that
-- words that hold a state pass exactly if they are lawful. Each test names the fields of Lawful.antt that it stands for.
use Rattle.std.specs.Prelude.{Bool, true, false, not, cond, ◌&&◌, ◌||◌, List, ℕ, ◌+◌, ◌-◌, ◌%◌, ◌^◌, eqb, ltb, Option, Some, None}
use Rattle.interrupt.specs.Types.{is_sgi, is_private_id, is_level}
use Rattle.interrupt.specs.Record.{is_ready}
use Rattle.interrupt.specs.declared.record.InterruptRecord.{InterruptRecord}
use Rattle.state.specs.declared.layout.Shape.{Shape}
use Rattle.state.specs.declared.words.Entry.{Entry}
use Rattle.state.specs.Loop.{every_below}
use Rattle.state.specs.Words.{record_at, ready_bit, sources_at, entry_at}
use Rattle.service.specs.Service.{depth_at, stack_to, running_of}
use Rattle.interrupt.specs.declared.types.GicVcpuId.{GicVcpuId}

-- if a, then b
abbrev pub implied : Bool → Bool → Bool
implied a b = not a || b

-- `charged` and `own`: a private record in flight is its own vCPU's, an SPI's record some existing one's
abbrev pub may_serve : Shape → ℕ → ℕ → ℕ → Bool
may_serve shape v n u = cond (is_private_id (record { 0 = n })) (eqb u v) (ltb u shape.count)

-- .. and `idle`
abbrev pub owner_lawful : Shape → ℕ → ℕ → Bool → Option GicVcpuId → Bool
owner_lawful shape v n inflight None = not inflight
owner_lawful shape v n inflight (Some u) = inflight && may_serve shape v n u.0

-- `existing` and `unmasked`
abbrev pub mask_lawful : Shape → ℕ → Option ℕ → Bool
mask_lawful shape n None = true
mask_lawful shape n (Some byte) = not (is_private_id (record { 0 = n })) && ltb byte (2 ^ shape.count)

-- `sgi_edge`, `sgi_low` and `sgi_unnoted`
abbrev pub sgi_lawful : ℕ → InterruptRecord → Bool
sgi_lawful n r = implied (is_sgi (record { 0 = n })) (not (is_level r.trigger) && not r.line_asserted && not r.redelivery_pending)

-- `active`, `noted` and those above, of the record r that the vCPU v has as number n
unfoldable pub record_lawful : Shape → ℕ → ℕ → InterruptRecord → Bool
record_lawful shape v n r =
    implied r.inflight r.active
    && implied r.redelivery_pending r.inflight
    && owner_lawful shape v n r.inflight r.owner
    && mask_lawful shape n r.cpu_target_mask
    && sgi_lawful n r

-- `sourced`
abbrev pub sources_lawful : ℕ → Bool → Bool
sources_lawful sources pending = cond pending (not (eqb sources 0)) (eqb sources 0)

unfoldable pub number_lawful : Shape → ℕ → List ℕ → ℕ → Bool
number_lawful shape v s n =
    record_lawful shape v n (record_at shape v n s)
    && implied (is_sgi (record { 0 = n })) (sources_lawful (sources_at shape v n s) (record_at shape v n s).pending)

-- `many` numbers from `first` up
abbrev pub numbers_lawful : Shape → ℕ → List ℕ → ℕ → ℕ → Bool
numbers_lawful shape v s first many = every_below (λ k. number_lawful shape v s (first + k)) many

-- `falling` and `below_idle`: each entry could be acknowledged where those before it run; `even`; and `numbered`
abbrev pub entry_lawful : Shape → ℕ → Entry → Bool
entry_lawful shape above e = ltb e.priority.0 above && eqb (e.priority.0 % 2) 0 && ltb e.intid.0 shape.limit

abbrev pub entry_lawful_at : Shape → ℕ → List ℕ → ℕ → Bool
entry_lawful_at shape v s i = entry_lawful shape (running_of (stack_to shape v s i)) (entry_at shape v i s)

abbrev pub stack_lawful : Shape → ℕ → List ℕ → Bool
stack_lawful shape v s = every_below (entry_lawful_at shape v s) (depth_at shape v s)

abbrev pub vcpu_lawful : Shape → List ℕ → ℕ → Bool
vcpu_lawful shape s v = stack_lawful shape v s && numbers_lawful shape v s 0 32

-- `summary`: the bit says what the record does
abbrev pub says_same : Bool → Bool → Bool
says_same true b = b
says_same false b = not b

abbrev pub bit_lawful : Shape → List ℕ → ℕ → Bool
bit_lawful shape s n = says_same (ready_bit shape n s) (is_ready (record_at shape 0 n s))

-- the records of SPIs are every vCPU's, and met as the first one's
abbrev pub spi_passes : Shape → List ℕ → ℕ → Bool
spi_passes shape s n = number_lawful shape 0 s n && bit_lawful shape s n

abbrev pub spis_pass : Shape → List ℕ → ℕ → Bool
spis_pass shape s many = every_below (λ k. spi_passes shape s (32 + k)) many

unfoldable pub is_lawful : Shape → List ℕ → Bool
is_lawful shape s = every_below (vcpu_lawful shape s) shape.count && spis_pass shape s (shape.limit - 32)
