-- The sources of SGIs, and SGIR: document 01, "Distributor places"; IHI 0048, 4.3.15 to 4.3.17.
use Rattle.std.specs.Prelude.{Bool, true, false, not, cond, List, ℕ, ◌-◌, ◌/◌, ◌%◌, ◌^◌, eqb}
use Rattle.std.specs.Int.Bits.{bit_and, bit_or}
use Rattle.interrupt.specs.Record.{set_pending}
use Rattle.interrupt.specs.Types.{every_vcpu}
use Rattle.state.specs.declared.layout.Shape.{Shape}
use Rattle.state.specs.Loop.{up_to}
use Rattle.state.specs.Words.{changed, sources_at, with_sources}
use Rattle.sgi.specs.declared.SgiTarget.{SgiTarget}
use Rattle.sgi.specs.declared.SgiTarget.TheVariants.{Mask, AllExceptSelf, SelfOnly, Nobody}

-- the SGI n at the vCPU v is pending, "by `set_pending`, exactly when a source is then set"
abbrev pub pend_by_sources : Shape → ℕ → ℕ → List ℕ → List ℕ
pend_by_sources shape v n s = changed shape v n (λ r. set_pending r (not (eqb (sources_at shape v n s) 0))) s

abbrev pub sourced : Shape → ℕ → ℕ → ℕ → List ℕ → List ℕ
sourced shape v n sources s = pend_by_sources shape v n (with_sources shape v n sources s)

-- "writing 1 bits clears or sets them, also for sources that do not exist": CPENDSGIR clears, SPENDSGIR sets
abbrev pub merged_sources : Bool → ℕ → ℕ → ℕ
merged_sources true sources byte = bit_or sources byte
merged_sources false sources byte = bit_and sources (every_vcpu - byte)

-- "a zero byte changes nothing"
unfoldable pub write_sources : Shape → ℕ → ℕ → Bool → ℕ → List ℕ → List ℕ
write_sources shape v n on byte s = cond (eqb byte 0) s (sourced shape v n (merged_sources on (sources_at shape v n s) byte) s)

-- SGIR: "Each target gains the sender's source bit and its SGI is set pending"
unfoldable pub pend_sgi : Shape → ℕ → ℕ → ℕ → List ℕ → List ℕ
pend_sgi shape v source n s = changed shape v n (λ r. set_pending r true) (with_sources shape v n (bit_or (sources_at shape v n s) (2 ^ source)) s)

-- "filter in 25:24. Filter 0 sends to existing vCPUs in bits 23:16, 1 to all but the sender, 2 to the sender, 3 does nothing"
unfoldable pub sgi_target : ℕ → SgiTarget
sgi_target value = filtered (value / 2 ^ 24 % 4)
  where
    filtered : ℕ → SgiTarget
    filtered f = cond (eqb f 0) (Mask (value / 2 ^ 16 % 256)) (cond (eqb f 1) AllExceptSelf (cond (eqb f 2) SelfOnly Nobody))

abbrev pub includes : SgiTarget → ℕ → ℕ → Bool
includes (Mask byte) source v = eqb (byte / 2 ^ v % 2) 1
includes AllExceptSelf source v = not (eqb v source)
includes SelfOnly source v = eqb v source
includes Nobody source v = false

abbrev pub sent_to : Shape → SgiTarget → ℕ → ℕ → ℕ → List ℕ → List ℕ
sent_to shape target source n v s = cond (includes target source v) (pend_sgi shape v source n s) s

-- to every existing vCPU that the target names
unfoldable pub send_sgi : Shape → ℕ → ℕ → SgiTarget → List ℕ → List ℕ
send_sgi shape source n target s = up_to (sent_to shape target source n) shape.count s

-- "number in bits 3:0"
unfoldable pub write_sgir : Shape → ℕ → ℕ → List ℕ → List ℕ
write_sgir shape source value s = send_sgi shape source (value % 16) (sgi_target value) s
