-- Target bytes: document 01, "Distributor places"; IHI 0048, 4.3.12, "Interrupt Processor Targets Registers".
use Rattle.std.specs.Prelude.{not, cond, ◌&&◌, List, ℕ, ◌%◌, ◌^◌, ltb}
use Rattle.interrupt.specs.Types.{is_private_id}
use Rattle.interrupt.specs.Record.{set_cpu_target_mask}
use Rattle.word.specs.Word.{mask_byte}
use Rattle.state.specs.declared.layout.Shape.{Shape}
use Rattle.state.specs.Words.{record_at, changed}

-- "Target bytes 0 to 31 read 1 shifted by the vCPU, or 0 from vCPU 8 up, whether that vCPU exists or not"
abbrev pub own_byte : ℕ → ℕ
own_byte v = cond (ltb v 8) (2 ^ v) 0

-- an SPI's byte is its mask, 0 where none is set; numbers from the limit up read 0
unfoldable pub read_target : Shape → ℕ → List ℕ → ℕ → ℕ
read_target shape v s n = cond (is_private_id (record { 0 = n })) (own_byte v) (cond (ltb n shape.limit) (mask_byte (record_at shape v n s).cpu_target_mask) 0)

-- the bits of existing vCPUs
abbrev pub existing_bits : Shape → ℕ → ℕ
existing_bits shape byte = byte % 2 ^ shape.count

-- "An SPI byte keeps the written byte masked to existing vCPUs"; bytes 0 to 31 and those from the limit up "ignore writes"
unfoldable pub write_target : Shape → ℕ → ℕ → ℕ → List ℕ → List ℕ
write_target shape v n byte s = cond (not (is_private_id (record { 0 = n })) && ltb n shape.limit) (changed shape v n (λ r. set_cpu_target_mask r (existing_bits shape byte)) s) s
