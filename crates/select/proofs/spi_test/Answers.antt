-- `select::spi_test` meets its contract. Assumes nothing.
-- the bit of a vCPU in the mask byte
use mathlib.Core.Path.{◌≡◌}
use Prim.Native.Nat.{ℕ, ◌+◌, ◌*◌, ◌^◌}
use native.Mathlib.Omega.{arith}
use lib.Pow.{pow-add, shl_exact}
use Rattle.select.specs.Keys.{spi_bits, care_of, wanted_of}
use borrow.Author.Rules.{rules}
use Rattle.select.proofs.spi_test.Goals as goal

care-is : (v : ℕ) → 128 + 65536 * 2 ^ v ≡ care_of (spi_bits v)
care-is v = omega (arith, pow-add 2 16 v)

wanted-is : (v : ℕ) → 128 + 65536 * 2 ^ v ≡ wanted_of (spi_bits v)
wanted-is v = omega (arith, pow-add 2 16 v)

pub returns : goal.returns
returns c =
    let v : ℕ = c.args.vcpu.0 in
    rw (shl_exact {a = 65536} 17 v 32 (search rules) (search rules)) (λ i. record { care = care-is v i; wanted = wanted-is v i })
