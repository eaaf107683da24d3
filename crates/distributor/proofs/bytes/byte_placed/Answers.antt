-- `distributor::bytes::byte_placed` meets its contract. Assumes nothing.
use Prim.Native.Nat.{◌*◌}
use native.Mathlib.Omega.{arith}
use lib.Pow.{shl_exact}
use Rattle.distributor.proofs.bytes.byte_placed.Goals as goal

pub returns : goal.returns
returns c = shl_exact 8 (8 * c.args.i) 32 c.ranges.byte.fits (omega arith)
