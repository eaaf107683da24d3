-- `distributor::bytes::read_bytes` meets its contract. Assumes nothing.
use native.Mathlib.Omega.{arith}
use Rattle.distributor.proofs.ByteLaws.{bytes_fit}
use Rattle.distributor.proofs.bytes.read_bytes.Goals as goal

pub overflow_add-value : goal.overflow_add-value
overflow_add-value c =
    let a = c.args in
    record { fits = rw (c.loop-i.invariant, c.byte_placed-value.ensures, c.read_byte-byte.ensures) (bytes_fit a.shape a.register a.vcpu.0 a.first.0 a.words.now c.loop-i.i (omega arith)) }
