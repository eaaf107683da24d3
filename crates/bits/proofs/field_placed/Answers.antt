-- `bits::field_placed` meets its contract. Assumes nothing.
use mathlib.Core.Path.{◌∙◌}
use native.Mathlib.Omega.{arith}
use lib.Pow.{shl_exact}
use Rattle.bits.specs.Bits.{field_bits}
use Rattle.bits.proofs.field_placed.Goals as goal

pub returns : goal.returns
returns c = shl_exact (field_bits c.args.register) c.field_shift.result 32 c.requires.1 (omega arith) ∙ simp c.field_shift.ensures.at
