use mathlib.Core.Path.{◌≡◌}
use Prim.Native.Nat.{◌+◌}
use Rattle.state.specs.Loop.{up_to}
use Rattle.word.specs.Fields.{field_at}
use Rattle.bits.specs.Bits.{field_bits, write_number}
use Rattle.bits.proofs.write_bits.Given as goal

abbrev pub invariant-loop-i : goal.invariant-loop-i
invariant-loop-i l = l.words ≡ up_to (λ j. write_number l.shape l.register l.vcpu.0 (l.first.0 + j) (field_at (field_bits l.register) j l.value)) l.i l.fn.words
