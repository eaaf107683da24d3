use mathlib.Core.Path.{◌≡◌}
use Prim.Native.Nat.{◌+◌}
use Rattle.distributor.specs.Bytes.{read_byte}
use Rattle.word.specs.Fields.{gathered}
use Rattle.distributor.proofs.bytes.read_bytes.Given as goal

abbrev pub invariant-loop-i : goal.invariant-loop-i
invariant-loop-i l = l.value ≡ gathered 8 (λ j. read_byte l.shape l.register l.vcpu.0 l.words (l.first.0 + j)) l.i
