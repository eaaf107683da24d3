use mathlib.Core.Path.{◌≡◌}
use Prim.Native.Nat.{◌+◌}
use Rattle.distributor.specs.Bytes.{write_byte}
use Rattle.state.specs.Loop.{up_to}
use Rattle.word.specs.Fields.{field_at}
use Rattle.distributor.proofs.bytes.write_bytes.Given as goal

abbrev pub invariant-loop-i : goal.invariant-loop-i
invariant-loop-i l = l.words ≡ up_to (λ j. write_byte l.shape l.register l.vcpu.0 (l.first.0 + j) (field_at 8 j l.value)) l.i l.fn.words
