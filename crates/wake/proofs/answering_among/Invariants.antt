use Prim.Native.Nat.{ℕ}
use mathlib.Core.Path.{◌≡◌}
use Rattle.word.specs.Fields.{gathered}
use Rattle.word.specs.Word.{bit_of}
use Rattle.wake.specs.Halves.{among_answers}
use Rattle.wake.proofs.answering_among.Given as goal

abbrev pub invariant-loop-v : goal.invariant-loop-v
invariant-loop-v l = l.bits ≡ gathered 1 (λ (u : ℕ). bit_of (among_answers l.answer l.among l.shape l.words u)) l.v
