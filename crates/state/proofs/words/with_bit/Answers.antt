-- `state::words::with_bit` meets its contract. Assumes nothing.
-- 1 << k
use mathlib.Core.Path.{◌≡◌, sym, ap, ◌∙◌}
use mathlib.Core.Bool.{Bool, true, false}
use Prim.Native.Nat.{ℕ, ◌*◌, ◌-◌, ◌+◌, ◌%◌, ◌^◌, ◌<◌}
use native.Mathlib.Nat.{one-mul}
use native.Mathlib.Omega.{arith}
use lib.Bits.{bit_and, and_le_l}
use lib.Pow.{shl_exact}
use borrow.Author.Rules.{rules}
use Rattle.state.specs.Words.{with_bit}
use Rattle.state.proofs.WordBits.{bit_cleared, bit_set, bit_fits}
use Rattle.state.proofs.words.with_bit.Goals as goal

one : (k : ℕ) → k < 32 → (1 * 2 ^ k) % 2 ^ 32 ≡ 2 ^ k
one k h = shl_exact {a = 1} 1 k 32 (omega arith) (omega arith) ∙ one-mul (2 ^ k)

cleared : (k w : ℕ) → k < 32 → w - bit_and w ((1 * 2 ^ k) % 2 ^ 32) ≡ with_bit k false w
cleared k w h = ap (λ (p : ℕ). w - bit_and w p) (one k h) ∙ bit_cleared k w

set : (k w : ℕ) → k < 32 → w - bit_and w ((1 * 2 ^ k) % 2 ^ 32) + (1 * 2 ^ k) % 2 ^ 32 ≡ with_bit k true w
set k w h = ap (λ (p : ℕ). w - bit_and w p + p) (one k h) ∙ bit_set k w

pub overflow_sub-rest : goal.overflow_sub-rest
overflow_sub-rest c = and_le_l _ _

pub overflow_add-result : goal.overflow_add-result
overflow_add-result c =
    let a = c.args in
    omega (arith, set a.bit a.word (search rules), bit_fits a.bit true a.word 32 (search rules) (search rules))

pub returns-then-on : goal.returns-then-on
returns-then-on c = let a = c.args in set a.bit a.word (search rules) ∙ ap (λ (b : Bool). with_bit a.bit b a.word) (sym c.if-on.true)

pub returns-else-on : goal.returns-else-on
returns-else-on c = let a = c.args in cleared a.bit a.word (search rules) ∙ ap (λ (b : Bool). with_bit a.bit b a.word) (sym c.if-on.false)
