-- A packed answer is the call's outcome, and its fields read back, as long as each fits its place. Assumes nothing.
use mathlib.Core.Path.{◌≡◌, ap, ◌∙◌}
use mathlib.Core.List.{List}
use Prim.Native.Nat.{ℕ, ◌/◌, ◌%◌, ◌^◌, ◌<◌}
use native.Mathlib.Omega.{arith}
use Rattle.answer.specs.Answer.{Answer, Outcome, outcome}
use Rattle.save.specs.Save.{Saved}
use Rattle.vgic.specs.Packed.{packed_answer, PacksTo, SavesTo}

pub answers : (number : ℕ) (a : Answer) → ((s : List ℕ) → number ≡ packed_answer (outcome a s)) → (s : List ℕ) (o : Outcome) → outcome a s ≡ o → PacksTo number s o
answers number a p s o q = record { number_is = p s ∙ ap packed_answer q; state_is = ap (λ (t : Outcome). t.state) q }

-- of a save, with the buffer
pub saves : (number : ℕ) (a : Answer) → ((s : List ℕ) → number ≡ packed_answer (outcome a s)) → (s buffer : List ℕ) (o : Saved) → ◌≡◌ {A = Saved} (record { outcome = outcome a s; buffer = buffer }) o
    → SavesTo number s buffer o
saves number a p s buffer o q =
    let it = answers number a p s o.outcome (ap (λ (t : Saved). t.outcome) q) in
    record { number_is = it.number_is; state_is = it.state_is; buffer_is = ap (λ (t : Saved). t.buffer) q }

-- the fields of a packed answer read back
module _ (o : Outcome) (value-fits : o.value < 2 ^ 32) (retired-fits : o.retired < 2 ^ 16) (wake-fits : o.wake < 2 ^ 8) where
  pub packed_value : packed_answer o % 2 ^ 32 ≡ o.value
  unfolding packed_answer
  packed_value = omega arith

  pub packed_retired : packed_answer o / 2 ^ 32 % 2 ^ 16 ≡ o.retired
  unfolding packed_answer
  packed_retired = omega arith

  pub packed_wake : packed_answer o / 2 ^ 48 % 2 ^ 8 ≡ o.wake
  unfolding packed_answer
  packed_wake = omega arith

  pub packed_refusal : packed_answer o / 2 ^ 56 ≡ o.refusal
  unfolding packed_answer
  packed_refusal = omega arith
