-- "So at most 255 are held and an acknowledge never lacks room"; of a stack whose priorities fall, lie below 255 and are even, at most 128
-- (document 02, Two). Assumes nothing.
use Rattle.std.specs.Prelude.{Option, Some, None}
use mathlib.Core.Path.{◌≡◌, refl, ap}
use mathlib.Core.List.{List}
use Prim.Native.Nat.{ℕ, zero, suc, ◌+◌, ◌*◌, ◌≤◌, ◌<◌}
use native.Mathlib.Omega.{arith}
use borrow.Author.Tests.{lt-ltb}
use Rattle.interrupt.specs.Types.{idle_priority}
use Rattle.state.specs.Layout.{stack_capacity}
use Rattle.state.specs.declared.layout.Shape.{Shape}
use Rattle.select.specs.declared.Candidate.{Candidate}
use Rattle.service.specs.Service.{depth_at, running_of, running}
use Rattle.service.proofs.Stacks.{stack_newest}
use Rattle.acknowledge.specs.Acknowledge.{offer, answered, acknowledge, refusal_of}
use Rattle.acknowledge.proofs.Offers.{pushed_below}
use Rattle.lawful.specs.Lawful.{priority_at, Orderly}

module _ (shape : Shape) (v : ℕ) (s : List ℕ) (h : Orderly shape s) (exists : v < shape.count) where
  -- each entry lies below the idle priority by two for every older one, and one more
  pub older_above : (i : ℕ) → i < depth_at shape v s → priority_at shape v i s + 2 * i < idle_priority
  older_above zero b = omega (arith, h.below_idle v zero exists b)
  older_above (suc i) b =
      let earlier : i < depth_at shape v s = omega arith in
      omega (arith, older_above i earlier, h.falling v i (suc i) exists (omega arith) b, h.even v i exists earlier, h.even v (suc i) exists b)

  pub at_most_capacity : depth_at shape v s ≤ stack_capacity
  at_most_capacity = go (depth_at shape v s) refl
    where
      go : (d : ℕ) → depth_at shape v s ≡ d → d ≤ stack_capacity
      go zero p = omega arith
      go (suc d) p = omega (arith, older_above d (omega arith))

  -- the newest runs
  pub running_newest : (d : ℕ) → depth_at shape v s ≡ suc d → running shape v s ≡ priority_at shape v d s
  running_newest d p = ap running_of (stack_newest shape v s d p)

  -- what is handed out finds room
  pub offer_room : (e : Candidate) → offer shape v s ≡ Some e → depth_at shape v s < stack_capacity
  offer_room e p = go (depth_at shape v s) refl
    where
      go : (d : ℕ) → depth_at shape v s ≡ d → d < stack_capacity
      go zero q = omega arith
      go (suc d) q = omega (arith, older_above d (omega arith), h.even v d exists (omega arith), pushed_below shape v s e p, running_newest d q)

  pub never_full : refusal_of (acknowledge shape v s) ≡ 0
  unfolding answered
  never_full = go (offer shape v s) refl
    where
      go : (b : Option Candidate) → offer shape v s ≡ b → refusal_of (answered shape v s b) ≡ 0
      go None p = refl
      go (Some e) p = simp (lt-ltb (depth_at shape v s) stack_capacity (offer_room e p))
