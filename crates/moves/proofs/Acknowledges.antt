-- An acknowledge in any words that pass the test of refusal 6: it makes the move `Given` and answers its number, or it answers 1023 or is
-- refused by 7 and changes nothing. Assumes nothing.
use Rattle.std.specs.Prelude.{Option, Some, None}
use mathlib.Core.Path.{◌≡◌, refl}
use mathlib.Core.Bool.{Bool, true, false}
use mathlib.Core.List.{List}
use Prim.Native.Nat.{ℕ, ◌+◌, ◌*◌, ◌%◌, ◌≤◌, ◌<◌}
use lib.Dec.{eqb, ltb}
use borrow.Author.Tests.{ltb-true, ltb-false}
use Rattle.state.specs.declared.layout.Shape.{Shape}
use Rattle.state.specs.declared.layout.InterfaceValue.TheVariants.{Control}
use Rattle.state.specs.Words.{enabled_at, interface_at}
use Rattle.state.proofs.Tests.{left_true}
use Rattle.select.specs.declared.Candidate.{Candidate}
use Rattle.state.specs.Layout.{stack_capacity}
use Rattle.service.specs.Service.{depth_at, Sound}
use Rattle.acknowledge.specs.Acknowledge.{offer, source_of, answered, taken, acknowledge, acknowledged}
use Rattle.acknowledge.proofs.Offers.{offer_is}
use Rattle.delivery.proofs.Answers.{acknowledge-is, acknowledged-is}
use Rattle.moves.specs.Moves.{Given, moved, Giving}
use Rattle.moves.proofs.Slots.{served}

-- P is of the answer and of the state after; v exists where it is looked up
module _ (shape : Shape) (s : List ℕ) (h : Sound shape s) (v : ℕ) (looked : enabled_at shape s ≡ true → v < shape.count) (P : Option ℕ → List ℕ → Type 0)
    (nothing : P (Some 1023) s)
    (full : (e : Candidate) → v < shape.count → offer shape v s ≡ Some e → stack_capacity ≤ depth_at shape v s → P None s)
    (gives : (e : Candidate) → Giving shape v e s → P (Some (e.intid.0 + 1024 * source_of shape v e.intid.0 s)) (moved shape (Given v e) s)) where
  pub each_acknowledge : P (acknowledge shape v s) (acknowledged shape v s)
  unfolding answered taken
  each_acknowledge = go (offer shape v s) refl
    where
      offers : (e : Candidate) → offer shape v s ≡ Some e → v < shape.count → (b : Bool) → ltb (depth_at shape v s) stack_capacity ≡ b → P (acknowledge shape v s) (acknowledged shape v s)
      offers e p exists true q =
          let room : depth_at shape v s < stack_capacity = ltb-true (depth_at shape v s) stack_capacity q in
          let here = served shape s h v exists in
          rw (acknowledge-is shape v s here e p room, acknowledged-is shape v s here e p room) (gives e (record { exists = exists; offered = p; room = room }))
      offers e p exists false q = simp (p, q) (full e exists p (ltb-false (depth_at shape v s) stack_capacity q))

      go : (b : Option Candidate) → offer shape v s ≡ b → P (acknowledge shape v s) (acknowledged shape v s)
      go None p = simp p nothing
      go (Some e) p =
          let on : enabled_at shape s ≡ true = left_true (enabled_at shape s) (eqb (interface_at shape v Control s % 2) 1) (offer_is shape v s e p).on in
          offers e p (looked on) (ltb (depth_at shape v s) stack_capacity) refl
