-- An IAR read as a whole: if it hands out an interrupt, the stack is the old stack with the new entry, and no record changes but the one
-- given; if it answers 1023 or is refused by 7, nothing changes. Assumes nothing.
use Rattle.std.specs.Prelude.{Option, Some, None}
use mathlib.Core.Path.{◌≡◌, refl, ap, ◌∙◌}
use mathlib.Core.Bool.{Bool, true, false, cond}
use mathlib.Core.List.{List, ◌∷◌}
use Prim.Native.Nat.{ℕ, ◌+◌, ◌*◌, ◌≤◌, ◌<◌}
use native.Mathlib.Omega.{arith}
use lib.Dec.{ltb}
use borrow.Author.Tests.{lt-ltb, ltb-true}
use Rattle.state.specs.declared.layout.Shape.{Shape}
use Rattle.state.specs.Layout.{Limits, stack_capacity}
use Rattle.state.specs.Words.{record_slot, RecordThere, record_at}
use Rattle.select.specs.declared.Candidate.{Candidate}
use Rattle.service.specs.Service.{depth_at, stack_at, Served}
use Rattle.acknowledge.specs.Acknowledge.{offer, source_of, pushed_for, given, answered, taken, acknowledge, acknowledged, refusal_of, value_of, Givable}
use Rattle.delivery.proofs.Given.{given_records, given_stack, given_stacks}
use Rattle.acknowledge.proofs.Offers.{offer_below, pushed_byte}

-- an interrupt is handed out
module _ (shape : Shape) (v : ℕ) (s : List ℕ) (h : Served shape v s) (e : Candidate) (o : offer shape v s ≡ Some e) (room : depth_at shape v s < stack_capacity) where
  pub givable : Givable shape v e s
  givable = record { served = h; room = room; numbered = offer_below shape v s e o }

  pub acknowledge-is : acknowledge shape v s ≡ Some (e.intid.0 + 1024 * source_of shape v e.intid.0 s)
  unfolding answered
  acknowledge-is = ap (answered shape v s) o ∙ simp (lt-ltb (depth_at shape v s) stack_capacity room)

  pub acknowledged-is : acknowledged shape v s ≡ given shape v e s
  unfolding taken
  acknowledged-is = ap (taken shape v s) o ∙ simp (lt-ltb (depth_at shape v s) stack_capacity room)

  pub acknowledged-stack : stack_at shape v (acknowledged shape v s) ≡ pushed_for shape v s e ∷ stack_at shape v s
  acknowledged-stack =
      let below : e.intid.0 < shape.limit = givable.numbered in
      ap (stack_at shape v) acknowledged-is
      ∙ given_stack shape v e s givable (omega (arith, below, h.state.limits.few_numbers)) (pushed_byte shape v s e o)

  pub acknowledged-stacks : (u : ℕ) → u < shape.count → (u ≡ v → ⊥) → depth_at shape u s ≤ stack_capacity → stack_at shape u (acknowledged shape v s) ≡ stack_at shape u s
  acknowledged-stacks u x apart deep = ap (stack_at shape u) acknowledged-is ∙ given_stacks shape v e s givable u x apart deep

  pub acknowledged-records : (u m : ℕ) → RecordThere shape u m → (record_slot u m ≡ record_slot v e.intid.0 → ⊥) → record_at shape u m (acknowledged shape v s) ≡ record_at shape u m s
  acknowledged-records u m x apart = ap (record_at shape u m) acknowledged-is ∙ given_records shape v e s givable u m x apart

-- none is
module _ (shape : Shape) (v : ℕ) (s : List ℕ) where
  pub none-unchanged : offer shape v s ≡ None → acknowledged shape v s ≡ s
  unfolding taken
  none-unchanged o = ap (taken shape v s) o

  -- refused by 7
  pub full-unchanged : refusal_of (acknowledge shape v s) ≡ 7 → acknowledged shape v s ≡ s
  unfolding answered taken
  full-unchanged p = go (offer shape v s) p
    where
      full : (b : Bool) (x : ℕ) (r : List ℕ) → refusal_of (cond b (Some x) None) ≡ 7 → cond b r s ≡ s
      full true x r q = absurd (omega (arith, q))
      full false x r q = refl

      go : (b : Option Candidate) → refusal_of (answered shape v s b) ≡ 7 → taken shape v s b ≡ s
      go None q = refl
      go (Some e) q = full (ltb (depth_at shape v s) stack_capacity) (e.intid.0 + 1024 * source_of shape v e.intid.0 s) (given shape v e s) q

  -- 1023
  pub spurious-unchanged : Limits shape → value_of (acknowledge shape v s) ≡ 1023 → acknowledged shape v s ≡ s
  unfolding answered taken
  spurious-unchanged l p = go (offer shape v s) refl p
    where
      some : (e : Candidate) (b : Bool) (r : List ℕ) → e.intid.0 < shape.limit → value_of (cond b (Some (e.intid.0 + 1024 * source_of shape v e.intid.0 s)) None) ≡ 1023 → cond b r s ≡ s
      some e true r below q = absurd (omega (arith, q, below, l.few_numbers))
      some e false r below q = refl

      go : (b : Option Candidate) → offer shape v s ≡ b → value_of (answered shape v s b) ≡ 1023 → taken shape v s b ≡ s
      go None o q = refl
      go (Some e) o q = some e (ltb (depth_at shape v s) stack_capacity) (given shape v e s) (offer_below shape v s e o) q

-- what stays true of the state if nothing changes, and if an interrupt is given, stays true under an IAR read
module _ (shape : Shape) (v : ℕ) (s : List ℕ) (h : Served shape v s) (P : List ℕ → Type 0) (same : P s) (give : (e : Candidate) → offer shape v s ≡ Some e → Givable shape v e s → P (given shape v e s)) where
  pub acknowledged-cases : P (acknowledged shape v s)
  unfolding taken
  acknowledged-cases = go (offer shape v s) refl
    where
      some : (b : Bool) (r : List ℕ) → (b ≡ true → P r) → P (cond b r s)
      some true r f = f refl
      some false r f = same

      go : (b : Option Candidate) → offer shape v s ≡ b → P (taken shape v s b)
      go None p = same
      go (Some e) p = some (ltb (depth_at shape v s) stack_capacity) (given shape v e s) (λ q. give e p (givable shape v s h e p (ltb-true (depth_at shape v s) stack_capacity q)))
