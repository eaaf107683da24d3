-- The direct test and IAR's answer agree: a vCPU is ready exactly if an IAR read by it would not give 1023. Assumes nothing.
use Rattle.std.specs.Prelude.{Option, Some, None}
use mathlib.Core.Path.{◌≡◌, refl, sym, ap, ◌∙◌}
use mathlib.Core.Bool.{Bool, true, false, not, cond, ◌&&◌, true≢false}
use mathlib.Core.List.{List}
use Prim.Native.Nat.{ℕ, ◌+◌, ◌*◌, ◌<◌}
use native.Mathlib.Omega.{arith}
use lib.Dec.{eqb, ltb}
use borrow.Author.Tests.{ltb-true, lt-ltb, ne_eqb}
use Rattle.state.specs.declared.layout.Shape.{Shape}
use Rattle.state.specs.declared.layout.InterfaceValue.TheVariants.{BinaryPoint}
use Rattle.state.specs.Layout.{Limits, stack_capacity}
use Rattle.state.specs.Words.{interface_at}
use Rattle.select.specs.declared.Candidate.{Candidate}
use Rattle.select.specs.Keys.{urgent}
use Rattle.select.specs.Select.{candidate, candidate_for, best, both_on}
use Rattle.select.proofs.Meaning.{best_is, none_is}
use Rattle.service.specs.Service.{depth_at, running}
use Rattle.acknowledge.specs.Acknowledge.{group_of, preempts, preempting, offer, source_of, answered, acknowledge}
use Rattle.acknowledge.specs.Bound.{preemption_bound}
use Rattle.acknowledge.proofs.Grouping.{group_in_order, bound_preempts}
use Rattle.acknowledge.proofs.Offers.{offer_below}
use Rattle.wake.specs.Halves.{is_some, ready}
use Rattle.wake.specs.Wake.{is_spurious, gives_number}

module _ (shape : Shape) (v : ℕ) (s : List ℕ) where
  -- where a candidate preempts what runs, something is handed out: the best goes before it, or is it
  module _ (n : ℕ) (below : n < shape.limit) (chosen : candidate shape v s n ≡ true) (ahead : preempts shape v s (candidate_for shape v s n) ≡ true) where
    some_preempting : (b : Option Candidate) → best shape v s ≡ b → is_some (preempting shape v s b) ≡ true
    some_preempting None p = absurd (true≢false (sym chosen ∙ none_is shape v s p n below))
    some_preempting (Some c) p =
        let first = group_in_order (interface_at shape v BinaryPoint s) c.priority.0 (candidate_for shape v s n).priority.0 ((best_is shape v s c p).smallest n below chosen) in
        let under = ltb-true (group_of shape v s (candidate_for shape v s n)) (running shape v s) ahead in
        simp (lt-ltb (group_of shape v s c) (running shape v s) (omega (arith, first, under)))

    pub preempting_ready : both_on shape v s ≡ true → ready shape v s ≡ true
    unfolding ready offer
    preempting_ready on = simp on (some_preempting (best shape v s) refl)

  -- the direct test: both are on, and the best is below the bound
  pub ready_below : ready shape v s ≡ (both_on shape v s && urgent (preemption_bound shape v s) (best shape v s))
  unfolding ready offer
  ready_below = go (both_on shape v s) (best shape v s)
    where
      point : interface_at shape v BinaryPoint s < 8
      point = omega arith

      some_if : (b : Bool) (c : Candidate) → is_some (cond b (Some c) None) ≡ b
      some_if true c = refl
      some_if false c = refl

      go : (on : Bool) (x : Option Candidate) → is_some (cond on (preempting shape v s x) None) ≡ (on && urgent (preemption_bound shape v s) x)
      go false x = refl
      go true None = refl
      go true (Some c) = some_if (preempts shape v s c) c ∙ sym (bound_preempts (interface_at shape v BinaryPoint s) c.priority.0 (running shape v s) point)

  -- what is handed out is never 1023
  number_not : Limits shape → (e : Candidate) → offer shape v s ≡ Some e → eqb (e.intid.0 + 1024 * source_of shape v e.intid.0 s) 1023 ≡ false
  number_not l e p = let b = offer_below shape v s e p in ne_eqb (e.intid.0 + 1024 * source_of shape v e.intid.0 s) 1023 (λ q. omega (arith, b, q, l.few_numbers))

  module _ (l : Limits shape) where
    pub ready_spurious : is_spurious (acknowledge shape v s) ≡ not (ready shape v s)
    unfolding ready
    ready_spurious = go (offer shape v s) refl
      where
        full : (q : Bool) (x : ℕ) → eqb x 1023 ≡ false → is_spurious (cond q (Some x) None) ≡ false
        full true x w = w
        full false x w = refl

        go : (b : Option Candidate) → offer shape v s ≡ b → is_spurious (answered shape v s b) ≡ not (is_some b)
        go None p = unfold answered in refl
        go (Some e) p = unfold answered in full (ltb (depth_at shape v s) stack_capacity) (e.intid.0 + 1024 * source_of shape v e.intid.0 s) (number_not l e p)

    pub ready_number : gives_number (acknowledge shape v s) ≡ (ready shape v s && ltb (depth_at shape v s) stack_capacity)
    unfolding ready
    ready_number = go (offer shape v s) refl
      where
        full : (q : Bool) (x : ℕ) → eqb x 1023 ≡ false → gives_number (cond q (Some x) None) ≡ q
        full true x w = ap not w
        full false x w = refl

        go : (b : Option Candidate) → offer shape v s ≡ b → gives_number (answered shape v s b) ≡ (is_some b && ltb (depth_at shape v s) stack_capacity)
        go None p = unfold answered in refl
        go (Some e) p = unfold answered in full (ltb (depth_at shape v s) stack_capacity) (e.intid.0 + 1024 * source_of shape v e.intid.0 s) (number_not l e p)
