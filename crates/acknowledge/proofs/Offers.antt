-- What an acknowledge hands out is the best candidate, which preempts what runs. Assumes nothing.
use Rattle.std.specs.Prelude.{Option, Some, None}
use mathlib.Core.Path.{◌≡◌, refl, sym, subst}
use mathlib.Core.Bool.{Bool, true, false, cond}
use mathlib.Core.List.{List}
use Prim.Native.Nat.{ℕ, ◌%◌, ◌<◌}
use native.Mathlib.Omega.{arith}
use borrow.Author.Tests.{ltb-true}
use Rattle.word.proofs.RecordWord.{decoded_in_range}
use Rattle.state.specs.declared.layout.Shape.{Shape}
use Rattle.state.specs.declared.layout.InterfaceValue.TheVariants.{BinaryPoint}
use Rattle.state.specs.Words.{word_at, record_slot, interface_at}
use Rattle.select.specs.declared.Candidate.{Candidate}
use Rattle.select.specs.Select.{best, both_on}
use Rattle.select.proofs.Meaning.{best_is}
use Rattle.service.specs.Service.{running}
use Rattle.acknowledge.specs.Acknowledge.{group_of, preempts, preempting, offer, pushed_for}
use Rattle.acknowledge.proofs.Grouping.{group_at_most, group_even}

is_some : Option Candidate → Type 0
is_some None = ⊥
is_some (Some c) = Unit

nothing_some : (c : Candidate) → None ≡ Some c → ⊥
unfolding is_some
nothing_some c p = subst is_some (sym p) tt

module _ (shape : Shape) (v : ℕ) (s : List ℕ) (c : Candidate) where
  pub record Offered : Type 0 where
    pub on : both_on shape v s ≡ true
    pub best_one : best shape v s ≡ Some c
    pub preempting_one : preempts shape v s c ≡ true

  preempted : (b : Option Candidate) → preempting shape v s b ≡ Some c → (b ≡ Some c) × (preempts shape v s c ≡ true)
  preempted None p = absurd (nothing_some c p)
  preempted (Some d) p = go (preempts shape v s d) refl p
    where
      go : (q : Bool) → preempts shape v s d ≡ q → cond q (Some d) None ≡ Some c → (Some d ≡ Some c) × (preempts shape v s c ≡ true)
      go true w r = let same : d ≡ c = cc in (r, rw (← same) w)
      go false w r = absurd (nothing_some c r)

  pub offer_is : offer shape v s ≡ Some c → Offered
  unfolding offer
  offer_is p = go (both_on shape v s) refl p
    where
      go : (q : Bool) → both_on shape v s ≡ q → cond q (preempting shape v s (best shape v s)) None ≡ Some c → Offered
      go true w r = let a = preempted (best shape v s) r in record { on = w; best_one = a.0; preempting_one = a.1 }
      go false w r = absurd (nothing_some c r)

  pub is_offer : Offered → offer shape v s ≡ Some c
  unfolding offer
  is_offer o = simp (o.on, o.best_one, o.preempting_one)

  pub offer_below : offer shape v s ≡ Some c → c.intid.0 < shape.limit
  offer_below p = (best_is shape v s c (offer_is p).best_one).below

  -- what is pushed for it is below what runs, a byte, and even
  pub pushed_below : offer shape v s ≡ Some c → (pushed_for shape v s c).priority.0 < running shape v s
  pushed_below p = ltb-true (group_of shape v s c) (running shape v s) (offer_is p).preempting_one

  pub group_byte : c.priority.0 < 256 → (pushed_for shape v s c).priority.0 < 256
  group_byte h = omega (arith, h, group_at_most (interface_at shape v BinaryPoint s) c.priority.0)

  pub pushed_byte : offer shape v s ≡ Some c → (pushed_for shape v s c).priority.0 < 256
  pushed_byte p = group_byte (omega (arith, (decoded_in_range (word_at shape (record_slot v c.intid.0) s)).priority_byte, (best_is shape v s c (offer_is p).best_one).priority))

  pub pushed_even : (pushed_for shape v s c).priority.0 % 2 ≡ 0
  pushed_even = group_even (interface_at shape v BinaryPoint s) c.priority.0
