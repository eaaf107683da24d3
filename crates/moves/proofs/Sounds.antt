-- A move leaves words that pass the test of refusal 6 such words, and what each move of a chain keeps, the chain keeps. Assumes nothing.
use mathlib.Core.Path.{◌≡◌, refl, ◌∙◌}
use mathlib.Core.List.{List}
use mathlib.Core.Logic.{inl, inr}
use Prim.Native.Nat.{ℕ, ◌≤◌, ◌<◌}
use native.Mathlib.Omega.{arith}
use Rattle.word.proofs.Cases.{same_or}
use Rattle.state.specs.declared.layout.Shape.{Shape}
use Rattle.state.specs.declared.layout.InterfaceValue.TheVariants.{Depth}
use Rattle.state.specs.Layout.{Slot, DistributorControl, Interface, Exists, stack_capacity}
use Rattle.state.specs.Words.{word_at}
use Rattle.state.proofs.Canonical.{off_stack_apart}
use Rattle.state.proofs.SlotKinds.{kinds_apart, apart_record}
use Rattle.service.specs.Service.{depth_at, Sound}
use Rattle.service.proofs.Stacks.{popped_depth}
use Rattle.delivery.proofs.Given.{given_depth}
use Rattle.lawful.specs.Lawful.{Lawful}
use Rattle.moves.specs.Moves.{Move, Changed, Sourced, Kept, Switched, Given, Popped, moved, Open, Chain, none, more}
use Rattle.moves.proofs.Slots.{Touches, served, givable, move_room, move_others, no_number, stack_vcpu}

-- a lawful state passes the test
pub lawful_sound : {shape : Shape} {s : List ℕ} → Lawful shape s → Sound shape s
lawful_sound h = record { state = h.in_range.state; depths = h.in_range.depths }

module _ (shape : Shape) (s : List ℕ) (h : Sound shape s) where
  stays : (m : Move) → Open shape m s → (u : ℕ) → u < shape.count → (Touches m (Interface u Depth) → ⊥) → depth_at shape u (moved shape m s) ≤ stack_capacity
  stays m o u x away = rw (move_others shape s h m o (Interface u Depth) x away) (h.depths u x)

  -- one more where there was room, one less, or as it was
  fits : (m : Move) → Open shape m s → (u : ℕ) → u < shape.count → depth_at shape u (moved shape m s) ≤ stack_capacity
  fits (Changed v n c) o u x = stays (Changed v n c) o u x (apart_record (Interface u Depth) v n refl)
  fits (Sourced v n on byte) o u x = stays (Sourced v n on byte) o u x (no_number v n (Interface u Depth) refl refl)
  fits (Kept v k y) o u x = stays (Kept v k y) o u x (off_stack_apart (Interface u Depth) (Interface v k) refl o.off_depth)
  fits (Switched y) o u x = stays (Switched y) o u x (kinds_apart (Interface u Depth) DistributorControl refl)
  fits (Given v e) o u x =
      same_or u v (λ p. rw (p, given_depth shape v e s (givable shape s h v e o)) (omega (arith, o.room))) (λ d. stays (Given v e) o u x (other d))
    where
      other : (u ≡ v → ⊥) → Touches (Given v e) (Interface u Depth) → ⊥
      other d (inl p) = no_number v e.intid.0 (Interface u Depth) refl refl p
      other d (inr p) = d (stack_vcpu v u (Interface u Depth) refl p)
  fits (Popped v) o u x =
      same_or u v (λ p. rw (p, popped_depth shape v s (served shape s h v o.exists) o.some) (omega (arith, h.depths v o.exists))) (λ d. stays (Popped v) o u x (λ p. d (stack_vcpu v u (Interface u Depth) refl p)))

  pub move_sound : (m : Move) → Open shape m s → Sound shape (moved shape m s)
  move_sound m o = record { state = move_room shape s h m o; depths = fits m o }

module _ {shape : Shape} {May : Move → Type 0} {s : List ℕ} where
  pub chain_holds : {r : List ℕ} (P : List ℕ → Type 0) → ((m : Move) (t : List ℕ) → May m → Open shape m t → P t → P (moved shape m t)) → Chain shape May s r → P s → P r
  chain_holds P step none p = p
  chain_holds P step (more {r = t} c m may o) p = step m t may o (chain_holds P step c p)

  pub chain_sound : {r : List ℕ} → Chain shape May s r → Sound shape s → Sound shape r
  chain_sound = chain_holds (Sound shape) (λ m t may o h. move_sound shape t h m o)

  -- a slot that no move of the chain touches stays
  pub chain_others : {r : List ℕ} (t : Slot) → Exists shape t → ((m : Move) (q : List ℕ) → May m → Open shape m q → Touches m t → ⊥) → Chain shape May s r → Sound shape s → word_at shape t r ≡ word_at shape t s
  chain_others t x away none h = refl
  chain_others t x away (more {r = q} c m may o) h = move_others shape q (chain_sound c h) m o t x (away m q may o) ∙ chain_others t x away c h
