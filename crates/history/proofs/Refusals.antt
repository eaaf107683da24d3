-- The mission, demand 1: "A refusal returns its number, value 0, an empty wake set and no retirement, and the lent state is unchanged." Assumes
-- nothing.
use mathlib.Core.Path.{◌≡◌, refl, sym, ◌∙◌}
use mathlib.Core.Bool.{Bool, false, true, ◌||◌, true≢false}
use mathlib.Core.List.{List, ◌∷◌}
use Prim.Native.Nat.{ℕ}
use lib.Dec.{eqb}
use borrow.Author.Tests.{eq-eqb}
use Rattle.register.specs.declared.frame.Refusal.{Refusal}
use Rattle.register.specs.declared.frame.Refusal.TheVariants as refusal
use Rattle.register.specs.Frame.{refusal_number}
use Rattle.service.proofs.Soundness.{validated_sound}
use Rattle.answer.specs.Answer.{Outcome, refused}
use Rattle.cpu_interface_frame.specs.CpuInterfaceFrame.{read_answer}
use Rattle.moves.proofs.Acknowledges.{each_acknowledge}
use Rattle.history.specs.History.{Call, called}
use Rattle.history.specs.Refusals.{refusals, listed, Refuses}
use Rattle.history.proofs.Always.{each_start}
use Rattle.history.proofs.Each.{start_or_act, each_call, any_words}

-- a call that comes to this is accepted, or refused as it has to be
abbrev AsRefused : List ℕ → Call → Outcome → Type 0
AsRefused s c o = (o.refusal ≡ 0 → ⊥) → Refuses c s o

module _ (s : List ℕ) where
  a_refusal : (c : Call) (r : Refusal) → listed (refusal_number r) (refusals c) ≡ true → AsRefused s c (refused r s)
  a_refusal c r e some = record { number = e; value = refl; wake = refl; retired = refl; state = refl }

  accepted : {c : Call} {o : Outcome} → o.refusal ≡ 0 → AsRefused s c o
  accepted e some = absurd (some e)

-- any call with any arguments, to any words at all
pub every_refusal : (c : Call) (s : List ℕ) → ((called c s).refusal ≡ 0 → ⊥) → Refuses c s (called c s)
every_refusal c s =
    start_or_act (λ d. AsRefused s d (called d s))
    (each_start s (λ d k. AsRefused s d) (λ d k r may. a_refusal s d r may.of_call) (λ d count limit after controls. accepted s refl))
    (any_words s (AsRefused s) (λ d by_6. a_refusal s d refusal.BrokenState by_6)
    (λ shape h. each_call shape s h (λ d k. AsRefused s d)
    (λ d k r may bar. a_refusal s d r may.of_call)
    (λ d by x. accepted s refl)
    (λ d v register x no. accepted s refl)
    (λ d v register is looked full.
    each_acknowledge shape s (validated_sound shape s h) v looked (λ a r. AsRefused s d (read_answer a s r))
    (accepted s refl) (λ e exists p no_room. a_refusal s d refusal.FullStack full) (λ e o. accepted s refl))
    (λ d v register value looked. accepted s refl)
    (λ d v place width value at. accepted s refl)
    (λ d v n signal there past. accepted s refl)))
    c

-- "each public call ends with a defined answer": accepted, or refused by one of the numbers that document 01 has for it
pub every_answer : (c : Call) (s : List ℕ) → listed (called c s).refusal (0 ∷ refusals c) ≡ true
every_answer c s = go (eqb (called c s).refusal 0) refl
  where
    go : (b : Bool) → eqb (called c s).refusal 0 ≡ b → (b || listed (called c s).refusal (refusals c)) ≡ true
    go true e = refl
    go false e = (every_refusal c s (λ p. true≢false (sym (eq-eqb (called c s).refusal 0 p) ∙ e))).number
