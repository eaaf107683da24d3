-- What is computed before and after a call is the wake set as it is defined. Assumes nothing.
use Rattle.std.specs.Prelude.{Option, Some, None}
use mathlib.Core.Path.{◌≡◌, refl, sym, ap, ◌∙◌}
use mathlib.Core.Bool.{Bool, true, false, not, ◌&&◌, true≢false}
use mathlib.Core.List.{List}
use Prim.Native.Nat.{ℕ, suc, ◌+◌, ◌*◌, ◌/◌, ◌%◌, ◌^◌, ◌<◌}
use native.Mathlib.Nat.{one-mul}
use native.Mathlib.Omega.{arith}
use lib.Dec.{eqb}
use Rattle.interrupt.specs.Types.{every_vcpu}
use Rattle.word.specs.Fields.{gathered}
use Rattle.word.specs.Word.{bit_of}
use Rattle.word.proofs.Gathered.{gathered_field, gathered_fits, gathered_same, gathered_idle}
use Rattle.word.proofs.RecordWord.{bit_fits, bit_back}
use Rattle.state.specs.declared.layout.Shape.{Shape}
use Rattle.state.specs.Layout.{Limits}
use Rattle.state.specs.Loop.{every_below}
use Rattle.state.proofs.Tests.{every_at}
use Rattle.acknowledge.specs.Acknowledge.{acknowledge}
use Rattle.wake.specs.declared.IarAnswer.{IarAnswer}
use Rattle.wake.specs.declared.IarAnswer.TheVariants.{Spurious, Number}
use Rattle.wake.specs.Halves.{answers_so, among_answers, answering_among, quiet_among, quiet_set, wake_from}
use Rattle.wake.specs.Wake.{is_spurious, gives_number, wake_set, woken}

-- one bit more fits a byte
pub bits_fit : (answer : IarAnswer) (among : ℕ) (shape : Shape) (s : List ℕ) (v : ℕ) → v < 8
    → gathered 1 (λ u. bit_of (among_answers answer among shape s u)) v + bit_of (among_answers answer among shape s v) * 2 ^ (1 * v) < 2 ^ 8
unfolding gathered
bits_fit answer among shape s v h = gathered_fits 1 (λ u. bit_of (among_answers answer among shape s u)) (λ u. bit_fits (among_answers answer among shape s u)) (suc v) 8 (omega arith)

-- every bit is set
all_among : (v : ℕ) → v < 8 → eqb (every_vcpu / 2 ^ v % 2) 1 ≡ true
unfolding every_below
all_among v h = every_at (λ u. eqb (every_vcpu / 2 ^ u % 2) 1) 8 v refl h

-- the bit of a vCPU among the quiet ones
quiet_bit : (shape : Shape) (among : ℕ) (s : List ℕ) (v : ℕ) → v < shape.count → eqb (quiet_among among shape s / 2 ^ v % 2) 1 ≡ among_answers Spurious among shape s v
unfolding answering_among
quiet_bit shape among s v h =
    let f : ℕ → ℕ = λ u. bit_of (among_answers Spurious among shape s u) in
    let at : gathered 1 f shape.count / 2 ^ v % 2 ≡ f v = rw one-mul at (gathered_field 1 f (λ u. bit_fits (among_answers Spurious among shape s u)) shape.count v h) in
    ap (λ (x : ℕ). eqb x 1) at ∙ bit_back (among_answers Spurious among shape s v)

-- before and after together, where nobody else can be woken
pub wake_among : (shape : Shape) (among : ℕ) (before after : List ℕ) → ((v : ℕ) → v < shape.count → eqb (among / 2 ^ v % 2) 1 ≡ false → woken shape before after v ≡ false)
    → wake_from (quiet_among among shape before) shape after ≡ wake_set shape before after
unfolding answering_among wake_set
wake_among shape among before after others =
    gathered_same 1 (λ v. bit_of (among_answers Number (quiet_among among shape before) shape after v)) (λ v. bit_of (woken shape before after v)) shape.count
    (λ v h. ap bit_of (ap (λ (b : Bool). b && answers_so Number shape after v) (quiet_bit shape among before v h) ∙ go v h (eqb (among / 2 ^ v % 2) 1) refl))
  where
    go : (v : ℕ) → v < shape.count → (b : Bool) → eqb (among / 2 ^ v % 2) 1 ≡ b → (b && answers_so Spurious shape before v && answers_so Number shape after v) ≡ woken shape before after v
    go v h true e = refl
    go v h false e = sym (others v h e)

-- .. and of everybody
pub wake_from_lem : (shape : Shape) → Limits shape → (before after : List ℕ) → wake_from (quiet_set shape before) shape after ≡ wake_set shape before after
wake_from_lem shape l before after = wake_among shape every_vcpu before after (λ v h e. absurd (true≢false (sym (all_among v (omega arith)) ∙ e)))

-- what changes nothing wakes nobody
pub none_wakes_nobody : (shape : Shape) (s : List ℕ) → wake_set shape s s ≡ 0
unfolding wake_set gathered
none_wakes_nobody shape s = gathered_idle 1 (λ v. bit_of (woken shape s s v)) shape.count 0 (omega arith) (λ v a b. ap bit_of (not_both (acknowledge shape v s)))
  where
    not_both : (a : Option ℕ) → (is_spurious a && gives_number a) ≡ false
    not_both (Some x) = go (eqb x 1023)
      where
        go : (b : Bool) → (b && not b) ≡ false
        go true = refl
        go false = refl
    not_both None = refl
