-- Who keeps the promises is of neither of these two kinds either: by what Computed.antt computes. Assumes nothing.
use mathlib.Core.Path.{◌≡◌, refl, sym, ap, ◌∙◌}
use mathlib.Core.Bool.{true≢false}
use Prim.Native.Nat.{ℕ}
use native.Mathlib.Omega.{arith}
use Rattle.answer.specs.Answer.{Outcome}
use Rattle.history.specs.History.{called, iar_read}
use Rattle.corners.specs.Corners.{zeros}
use Rattle.corners.proofs.Started.{computing}
use Rattle.shut_out.specs.ShutOut.{Behaviour, KeepsPromises, behaved, words_after, gave_number, OneShot, PointForShow}
use Rattle.shut_out.proofs.Computed.{promised, history, begun, from_setup, ring, before, between, first, second, first_given, second_given, serving, set_point, given_by_2, waits_by_0}

pub no_one_shot : (f : Behaviour) → KeepsPromises f → OneShot f → ⊥
unfolding behaved ring before between zeros computing
no_one_shot f m k =
    let e : f (iar_read 0) (words_after f (history before refl)) ≡ first = from_setup f m before refl (iar_read 0) refl in
    let d : f (iar_read 0) (behaved f between first.state) ≡ second = promised f m between (iar_read 0) first.state refl in
    true≢false (sym (ap gave_number d ∙ second_given) ∙ (rw e at (k (history before refl) 0 between (ap gave_number e ∙ first_given) refl refl)))

pub no_point_for_show : (f : Behaviour) → KeepsPromises f → PointForShow f → ⊥
unfolding behaved ring serving set_point zeros computing
no_point_for_show f m k =
    let set : f set_point (words_after f (history serving refl)) ≡ called set_point (behaved called serving begun) = from_setup f m serving refl set_point refl in
    let waits : f (iar_read 0) (words_after f (history serving refl)) ≡ called (iar_read 0) (behaved called serving begun) = from_setup f m serving refl (iar_read 0) refl in
    let given : f (iar_read 0) (called set_point (behaved called serving begun)).state ≡ called (iar_read 0) (called set_point (behaved called serving begun)).state = m (iar_read 0) (called set_point (behaved called serving begun)).state refl in
    differ (sym given_by_2 ∙ sym (ap (λ (o : Outcome). o.value) given) ∙ (rw set at (k (history serving refl) 0 2)) ∙ ap (λ (o : Outcome). o.value) waits ∙ waits_by_0)
  where
    differ : ◌≡◌ {A = ℕ} 6 1023 → ⊥
    differ e = omega (arith, e)
