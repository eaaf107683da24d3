-- What saving comes to, case by case. Each law takes what the steps of the call have shown, one premise for each step. Assumes nothing.
use Rattle.std.specs.Prelude.{Option, Some}
use mathlib.Core.Bool.{Bool, true, false, not}
use mathlib.Core.List.{List, ◌++◌}
use mathlib.Core.Path.{◌≡◌, refl, sym, ◌∙◌}
use Prim.Native.Nat.{ℕ, ◌+◌, ◌^◌, ◌≤◌, ◌<◌}
use native.Mathlib.Omega.{arith}
use lib.Dec.{leb}
use lib.ListN.{length, drop}
use lib.Seq.{sets-eq}
use borrow.Author.Tests.{leb-true, not-false}
use Rattle.groups.specs.Groups.{Wrote}
use Rattle.state.specs.declared.layout.Shape.{Shape}
use Rattle.state.specs.Lent.{validated}
use Rattle.state.proofs.Validated.{validated_held}
use Rattle.service.specs.Service.{Sound}
use Rattle.answer.specs.Answer.{Outcome, gave}
use Rattle.lawful.specs.Lawful.{Lawful}
use Rattle.lawful_test.specs.LawfulTest.{is_lawful}
use Rattle.lawful_test.proofs.Passing.{passes_lawful}
use Rattle.image.specs.Image.{numbers, image}
use Rattle.save.specs.Save.{Saved, save}
use Rattle.save.specs.Fitting.{Fitting}
use Rattle.save.proofs.Bound.{image_fits}

-- what the walk asks of a lawful state
pub lawful_sound : {shape : Shape} {s : List ℕ} → Lawful shape s → Sound shape s
lawful_sound h = record { state = h.in_range.state; depths = h.in_range.depths }

pub lawful_fits : {shape : Shape} {s : List ℕ} (w : Bool) (out : List ℕ) → Lawful shape s → (w ≡ true → length (image shape s) ≤ length out) → Fitting w (numbers shape s) 0 out
lawful_fits {shape} {s} w out h room =
    let most = image_fits shape s h in
    let few = h.in_range.state.limits in
    record { near = omega arith; room = λ e. let fits = room e in omega arith }

-- measuring changes nothing
pub measured : {text s s' : List ℕ} {end : ℕ} → Wrote false text 0 s s' end → (leb end (length s') ≡ leb (length text) (length s)) × (s' ≡ s)
measured {text} {s} {s'} {end} wrote = let same : end ≡ length text = wrote.past ∙ omega arith in (rw (wrote.bytes, same), wrote.bytes)

module _ (s buffer : List ℕ) (found : Option Shape) (e : found ≡ validated s) where
  module _ (shape : Shape) (h : found ≡ Some shape) (q : Bool) (l : q ≡ is_lawful shape s) where
    module _ (p : not q ≡ false) where
      pub saved_lawful : Lawful shape s
      saved_lawful = passes_lawful shape s (validated_held s shape (sym e ∙ h)) (sym l ∙ not-false q p)

      -- after the test of the room, which changes nothing
      module _ (now : List ℕ) (same : now ≡ buffer) (fits : Bool) (room : fits ≡ leb (length (image shape s)) (length buffer)) where
        module _ (f : not fits ≡ false) where
          pub saved_fits : Fitting true (numbers shape s) 0 now
          saved_fits = lawful_fits true now saved_lawful (λ _. rw same (leb-true _ _ (sym room ∙ not-false fits f)))

          module _ (after : List ℕ) (end : ℕ) (wrote : Wrote true (image shape s) 0 now after end) where
            pub saved_short : end < 2 ^ 32
            saved_short =
                let most = image_fits shape s saved_lawful in
                let few = saved_lawful.in_range.state.limits in
                let past = wrote.past in
                omega arith

            pub saved_whole : (out : Outcome) → out ≡ gave end s → ◌≡◌ {A = Saved} (record { outcome = out; buffer = after }) (save s buffer)
            unfolding save
            saved_whole out given =
                let z : 0 + length (image shape s) ≡ length (image shape s) = omega arith in
                let bytes : after ≡ image shape s ++ drop (length (image shape s)) now = wrote.bytes ∙ sets-eq (image shape s) now 0 (wrote.fits refl) ∙ rw z in
                simp (← e, h, ← l, not-false q p, ← room, not-false fits f) (simp (given, bytes, same, wrote.past, z))
