-- A vCPU that passed its look-up exists: so that what the access goes on to asks for is there, and the answer is the definition's. Each law
-- takes what the steps of `read_at` or `write_at` have shown, one premise for each step. Assumes nothing.
use mathlib.Core.Path.{◌≡◌, sym, ◌∙◌}
use mathlib.Core.Bool.{Bool, true, false}
use mathlib.Core.List.{List}
use Prim.Native.Nat.{ℕ}
use Rattle.register.specs.declared.frame.AccessWidth.{AccessWidth}
use Rattle.register.specs.declared.frame.Refusal.TheVariants.{Vcpu}
use Rattle.register.specs.declared.distributor.Place.{Place}
use Rattle.state.specs.declared.layout.Shape.{Shape}
use Rattle.service.specs.Service.{Sound}
use Rattle.wake.specs.Halves.{quiet_set, wake_from}
use Rattle.wake.proofs.WakeSets.{wake_from_lem}
use Rattle.places.specs.Places.{read_place_looks_up, write_place_looks_up, read_place, write_place, Located, PlaceRead, PlaceWritten}
use Rattle.places.proofs.Sounds.{place_sound}
use Rattle.answer.specs.Answer.{Outcome, refused, gave, done, absent}
use Rattle.answer.proofs.Present.{present}
use Rattle.distributor_frame.specs.DistributorFrame.{read_distributor_at, write_distributor_at}

module _ {shape : Shape} {s : List ℕ} (v : ℕ) (h : Sound shape s) where
  pub place_read : {place : Place} {w : AccessWidth} → Located place w → absent (read_place_looks_up place.class place.private) shape v ≡ false → PlaceRead shape v place w s
  place_read located e = record { state = h.state; located = located; looked = present _ shape v e }

  pub place_written : {place : Place} {w : AccessWidth} {value : ℕ} → Located place w → absent (write_place_looks_up place.class place.private value) shape v ≡ false
      → PlaceWritten shape v place w value s
  place_written located e = record { state = h.state; located = located; looked = present _ shape v e }

module _ (shape : Shape) (v : ℕ) (place : Place) (w : AccessWidth) (s : List ℕ) (looks q : Bool) (a : q ≡ absent looks shape v) where
  module _ (l : looks ≡ read_place_looks_up place.class place.private) where
    pub read_refused : q ≡ true → refused Vcpu s ≡ read_distributor_at shape v place w s
    read_refused p = simp (← l, ← a, p)

    pub read_passed : q ≡ false → Sound shape s → Located place w → PlaceRead shape v place w s
    read_passed p h located = place_read v h located (rw l at (sym a ∙ p))

    pub read_answered : (x : ℕ) (out : Outcome) → q ≡ false → x ≡ read_place shape v place w s → out ≡ gave x s → out ≡ read_distributor_at shape v place w s
    read_answered x out p e given = given ∙ simp (← l, ← a, p, e)

  module _ (value : ℕ) (l : looks ≡ write_place_looks_up place.class place.private value) where
    pub write_refused : q ≡ true → refused Vcpu s ≡ write_distributor_at shape v place w value s
    write_refused p = simp (← l, ← a, p)

    module _ (p : q ≡ false) (h : Sound shape s) where
      pub write_passed : Located place w → PlaceWritten shape v place w value s
      write_passed located = place_written v h located (rw l at (sym a ∙ p))

      pub write_stays_sound : (r : List ℕ) → Located place w → r ≡ write_place shape v place w value s → Sound shape r
      write_stays_sound r located e = rw e (place_sound shape v place w value s h (write_passed located))

      pub write_answered : (r : List ℕ) (quiet : ℕ) (out : Outcome) → quiet ≡ quiet_set shape s → r ≡ write_place shape v place w value s
          → out ≡ done (wake_from quiet shape r) 1023 r → out ≡ write_distributor_at shape v place w value s
      write_answered r quiet out e f g = g ∙ simp (f, e, wake_from_lem shape h.state.limits, ← l, ← a, p)
