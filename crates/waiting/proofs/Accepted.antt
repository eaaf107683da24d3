-- What a call comes to that is accepted: a write to the Distributor, a device's input. Assumes nothing.
use mathlib.Core.Path.{◌≡◌}
use mathlib.Core.Bool.{true}
use mathlib.Core.List.{List}
use Prim.Native.Nat.{ℕ, ◌%◌, ◌^◌, ◌≤◌, ◌<◌}
use lib.Dec.{ltb}
use borrow.Author.Tests.{ltb-true, lt-ltb, le-ltb}
use Rattle.register.specs.declared.frame.AccessWidth.{AccessWidth}
use Rattle.register.specs.declared.distributor.Place.{Place}
use Rattle.register.specs.declared.distributor.DistributorAccess.TheVariants as distributor
use Rattle.register.specs.Distributor.{locate_distributor}
use Rattle.state.specs.declared.layout.Shape.{Shape}
use Rattle.state.specs.Words.{RecordThere, changed}
use Rattle.places.specs.Places.{write_place_looks_up, write_place}
use Rattle.answer.specs.Answer.{went}
use Rattle.answer.proofs.Present.{found}
use Rattle.distributor_frame.specs.DistributorFrame.{write_v2_distributor}
use Rattle.input.specs.declared.Signal.{Signal}
use Rattle.input.specs.Input.{signalled, input_of, device_input}
use Rattle.lawful.specs.Lawful.{Controls}
use Rattle.history.specs.History.{WriteDistributor, called}
use Rattle.history.proofs.Each.{valid}

module _ (shape : Shape) (s : List ℕ) (h : Controls shape s) (v : ℕ) where
  pub write_call_lem : (offset : ℕ) (width : AccessWidth) (value : ℕ) (place : Place) → locate_distributor offset width ≡ distributor.At place
      → (write_place_looks_up place.class place.private (value % 2 ^ 32) ≡ true → v < shape.count)
      → called (WriteDistributor v offset width value) s ≡ went shape 1023 s (write_place shape v place width (value % 2 ^ 32) s)
  unfolding write_v2_distributor
  write_call_lem offset width value place at looked = simp (valid shape s h, at, found (write_place_looks_up place.class place.private (value % 2 ^ 32)) shape v looked)

  pub input_call_lem : (signal : Signal) (n : ℕ) → RecordThere shape v n → 16 ≤ n → device_input signal v n s ≡ went shape 1023 s (changed shape v n (signalled signal) s)
  unfolding device_input input_of
  input_call_lem signal n there past =
      simp (valid shape s h, le-ltb n 16 past, lt-ltb n shape.limit there.numbered, found (ltb n 32) shape v (λ e. there.banked (ltb-true n 32 e)))
