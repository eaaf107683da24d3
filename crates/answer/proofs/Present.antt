-- A lent state that was found sound is; a vCPU that passed its look-up exists, and one that exists passes it. Assumes nothing.
use Rattle.std.specs.Prelude.{Option, Some}
use mathlib.Core.Path.{◌≡◌, refl, sym, ◌∙◌}
use mathlib.Core.Bool.{Bool, true, false, true≢false}
use mathlib.Core.List.{List}
use Prim.Native.Nat.{ℕ, ◌<◌}
use borrow.Author.Tests.{leb-false, lt-leb}
use Rattle.state.specs.declared.layout.Shape.{Shape}
use Rattle.state.specs.Lent.{validated}
use Rattle.service.specs.Service.{Sound}
use Rattle.service.proofs.Soundness.{validated_sound}
use Rattle.answer.specs.Answer.{absent}

pub found_sound : (s : List ℕ) (held : Option Shape) → held ≡ validated s → (shape : Shape) → held ≡ Some shape → Sound shape s
found_sound s held e shape h = validated_sound shape s (sym e ∙ h)

pub present : (looks_up : Bool) (shape : Shape) (v : ℕ) → absent looks_up shape v ≡ false → looks_up ≡ true → v < shape.count
present true shape v e q = leb-false shape.count v e
present false shape v e q = absurd (true≢false (sym q))

pub found : (looks_up : Bool) (shape : Shape) (v : ℕ) → (looks_up ≡ true → v < shape.count) → absent looks_up shape v ≡ false
found true shape v exists = lt-leb shape.count v (exists refl)
found false shape v exists = refl
