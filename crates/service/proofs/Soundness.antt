-- Words that pass the test behind refusal 6 hold every vCPU's stack. Assumes nothing.
use Rattle.std.specs.Prelude.{Some}
use mathlib.Core.Path.{◌≡◌}
use mathlib.Core.List.{List}
use Prim.Native.Nat.{ℕ, ◌<◌}
use Rattle.state.specs.declared.layout.Shape.{Shape}
use Rattle.state.specs.Lent.{validated}
use Rattle.state.proofs.Validated.{validated_held}
use Rattle.service.specs.Service.{Served, Sound}

pub validated_sound : (shape : Shape) (s : List ℕ) → validated s ≡ Some shape → Sound shape s
validated_sound shape s p = let h = validated_held s shape p in record { state = h.state; depths = h.depths }

pub sound_served : {shape : Shape} {s : List ℕ} (v : ℕ) → Sound shape s → v < shape.count → Served shape v s
sound_served v h b = record { state = h.state; exists = b; deep = h.depths v b }
