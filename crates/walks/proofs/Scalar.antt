-- What a walk has to know of a scalar type, that of a parameter: `bools` has it of `bool`, `uints` of the unsigned integers.
-- Assumes nothing, and `scalar_makes` `Logic`.
use mathlib.Core.Bool.{Bool}
use mathlib.Core.List.{[], ◌∷◌, List}
use seplogic.Ra.Ura.{Ura}
use Prim.Native.Nat.{ℕ}
use lib.Dec.{T as Holds, eqb_refl}
use mir.Syntax.{Ty, Width, ty_bool, ty_int}
use mir.Val.{Val, vbool, vint, bytes, WT, has_ty}
use base.Stored.{Coded, coded_bool, coded_ℕ}
use base.Fml.{Fml}
use types.Logic.{Logic}
use denote.RattleType.{RattleType}
use denote.Laws.{Is, Tells, Makes}
use denote.Plain.{plain_type, plain_Makes, Boolean, bool_Tells, UInt, uint_Tells}
use denote.Shadow.{Pure}

pub record Scalar : Type 2 where
  pub X : Type 0
  pub coded : Coded X
  pub mir : Ty
  pub own_val : X → List Val → Fml
  pub pure : (x : X) (vs : List Val) → Pure (own_val x vs)
  pub val : X → Val
  pub tells : Tells (plain_type X coded (mir ∷ []) own_val pure) (Is (plain_type X coded (mir ∷ []) own_val pure)) (λ x. val x ∷ [])
  pub typed : (x : X) → Is (plain_type X coded (mir ∷ []) own_val pure) x (val x ∷ []) → Holds (has_ty mir (val x)) × WT (val x)

abbrev pub scalar_row : Scalar → RattleType
scalar_row S = plain_type S.X S.coded (S.mir ∷ []) S.own_val S.pure

abbrev pub bools : Scalar
bools = record { X = Bool; coded = coded_bool; mir = ty_bool; own_val = Boolean.own_val; pure = λ _ _. tt; val = vbool; tells = bool_Tells; typed = λ _ _. (tt, tt) }

abbrev pub uints : Width → Scalar
uints w = record { X = ℕ; coded = coded_ℕ; mir = ty_int w; own_val = (UInt w).own_val; pure = λ _ _. (tt, tt); val = vint w; tells = uint_Tells w; typed = λ _ is. (eqb_refl (bytes w), record { fits = is.1 }) }

pub scalar_makes : (S : Scalar) {M : Type 1} {𝓤 : Ura M} (𝓛 : Logic 𝓤) → Makes 𝓛 (scalar_row S) (Is (scalar_row S))
scalar_makes S 𝓛 = plain_Makes 𝓛 S.X S.coded (S.mir ∷ []) S.own_val S.pure
