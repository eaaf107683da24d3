-- A struct of a slice and a place in it, `struct S<'a> { image: &'a [u8], at: usize }`, under any names: its type, its MIR type, its machine value and its laws. For a declared struct they compute to those that the check makes of it.
-- And a function of such a slice and place in its two forms, as contracts, with scalars ps for its other parameters: both ask Asks of them and return f of them.
--     bare, Bare     `fn g(image: &[u8], at: usize, ..) -> R`            carried, Carried     `fn g<'a>(s: S<'a>, ..) -> R`
-- Assumes nothing.
use mathlib.Core.Path.{◌≡◌}
use Prim.Native.Nat.{ℕ}
use mathlib.Core.List.{List, [], ◌∷◌}
use lib.Dec.{T as Holds}
use lib.ListN.{length}
use seplogic.Ra.Ura.{Ura}
use mir.Syntax.{Sym, Ty, Lifetime, w8, w64, ty_int, ty_ref, imm, ty_struct, tcons, tnil}
use mir.Val.{Val, vint, vstruct, vcons, vnil, WT, has_ty}
use base.Logic.{SProp}
use types.Logic.{Logic}
use contract.Lifetimes.{Lfts}
use contract.Monad.{fact}
use denote.RattleType.{RattleType}
use denote.Laws.{Is}
use denote.Builtin.{u8, usize, SliceRefOf}
use denote.Plain.{uint_row_laws}
use denote.Ref.{Bor, NamedLft}
use denote.Signature.{plain, named_lft}
use denote.Slice.{slice_val, slice_ty}
use denote.Struct.Field.{shr_slice_field, usize-field}
use denote.Struct.Record.{Record, Done, declared}
use denote.Struct.Declared.{Declared, row}
use denote.Struct.Laws as LL
use denote.Exit.{yes}
use denote.Triple.End.{all}
use denote.Triple.Clauses.{Ended, Clauses}
use Rattle.walks.proofs.Scalar.{Scalar}
use Rattle.walks.proofs.Scalars.{Xs, slots, told}

pub record Cursor : Type 1 where
  pub name : Sym
  pub D : Type 0
  pub image : D → Bor (List ℕ)
  pub at : D → ℕ
  pub make : Bor (List ℕ) → ℕ → D
  pub eta : (d : D) → make (image d) (at d) ≡ d
  pub beta : (v : Bor (List ℕ) × (ℕ × Unit {0})) → Done → ◌≡◌ {A = Bor (List ℕ) × (ℕ × Unit {0})} (image (make v.0 v.1.0), (at (make v.0 v.1.0), tt)) v
  pub propositions : Bor (List ℕ) × (ℕ × Unit {0}) → IsProp Done

-- a result: its type, with one MIR type that a machine value of it has
pub record Result : Type 2 where
  pub row : RattleType
  pub mir : Ty
  pub typed : {M : Type 1} {𝓤 : Ura M} (𝓛 : Logic 𝓤) (r : row.Denot) (v : Val) → Is row r (v ∷ []) → Holds (has_ty mir v) × WT v

abbrev pub slice : Bor (List ℕ) → Val
slice x = slice_val x.ref_ptr (length x.now)

abbrev pub τ_slice : Lifetime → Ty
τ_slice ℓ = slice_ty (ty_ref ℓ imm (ty_int w8))

module _ (S : Cursor) where
  abbrev pub mir_at : Lifetime → Ty
  mir_at ℓ = ty_struct S.name (tcons (τ_slice ℓ) (tcons (ty_int w64) tnil))

  abbrev pub lowered : S.D → Val
  lowered d = vstruct (vcons (slice (S.image d)) (vcons (vint w64 (S.at d)) vnil))

  module _ (a : NamedLft) where
    abbrev pub struct : Record
    struct = record {
      name = S.name;
      args = a.mir ∷ [];
      types = [];
      parts = shr_slice_field a u8 tt ∷ usize-field ∷ [];
      D = S.D;
      as_values = λ d. (S.image d, (S.at d, tt));
      Ghost = λ v. Done;
      ghosts = λ d. tt;
      make = λ v g. S.make v.0 v.1.0;
      eta = S.eta;
      beta = S.beta;
    }

    abbrev pub the_type : Declared
    the_type = declared struct S.propositions

    abbrev pub the_laws : LL.Laws the_type
    the_laws = (LL.shr_slice_laws a u8 tt, (LL.usize-laws, tt))

    abbrev pub the_copy : LL.Copyables the_type.parts
    the_copy = (LL.shr_slice_copy a u8 tt (uint_row_laws w8), (LL.usize-copy, tt))

  -- the struct's type, over a signature's one lifetime
  abbrev pub row_at : Lfts 1 → RattleType
  row_at κs = row (the_type (named_lft 1 0 tt κs))

module _ (ps : List Scalar) (R : Result) where
  abbrev pub bare : Ended
  bare = record { signature = record { lifetimes = 1; outlives = []; params = SliceRefOf (0 ∷ []) tt (plain (λ _. u8)) (λ _. tt) ∷ plain (λ _. usize) ∷ slots 1 ps; result = plain (λ _. R.row) }; kept = (yes, (yes, all yes (slots 1 ps))) }

  abbrev pub carried : Cursor → Ended
  carried S = record { signature = record { lifetimes = 1; outlives = []; params = plain (row_at S) ∷ slots 1 ps; result = plain (λ _. R.row) }; kept = (yes, all yes (slots 1 ps)) }

  module _ {M : Type 1} (𝓤 : Ura M) (Asks : List ℕ → ℕ → Xs ps → SProp 𝓤) (f : List ℕ → ℕ → Xs ps → R.row.Denot) where
    abbrev pub Bare : Clauses 𝓤 bare
    Bare κs a = record { ghost = Unit {0}; requires = λ _. Asks a.0.now a.1.0 (told 1 κs ps a.1.1); ensures = λ _ r _. fact 𝓤 (r ≡ f a.0.now a.1.0 (told 1 κs ps a.1.1)) }

    abbrev pub Carried : (S : Cursor) → Clauses 𝓤 (carried S)
    Carried S κs a = record { ghost = Unit {0}; requires = λ _. Asks (S.image a.0).now (S.at a.0) (told 1 κs ps a.1); ensures = λ _ r _. fact 𝓤 (r ≡ f (S.image a.0).now (S.at a.0) (told 1 κs ps a.1)) }
