-- A function that stores what it is passed in a field of its struct, and returns the struct: `fn f(mut s: S, x: X) -> S { s.k = x; s }`, where X is a declared type, as an enum. Its compiled form and its contract, for any struct and any such field of it; `Stores` has the walk.
--     stores k         the MIR of such a function
--     storing, Stored f    its signature, and its contract: the result is f of the struct and of what is passed
--     T, F, X, t       the struct, its field k, that field's type as a parameter's, and its MIR type
-- Assumes nothing.
use Prim.Native.Nat.{ℕ}
use mathlib.Core.Path.{◌≡◌}
use mathlib.Core.List.{[], ◌∷◌}
use seplogic.Ra.Ura.{Ura}
use mir.Syntax.{Ty, Fn, field, place, copy, rv_opd, seq, assign, return, local, value_local}
use base.Logic.{emp}
use contract.Monad.{fact}
use denote.RattleType.{RattleType}
use denote.Memory.{lone}
use denote.Signature.{plain}
use denote.Struct.At.{FieldAt}
use denote.Struct.Declared.{Declared, row}
use denote.Struct.Field.{Field}
use denote.Struct.Record.{Record, Propositions, declared}
use denote.Struct.Recorded.{Recorded}
use denote.Exit.{yes}
use denote.Triple.Clauses.{Ended, Clauses}
use Rattle.walks.proofs.Forms.{τ}

module _ (N : Record) (gp : Propositions N) (k : ℕ) where
  abbrev pub T : Declared
  T = declared N gp

  abbrev pub F : Field
  F = FieldAt N.parts k

  -- the field's type as a parameter's, and its MIR type
  abbrev pub X : RattleType
  X = Recorded F.row F.Value F.into F.into_one

  abbrev pub t : Ty
  t = lone F.row.mir

  abbrev pub stores : Fn
  stores = record {
    lifetimes = 0;
    outlives = [];
    ty_params = [];
    givens = 0;
    params = 2;
    locals = local (τ T) value_local ∷ local (τ T) value_local ∷ local t value_local ∷ [];
    body = seq (assign (place 1 (field k ∷ [])) (rv_opd (copy (place 2 []))))
        (seq (assign (place 0 []) (rv_opd (copy (place 1 [])))) return);
  }

  abbrev pub storing : Ended
  storing = record { signature = record { lifetimes = 0; outlives = []; params = plain (λ _. row T) ∷ plain (λ _. X) ∷ []; result = plain (λ _. row T) }; kept = (yes, (yes, tt)) }

  abbrev pub Stored : {M : Type 1} (𝓤 : Ura M) → (N.D → F.Value → N.D) → Clauses 𝓤 storing
  Stored 𝓤 f κs a = record { ghost = Unit {0}; requires = λ _. emp 𝓤; ensures = λ _ r _. fact 𝓤 (r ≡ f a.0 a.1.0) }
