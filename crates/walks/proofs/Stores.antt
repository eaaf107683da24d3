-- The walk of a function that stores what it is passed in a field of its struct (`Storing`). One walk, for any struct and any such field of it.
--     walk             where z is the struct with x at k, the function returns z
--     stores_meets     where f puts what is passed at k, and nothing else, the function's MIR meets its contract, c, which is Stored f
-- Of both types it asks that they are seen at exit as they were passed, as plain data is: `refl` shows it. Assumes `Logic`.
use mathlib.Core.Path.{◌≡◌, refl, sym, ◌∙◌, ap, subst}
use Prim.Native.Nat.{ℕ}
use mathlib.Core.Option.{some}
use mathlib.Core.List.{[], ◌∷◌, List}
use seplogic.Ra.Ura.{Ura}
use base.Fraction.{full_share}
use lib.Dec.{T as Holds}
use mir.Syntax.{Ty, Fn}
use mir.Val.{Val, vstruct, WT, has_ty}
use mir.Fields.{set_v}
use base.Logic.{SProp, ent, sep, emp, via, fst∗}
use base.Fml.{ftrue, fat}
use prog.Memory.{field_of}
use prog.Wp.{Calls, Loops, WpFn, Tables}
use types.Logic.{Logic, sem}
use contract.Lifetimes.{Lfts}
use types.Kit.{‵, ◌$◌, ◌∵◌, !, qed, by, move, keep, use2, rewrite, fsplit, fjoin, suffices, done}
use types.Part.{whole, sub, store_in}
use types.Run.{look, init, forget, stop, fld, from, load, of_opd, assigns, returns, enter, alloc1, alloc0, params1, pass1, pass0, free1, free0}
use sound.WpLaws.{WpFn-mono}
use denote.RattleType.{RattleType, owns}
use denote.Laws.{Is, Typed, shows}
use denote.Signature.{plain}
use denote.Steps.{peeks, nothing}
use denote.Struct.At.{put_at, law_at, val_at, spelled, val_put}
use denote.Struct.Declared.{Declared, row, shape}
use denote.Struct.Field.{Field}
use denote.Struct.Laws as LL
use denote.Struct.Record.{Record, Propositions}
use denote.Struct.Rest.{field_own, own_put}
use denote.Struct.Struct.{Struct}
use denote.Struct.Values.{Values, intos}
use denote.Exit.{unchanged, yes}
use denote.Triple.Clauses.{Ended, Clauses, closing}
use denote.Triple.Entry.{on_entry}
use denote.Triple.Spec.{Meets}
use denote.Triple.Walked.{says, Stays, stay_dropped, walk_of, Goes-dropped, ends_at, walked, walk_Meets}
use Rattle.walks.proofs.Forms.{τ, typed}
use Rattle.walks.proofs.Storing as Of
use Rattle.walks.proofs.Lends.{same_bound, same_said}

module _ (N : Record) (gp : Propositions N) (k : ℕ) where
  abbrev T : Declared
  T = Of.T N gp k

  abbrev F : Field
  F = Of.F N gp k

  abbrev X : RattleType
  X = Of.X N gp k

  abbrev t : Ty
  t = Of.t N gp k

  abbrev stores : Fn
  stores = Of.stores N gp k

  abbrev storing : Ended
  storing = Of.storing N gp k

  abbrev Stored : {M : Type 1} (𝓤 : Ura M) → (N.D → F.Value → N.D) → Clauses 𝓤 storing
  Stored = Of.Stored N gp k

  module _ (L : LL.Laws T) (one : F.row.mir ≡ t ∷ []) {d : ℕ} (at : field_of (τ T) k ≡ some (t, d)) {M : Type 1} {𝓤 : Ura M} (𝓛 : Logic 𝓤) where
    open 𝓛 use {H}

    abbrev S : RattleType
    S = row T

    abbrev val : N.D → Val
    val = LL.val T L

    abbrev arg : F.Value → Val
    arg x = val_at N.parts L k x

    module _ (h : N.D) (x : F.Value) (z : N.D) (puts : N.as_values z ≡ put_at N.parts k x (N.as_values h)) where
      -- the struct's machine value with another in field k is that of z, and what z owns is had of what the two own
      same_val : vstruct (set_v (spelled N.parts L (N.as_values h)) k (arg x)) ≡ val z
      same_val = ap vstruct (val_put N.parts L k x (N.as_values h) ∙ ap (spelled N.parts L) (sym puts))

      owned : ent 𝓤 (sep 𝓤 (sem 𝓛 (S.own_val h (val h ∷ []))) (sem 𝓛 (field_own N.parts L k x))) (sem 𝓛 (S.own_val z (val z ∷ [])))
      owned = subst (λ (v : Values N.parts). ent 𝓤 (sep 𝓤 (sem 𝓛 (S.own_val h (val h ∷ []))) (sem 𝓛 (field_own N.parts L k x))) (sem 𝓛 ((Struct (shape T)).own_val (intos N.parts v) (vstruct (spelled N.parts L v) ∷ [])))) (sym puts)
          (own_put 𝓛 T L k (N.as_values h) x (val h))

      walk : Is S h (val h ∷ []) → Is X x (arg x ∷ []) → (Post : Val → SProp 𝓤) (C : Calls 𝓤 H) (Λ : Loops 𝓤 H) → ent 𝓤 (sem 𝓛 (S.own_val z (val z ∷ []))) (Post (val z))
          → ent 𝓤 (sep 𝓤 (sem 𝓛 (S.own_val h (val h ∷ []))) (sem 𝓛 (field_own N.parts L k x))) (WpFn 𝓤 H C Λ stores (val h ∷ arg x ∷ []) Post)
      walk was is Post C Λ exits =
          let fits : Holds (has_ty t (arg x)) × WT (arg x) = (subst (λ (τs : List Ty). Typed τs (arg x ∷ [])) one (((law_at N.parts L k).lawful 𝓛).typed (F.into x) (arg x ∷ []) is)).0 in
          qed 𝓛 (‵ (S.own_val h (val h ∷ [])) ∷ ‵ (field_own N.parts L k x) ∷ []) ∵ use2 𝓛 (‵ (S.own_val z (val z ∷ []))) owned $ peeks ! S (Is S) (shows 𝓛 S) z (val z ∷ []) (λ will.
          enter ! C Λ stores (val h ∷ arg x ∷ []) _ $ alloc1 ! (λ l₀. alloc1 ! (λ l₁. alloc1 ! (λ l₂. alloc0 ! $
          params1 ! $ pass1 ! (init ! 2 refl (typed T L 𝓛 h (val h) was)) $ pass1 ! (init ! 0 refl fits) $ pass0 ! $
          -- [what is stored; …; the struct; …; room for the result; …; what z owns]
          assigns ! (of_opd ! (load ! (from ! (stop !)) (look ! 0 refl))) (from ! (fld ! at (stop !))) (store_in ! 2 (sub ! k at (whole !)) fits) $
          rewrite ! 2 (λ (v : Val). ‵ (fat full_share (τ T) l₁ 0 v)) same_val refl $
          assigns ! (of_opd ! (load ! (from ! (stop !)) (look ! 2 refl))) (from ! (stop !)) (init ! 4 refl (typed T L 𝓛 z (val z) will)) $
          returns ! (look ! 4 refl) $ forget ! 0 refl $ forget ! 2 refl $ forget ! 4 refl $
          move ! (4 ∷ 5 ∷ []) $ free1 ! $ move ! (2 ∷ 3 ∷ []) $ free1 ! $ free1 ! $ free0 ! $ by ! exits))))

    module _ (same : S.exit yes ≡ unchanged) (same' : X.exit yes ≡ unchanged) (f : N.D → F.Value → N.D) where
      abbrev stayed : Stays storing.signature.params storing.kept
      stayed = (stay_dropped (plain (λ _. S)) yes, (stay_dropped (plain (λ _. X)) yes, tt))

      module _ (κs : Lfts 0) (h : N.D) (x : F.Value) where
        abbrev Post : Val → SProp 𝓤
        Post = (walk_of 𝓛 storing stayed (Stored 𝓤 f)).post ((κs, tt, tt, (h, (x, tt)), (val h ∷ [], (arg x ∷ [], tt))), tt)

        enters : ent 𝓤 (on_entry 𝓛 storing.signature κs tt (h, (x, tt)) (val h ∷ [], (arg x ∷ [], tt))) (sep 𝓤 (sem 𝓛 (S.own_val h (val h ∷ []))) (sem 𝓛 (field_own N.parts L k x)))
        enters = qed 𝓛 (‵ ftrue ∷ ‵ (owns (S ∷ X ∷ []) (h, (x, tt)) (val h ∷ [], (arg x ∷ [], tt))) ∷ []) ∵ move ! (1 ∷ []) $ fsplit ! $ move ! (1 ∷ []) $ fsplit ! $ move ! (2 ∷ 0 ∷ []) $ keep ! (0 ∷ 1 ∷ []) $ done !

        leaves : (v : Val) → ent 𝓤 (sem 𝓛 (S.own_val (f h x) (v ∷ []))) (Post v)
        leaves v =
            qed 𝓛 (‵ (S.own_val (f h x) (v ∷ [])) ∷ []) ∵
            suffices ! _ (ends_at 𝓛 storing stayed (Stored 𝓤 f) ((κs, tt, tt, (h, (x, tt)), (val h ∷ [], (arg x ∷ [], tt))), tt) v (f h x) (same_bound (S.exit yes) same h, (same_bound (X.exit yes) same' x, tt)) (tt, (tt, tt))) $ says ! refl $
            nothing ! $ nothing ! $ fjoin ! $ nothing ! $ fjoin ! $ nothing ! $ done !

      pub stores_meets : ((h : N.D) (x : F.Value) → N.as_values (f h x) ≡ put_at N.parts k x (N.as_values h)) → (c : Clauses 𝓤 storing) → Stored 𝓤 f ≡ c → (𝓣 : Tables 𝓤 H) → Meets 𝓛 storing.signature (WpFn 𝓤 H 𝓣.C 𝓣.Λ stores) (closing 𝓛 storing c)
      stores_meets puts c is 𝓣 =
          subst (λ (e : Clauses 𝓤 storing). Meets 𝓛 storing.signature (WpFn 𝓤 H 𝓣.C 𝓣.Λ stores) (closing 𝓛 storing e)) is
          (walk_Meets 𝓛 storing stayed (Goes-dropped 𝓛 0 (plain (λ _. S)) yes (λ κs y w. same_said (S.exit yes) same y w), (Goes-dropped 𝓛 0 (plain (λ _. X)) yes (λ κs y w. same_said (X.exit yes) same' y w), tt)) (Stored 𝓤 f) (WpFn 𝓤 H 𝓣.C 𝓣.Λ stores) (WpFn-mono 𝓤 H 𝓛.laws 𝓣 stores)
          (walked 𝓛 storing stayed (Stored 𝓤 f) (WpFn 𝓤 H 𝓣.C 𝓣.Λ stores) (λ κs. ((λ h. val h ∷ []), ((λ x. arg x ∷ []), tt))) (λ κs. (LL.tells T L, ((λ x. (law_at N.parts L k).tells (F.into x)), tt)))
          (λ κs qs bounds a _ are. via 𝓤 _ (fst∗ 𝓤 _ (emp 𝓤)) (via 𝓤 _ (enters κs a.0 a.1.0) (walk a.0 a.1.0 (f a.0 a.1.0) (puts a.0 a.1.0) are.0 are.1.0 (Post κs a.0 a.1.0) 𝓣.C 𝓣.Λ (leaves κs a.0 a.1.0 (val (f a.0 a.1.0))))))))
