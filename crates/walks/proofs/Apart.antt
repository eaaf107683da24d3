-- A function over a reader whose body is one call of a function on the slice and the place: `fn f<'a>(r: Reader<'a>, a, ..) -> R { g(r.image, r.at, a, ..) }`. One walk, for any struct of a slice and a place, any scalars after it, any result and any g.
--     apart ts R g      the MIR of such a function, where the parameters after the reader have the MIR types ts, and the callee's key is g
--     walk              where g gives z of the slice and the place, the function gives it of the reader
--     apart_meets       where the callee meets its contract (`Cursor`: Bare), the function's MIR meets its own, c, which is Carried
-- Assumes `Logic`.
use mathlib.Core.Path.{◌≡◌, refl, sym, ◌∙◌, ap, subst}
use Prim.Native.Nat.{ℕ, suc, ◌<◌, ◌^◌}
use mathlib.Core.List.{List, [], ◌∷◌}
use lib.Dec.{T as Holds}
use seplogic.Ra.Ura.{Ura}
use mir.Syntax.{Callee as Key, Ty, Fn, named, erased, w64, ty_int, field, place, copy, rv_opd, seq, assign, call, return, local, value_local}
use mir.Val.{Val, vint, WT, has_ty}
use base.Logic.{SProp, ent, sep, emp, snd∗, ex_e, id⊢}
use base.Fml.{Share, Fml, ftrue, flft}
use prog.Wp.{Calls, Loops, WpFn, Tables, no_local}
use types.Logic.{Logic, sem}
use contract.Lifetimes.{Lfts}
use contract.Monad.{fact}
use types.Kit.{‵, raw, ◌⊛◌, given, some, later, ◌$◌, ◌∵◌, !, qed, by, move, drop, use0, use1, use3, split, join, learn, pick, fsplit, fjoin, suffices, frame, await, updating, now as at_once, done}
use types.Part.{whole, sub, look_in}
use types.Run.{look, init, forget, stop, fld, from, load, of_opd, and_then, assigns, land, returns, enter, alloc1, alloc0, params1, pass1, free1, free0}
use sound.WpLaws.{FmC, fm_of, WpFn-mono}
use denote.RattleType.{Denots, flat, owns}
use denote.Laws.{Is, Typed, shows}
use denote.Plain.{uint_Makes}
use denote.Builtin.{u8, usize}
use denote.Signature.{named_lft, types_at}
use denote.Slice.{ShrSlice}
use denote.Steps.{owned, peeks, heard}
use denote.Struct.Declared.{Declared}
use denote.Struct.Laws as LL
use denote.Struct.Rest.{all_own, field_own, rest, own_open, own_out}
use denote.Struct.Values.{Values}
use denote.Exit.{yes}
use denote.Triple.End.{all}
use denote.Triple.Statement.{Contract, Triple}
use denote.Triple.Call.{calls_from}
use denote.Triple.Clauses.{Clauses, closing, ensured, lasts}
use denote.Triple.Entry.{on_entry}
use denote.Triple.Spec.{Meets, triple_of}
use denote.Triple.Walked.{says, Stays, stay_none, has_of, walk_of, Goes-none, ends_at, walked, walk_Meets}
use Rattle.walks.proofs.Cursor.{Cursor, Result, slice, τ_slice, mir_at, lowered, the_type, the_laws, the_copy, row_at, bare, carried, Bare, Carried}
use Rattle.walks.proofs.Scalar.{Scalar}
use Rattle.walks.proofs.Scalars.{Xs, mirs, machine, Fitting, all_typed, slots, dropped, told, args, told_args, spelled, valued, tell, flat_told, fitting, none_bound, none_asked, none_had, made, all_go}
use Rattle.walks.proofs.Parameters.{values, copies, after, past, alloc_all, pass_all, free_all, at_place, operands}

module _ (S : Cursor) (ts : List Ty) (R : Result) where
  abbrev image : ℕ
  image = suc (suc (after ts 0))

  abbrev at : ℕ
  at = suc (suc (after ts 1))

  abbrev pub apart : Key → Fn
  apart g = record {
    lifetimes = 1;
    outlives = [];
    ty_params = [];
    givens = 0;
    params = suc (after ts 0);
    locals = local R.mir value_local ∷ local (mir_at S (named 0)) value_local ∷ values ts (local (τ_slice erased) value_local ∷ local (ty_int w64) value_local ∷ []);
    body = seq (assign (place image []) (rv_opd (copy (place 1 (field 0 ∷ [])))))
        (seq (assign (place at []) (rv_opd (copy (place 1 (field 1 ∷ [])))))
        (seq (call g (copy (place image []) ∷ copy (place at []) ∷ copies (λ i. suc (suc i)) ts) (place 0 [])) return));
  }

  -- what is had at entry gives what the callee asks, P, and what is kept; the callee's answer z and the rest, with what was kept, give the exit
  module _ {M : Type 1} {𝓤 : Ura M} (𝓛 : Logic 𝓤) (d : S.D) (wt : Holds (has_ty (mir_at S (named 0)) (lowered S d)) × WT (lowered S d)) (z : R.row.Denot) (vs : List Val) (ok : Typed ts vs)
      (Entry P Keep Rest : SProp 𝓤) (Post : Val → SProp 𝓤) where
    open 𝓛 use {H}

    walk : (C : Calls 𝓤 H) (Λ : Loops 𝓤 H) → FmC 𝓤 H 𝓛.laws C → (g : Key) (Q : Val → SProp 𝓤) → ent 𝓤 Entry (sep 𝓤 P Keep) → ent 𝓤 P (C g (slice (S.image d) ∷ vint w64 (S.at d) ∷ vs) Q)
        → ((u : Val) → ent 𝓤 (Q u) (H.⇛ (sep 𝓤 (sem 𝓛 (R.row.own_val z (u ∷ []))) Rest))) → ((u : Val) → ent 𝓤 (sep 𝓤 (sem 𝓛 (R.row.own_val z (u ∷ []))) (sep 𝓤 Rest Keep)) (Post u))
        → ent 𝓤 Entry (WpFn 𝓤 H C Λ (apart g) (lowered S d ∷ vs) Post)
    walk C Λ fm g Q splits met said hands_back =
        qed 𝓛 (raw Entry ∷ []) ∵ enter ! C Λ (apart g) (lowered S d ∷ vs) _ $
        alloc1 ! (λ l₀. alloc1 ! (λ l₁. alloc_all ! ts _ (λ bs. alloc1 ! (λ l₂. alloc1 ! (λ l₃. alloc0 ! $
        let E : List (Ty × ℕ) = (τ_slice erased, l₂) ∷ (ty_int w64, l₃) ∷ [] in
        params1 ! $ pass1 ! (init ! 5 refl wt) $ move ! (4 ∷ []) $ pass_all ! ts bs vs ok E $
        -- [the parameters; room for at; …; for image; …; the reader; …; room for the result; …; what is had at entry]
        assigns ! (of_opd ! (load ! (from ! (fld ! refl (stop !))) (look_in ! 5 (sub ! 0 refl (whole !))))) (at_place ! (past ts bs E (no_local 𝓤 H) 0)) (init ! 3 refl (tt, wt.1.0)) $
        assigns ! (of_opd ! (load ! (from ! (fld ! refl (stop !))) (look_in ! 5 (sub ! 1 refl (whole !))))) (at_place ! (past ts bs E (no_local 𝓤 H) 1)) (init ! 1 refl (tt, wt.1.1.0)) $
        move ! (9 ∷ []) $ use1 𝓛 (raw P ⊛ raw Keep) splits $ split ! $
        calls_from ! fm (raw P) (slice (S.image d) ∷ vint w64 (S.at d) ∷ vs) Q met
        (and_then ! (load ! (at_place ! (past ts bs E (no_local 𝓤 H) 0)) (look ! 5 refl)) (and_then ! (load ! (at_place ! (past ts bs E (no_local 𝓤 H) 1)) (look ! 3 refl)) (operands ! 2 ts bs vs ok refl (λ i. suc (suc i)) E (λ i. refl)))) (λ u.
        use1 𝓛 (later (‵ (R.row.own_val z (u ∷ [])) ⊛ raw Rest)) (said u) $ await ! tt $ split ! $ peeks ! R.row (Is R.row) (shows 𝓛 R.row) z (u ∷ []) (λ is.
        -- [the result; the rest; what is kept; the parameters; at; …; image; …; the reader; …; room for the result; …]
        land ! (from ! (stop !)) (init ! 10 refl (R.typed 𝓛 z u is)) $
        returns ! (look ! 10 refl) $ forget ! 4 refl $ forget ! 6 refl $ forget ! 8 refl $ forget ! 10 refl $
        move ! (10 ∷ 11 ∷ []) $ free1 ! $ move ! (8 ∷ 9 ∷ []) $ free1 ! $ move ! (3 ∷ []) $ free_all ! ts bs vs ok E $
        move ! (5 ∷ 6 ∷ []) $ free1 ! $ move ! (3 ∷ 4 ∷ []) $ free1 ! $ free0 ! $ by ! (hands_back u))))))))

module _ (S : Cursor) (ps : List Scalar) (R : Result) {M : Type 1} {𝓤 : Ura M} (𝓛 : Logic 𝓤) (Asks : List ℕ → ℕ → Xs ps → SProp 𝓤) (f : List ℕ → ℕ → Xs ps → R.row.Denot) where
  open 𝓛 use {H, A}

  abbrev stayed : Stays (carried ps R S).signature.params (carried ps R S).kept
  stayed = (stay_none (row_at S) yes, dropped 1 ps)

  abbrev Callee : Contract 𝓤
  Callee = triple_of 𝓛 (bare ps R).signature (closing 𝓛 (bare ps R) (Bare ps R 𝓤 Asks f))

  module _ (κs : Lfts 1) (q : Share) (d : S.D) (a : Denots (types_at (slots 1 ps) κs)) where
    abbrev x : Xs ps
    x = told 1 κs ps a

    abbrev z : R.row.Denot
    z = f (S.image d).now (S.at d) x

    abbrev D : Declared
    D = the_type S (named_lft 1 0 tt κs)

    abbrev L : LL.Laws D
    L = the_laws S (named_lft 1 0 tt κs)

    abbrev vd : Values D.parts
    vd = (S.image d, (S.at d, tt))

    abbrev mach : Val
    mach = lowered S d

    abbrev Own : Fml
    Own = (row_at S κs).own_val d (mach ∷ [])

    -- what the callee is passed: the scalars' values made anew, as values of its own signature
    abbrev a' : Denots (types_at (slots 1 ps) κs)
    a' = args 1 κs ps x

    abbrev to : Callee.Ghost
    to = ((κs, (q, tt), tt, (S.image d, (S.at d, a')), (slice (S.image d) ∷ [], (vint w64 (S.at d) ∷ [], valued 1 κs ps a'))), tt)

    abbrev Post : Val → SProp 𝓤
    Post = (walk_of 𝓛 (carried ps R S) stayed (Carried ps R 𝓤 Asks f S)).post ((κs, (q, tt), tt, (d, a), (mach ∷ [], valued 1 κs ps a)), tt)

    abbrev Entry : SProp 𝓤
    Entry = sep 𝓤 (on_entry 𝓛 (carried ps R S).signature κs (q, tt) (d, a) (mach ∷ [], valued 1 κs ps a)) (Asks (S.image d).now (S.at d) x)

    abbrev Token : SProp 𝓤
    Token = sep 𝓤 (A.lft κs.0 q) (emp 𝓤)

    asked : ent 𝓤 (sep 𝓤 Token (sep 𝓤 (sem 𝓛 (owns (ShrSlice (named 0) κs.0 u8 ∷ usize ∷ types_at (slots 1 ps) κs) (S.image d, (S.at d, a')) (slice (S.image d) ∷ [], (vint w64 (S.at d) ∷ [], valued 1 κs ps a')))) (Asks (S.image d).now (S.at d) x))) (Callee.pre to)
    asked =
        qed 𝓛 ((‵ (flft κs.0 q) ⊛ ‵ ftrue) ∷ ‵ (owns (ShrSlice (named 0) κs.0 u8 ∷ usize ∷ types_at (slots 1 ps) κs) (S.image d, (S.at d, a')) (slice (S.image d) ∷ [], (vint w64 (S.at d) ∷ [], valued 1 κs ps a'))) ∷ raw (Asks (S.image d).now (S.at d) x) ∷ []) ∵
        join ! $ frame ! $ by ! (subst (λ (y : Xs ps). ent 𝓤 (Asks (S.image d).now (S.at d) x) (Asks (S.image d).now (S.at d) y)) (sym (told_args 1 κs ps x)) (id⊢ 𝓤 _))

    -- the reader is Copy: one copy is kept whole, and of the other what image owns goes to the callee
    splits : S.at d < 2 ^ 64 → Fitting ps x → ent 𝓤 Entry (sep 𝓤 (Callee.pre to) (sem 𝓛 Own))
    splits fits scalars =
        qed 𝓛 (((‵ (flft κs.0 q) ⊛ ‵ ftrue) ⊛ ‵ (owns (row_at S κs ∷ types_at (slots 1 ps) κs) (d, a) (mach ∷ [], valued 1 κs ps a))) ∷ raw (Asks (S.image d).now (S.at d) x) ∷ []) ∵
        split ! $ move ! (1 ∷ []) $ fsplit ! $ move ! (1 ∷ []) $ drop ! $ use1 𝓛 (‵ Own ⊛ ‵ Own) ((LL.copy D (the_copy S (named_lft 1 0 tt κs)) 𝓛).twice d (mach ∷ [])) $ split ! $
        use1 𝓛 (given (mach ∷ [] ≡ mach ∷ []) (‵ (all_own D.parts L vd))) (own_open 𝓛 D L vd mach) $ learn ! (λ _. use1 𝓛 (‵ (field_own D.parts L 0 (S.image d)) ⊛ ‵ (rest D.parts L 0 vd)) (own_out 𝓛 D.parts L 0 vd) $ split ! $
        -- [what image owns; what at owns; what the reader owns; the token]
        move ! (1 ∷ []) $ drop ! $ use0 𝓛 (‵ (owns (types_at (slots 1 ps) κs) a' (valued 1 κs ps a'))) (made 1 κs 𝓛 ps x scalars) $
        owned ! usize (Is usize) (uint_Makes 𝓛 w64) (S.at d) _ (refl, fits) $ fjoin ! $ move ! (1 ∷ 0 ∷ []) $ fjoin ! $
        move ! (2 ∷ 0 ∷ 3 ∷ []) $ use3 𝓛 (raw (Callee.pre to)) asked $ frame ! $ done !)

    said : (u : Val) → ent 𝓤 (Callee.post to u) (H.⇛ (sep 𝓤 (sem 𝓛 (R.row.own_val z (u ∷ []))) Token))
    said u =
        qed 𝓛 (raw (Callee.post to u) ∷ []) ∵ updating ! $
        use1 𝓛 (later (some (λ (r : R.row.Denot). ((‵ (flft κs.0 q) ⊛ ‵ ftrue) ⊛ ‵ (R.row.own_val r (u ∷ []))) ⊛ raw (ensured 𝓛 (bare ps R) (Bare ps R 𝓤 Asks f) κs (S.image d, (S.at d, a')) tt r)))) (id⊢ 𝓤 _) $ await ! tt $ pick ! (λ r.
        split ! $ move ! (1 ∷ []) $ use1 𝓛 (raw (fact 𝓤 (r ≡ f (S.image d).now (S.at d) (told 1 κs ps a')))) (ex_e 𝓤 _ (λ ws. snd∗ 𝓤 (sem 𝓛 (lasts (bare ps R) κs (S.image d, (S.at d, a')) ws)) _)) $ heard ! _ (λ e. split ! $ move ! (1 ∷ 0 ∷ []) $ at_once ! $
        by ! (subst (λ (y : R.row.Denot). ent 𝓤 (sep 𝓤 (sem 𝓛 (R.row.own_val r (u ∷ []))) Token) (sep 𝓤 (sem 𝓛 (R.row.own_val y (u ∷ []))) Token)) (e ∙ ap (f (S.image d).now (S.at d)) (told_args 1 κs ps x)) (id⊢ 𝓤 _))))

    hands_back : (u : Val) → ent 𝓤 (sep 𝓤 (sem 𝓛 (R.row.own_val z (u ∷ []))) (sep 𝓤 Token (sem 𝓛 Own))) (Post u)
    hands_back u =
        qed 𝓛 (‵ (R.row.own_val z (u ∷ [])) ∷ (‵ (flft κs.0 q) ⊛ ‵ ftrue) ∷ ‵ Own ∷ []) ∵
        suffices ! _ (ends_at 𝓛 (carried ps R S) stayed (Carried ps R 𝓤 Asks f S) ((κs, (q, tt), tt, (d, a), (mach ∷ [], valued 1 κs ps a)), tt) u z (tt, none_bound 1 κs ps a) (tt, none_asked 1 κs ps a (none_bound 1 κs ps a))) $ says ! refl $
        move ! (1 ∷ []) $ frame ! $
        use0 𝓛 (‵ (has_of κs (slots 1 ps) (all yes (slots 1 ps)) (dropped 1 ps) a (none_bound 1 κs ps a) (valued 1 κs ps a))) (none_had 1 κs 𝓛 ps a (none_bound 1 κs ps a) (valued 1 κs ps a)) $
        move ! (2 ∷ 0 ∷ []) $ fjoin ! $ frame ! $ done !

  pub apart_meets : (c : Clauses 𝓤 (carried ps R S)) → Carried ps R 𝓤 Asks f S ≡ c → (𝓣 : Tables 𝓤 H) (g : Key) → Triple 𝓤 (𝓣.C g) Callee → Meets 𝓛 (carried ps R S).signature (WpFn 𝓤 H 𝓣.C 𝓣.Λ (apart S (mirs ps) R g)) (closing 𝓛 (carried ps R S) c)
  apart_meets c is 𝓣 g known =
      subst (λ (e : Clauses 𝓤 (carried ps R S)). Meets 𝓛 (carried ps R S).signature (WpFn 𝓤 H 𝓣.C 𝓣.Λ (apart S (mirs ps) R g)) (closing 𝓛 (carried ps R S) e)) is
      (walk_Meets 𝓛 (carried ps R S) stayed (Goes-none 𝓛 1 (row_at S) yes (λ κs x f. refl), all_go 𝓛 1 ps) (Carried ps R 𝓤 Asks f S) (WpFn 𝓤 H 𝓣.C 𝓣.Λ (apart S (mirs ps) R g)) (WpFn-mono 𝓤 H 𝓛.laws 𝓣 (apart S (mirs ps) R g))
      (walked 𝓛 (carried ps R S) stayed (Carried ps R 𝓤 Asks f S) (WpFn 𝓤 H 𝓣.C 𝓣.Λ (apart S (mirs ps) R g)) (λ κs. (LL.vals (the_type S (named_lft 1 0 tt κs)) (the_laws S (named_lft 1 0 tt κs)), spelled 1 κs ps)) (λ κs. (LL.tells (the_type S (named_lft 1 0 tt κs)) (the_laws S (named_lft 1 0 tt κs)), tell 1 κs ps))
      (λ κs qs bounds a _ are. here κs qs.0 a.0 a.1 ((LL.lawful (the_type S (named_lft 1 0 tt κs)) (the_laws S (named_lft 1 0 tt κs)) 𝓛).typed a.0 _ are.0).0 (fitting 1 κs ps a.1 are.1))))
    where
      here : (κs : Lfts 1) (q : Share) (d : S.D) (a : Denots (types_at (slots 1 ps) κs)) → Holds (has_ty (mir_at S (named 0)) (lowered S d)) × WT (lowered S d) → Fitting ps (told 1 κs ps a)
          → ent 𝓤 (Entry κs q d a) (WpFn 𝓤 H 𝓣.C 𝓣.Λ (apart S (mirs ps) R g) (lowered S d ∷ flat (types_at (slots 1 ps) κs) (valued 1 κs ps a)) (Post κs q d a))
      here κs q d a wt scalars =
          let y : Xs ps = told 1 κs ps a in
          subst (λ (vs : List Val). ent 𝓤 (Entry κs q d a) (WpFn 𝓤 H 𝓣.C 𝓣.Λ (apart S (mirs ps) R g) (lowered S d ∷ vs) (Post κs q d a))) (sym (flat_told 1 κs ps a))
          (walk S (mirs ps) R 𝓛 d wt (z κs q d a) (machine ps y) (all_typed ps y scalars) (Entry κs q d a) (Callee.pre (to κs q d a)) (sem 𝓛 (Own κs q d a)) (Token κs q d a) (Post κs q d a) 𝓣.C 𝓣.Λ (fm_of 𝓤 H 𝓛.laws 𝓣) g (Callee.post (to κs q d a))
          (splits κs q d a wt.1.1.0.fits scalars)
          (subst (λ (vs : List Val). ent 𝓤 (Callee.pre (to κs q d a)) (𝓣.C g (slice (S.image d) ∷ vint w64 (S.at d) ∷ vs) (Callee.post (to κs q d a)))) (flat_told 1 κs ps (args 1 κs ps y) ∙ ap (machine ps) (told_args 1 κs ps y)) (known (to κs q d a)))
          (said κs q d a) (hands_back κs q d a))
