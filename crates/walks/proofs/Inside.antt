-- The other way round: a function on a slice and a place whose body passes on the reader over them, `fn f(image: &[u8], at: usize, a, ..) -> R { g(Reader { image, at }, a, ..) }`. Whoever calls such a function needs no walk.
--     inside ts R g     the MIR of such a function, where the parameters after the place have the MIR types ts, and the callee's key is g
--     walk              where g gives z of the reader, the function gives it of the slice and the place
--     inside_meets      where the callee meets its contract (`Cursor`: Carried), the function's MIR meets its own, c, which is Bare
-- Assumes `Logic`.
use mathlib.Core.Path.{◌≡◌, refl, sym, ◌∙◌, ap, subst}
use Prim.Native.Nat.{ℕ, suc, ◌<◌, ◌^◌}
use mathlib.Core.List.{List, [], ◌∷◌}
use seplogic.Ra.Ura.{Ura}
use mir.Syntax.{Callee as Key, Ty, Fn, named, erased, w8, w64, ty_int, place, copy, aggregate, seq, assign, call, return, local, value_local}
use mir.Val.{Val, vint}
use base.Logic.{SProp, ent, sep, emp, snd∗, ex_e, id⊢}
use base.Fml.{Lft, Share, Fml, ftrue, flft}
use prog.Wp.{Calls, Loops, WpFn, Tables, no_local}
use types.Logic.{Logic, sem}
use contract.Lifetimes.{Lfts}
use contract.Monad.{fact}
use types.Kit.{‵, raw, ◌⊛◌, some, later, ◌$◌, ◌∵◌, !, qed, by, move, drop, use0, use1, use3, split, join, pick, fsplit, fjoin, suffices, frame, await, updating, now as at_once, done}
use types.Part.{agg}
use types.Run.{look, init, forget, stop, from, load, and_then, no_more, assigns, land, returns, enter, alloc1, alloc0, params1, pass1, free1, free0}
use sound.WpLaws.{FmC, fm_of, WpFn-mono}
use denote.RattleType.{Denots, flat, owns}
use denote.Laws.{Is, Typed, shows}
use denote.Plain.{uint_row_laws, uint_vals, uint_Tells, uint_Makes}
use denote.Builtin.{u8, usize}
use denote.Ref.{Bor}
use denote.Signature.{plain, named_lft, types_at}
use denote.Slice.{ShrSlice, shr_slice_vals, shr_slice_Tells, shr_slice_Lawful, shr_slice_copy}
use denote.Steps.{owned, peeks, heard, nothing}
use denote.Struct.Declared.{Declared}
use denote.Struct.Rest.{own_shut}
use denote.Exit.{yes}
use denote.Triple.End.{all}
use denote.Triple.Statement.{Contract, Triple}
use denote.Triple.Call.{calls_from}
use denote.Triple.Clauses.{Clauses, closing, ensured, lasts}
use denote.Triple.Entry.{on_entry}
use denote.Triple.Spec.{Meets, triple_of}
use denote.Triple.Walked.{says, Stays, stay_none_slice, stay_dropped, has_of, walk_of, Goes-none_slice, Goes-dropped, ends_at, walked, walk_Meets}
use Rattle.walks.proofs.Cursor.{Cursor, Result, slice, τ_slice, mir_at, lowered, the_type, the_laws, row_at, bare, carried, Bare, Carried}
use Rattle.walks.proofs.Scalar.{Scalar}
use Rattle.walks.proofs.Scalars.{Xs, mirs, machine, Fitting, all_typed, slots, dropped, told, args, told_args, spelled, valued, tell, flat_told, fitting, none_bound, none_asked, none_had, made, all_go}
use Rattle.walks.proofs.Parameters.{values, copies, after, past, alloc_all, pass_all, free_all, at_place, operands}

module _ (S : Cursor) (ts : List Ty) (R : Result) where
  abbrev reader : ℕ
  reader = suc (suc (suc (after ts 0)))

  abbrev pub inside : Key → Fn
  inside g = record {
    lifetimes = 1;
    outlives = [];
    ty_params = [];
    givens = 0;
    params = suc (suc (after ts 0));
    locals = local R.mir value_local ∷ local (τ_slice (named 0)) value_local ∷ local (ty_int w64) value_local ∷ values ts (local (mir_at S erased) value_local ∷ []);
    body = seq (assign (place reader []) (aggregate (copy (place 1 []) ∷ copy (place 2 []) ∷ [])))
        (seq (call g (copy (place reader []) ∷ copies (λ i. suc (suc (suc i))) ts) (place 0 [])) return);
  }

  -- what is had at entry gives what the callee asks, P, and what is kept; the callee's answer z and the rest, with what was kept, give the exit
  module _ {M : Type 1} {𝓤 : Ura M} (𝓛 : Logic 𝓤) (κ : Lft) (d : S.D) (p : Is (ShrSlice (named 0) κ u8) (S.image d) (slice (S.image d) ∷ [])) (fits : S.at d < 2 ^ 64) (z : R.row.Denot) (vs : List Val) (ok : Typed ts vs)
      (Entry P Keep Rest : SProp 𝓤) (Post : Val → SProp 𝓤) where
    open 𝓛 use {H}

    walk : (C : Calls 𝓤 H) (Λ : Loops 𝓤 H) → FmC 𝓤 H 𝓛.laws C → (g : Key) (Q : Val → SProp 𝓤) → ent 𝓤 Entry (sep 𝓤 P Keep) → ent 𝓤 P (C g (lowered S d ∷ vs) Q)
        → ((u : Val) → ent 𝓤 (Q u) (H.⇛ (sep 𝓤 (sem 𝓛 (R.row.own_val z (u ∷ []))) Rest))) → ((u : Val) → ent 𝓤 (sep 𝓤 (sem 𝓛 (R.row.own_val z (u ∷ []))) (sep 𝓤 Rest Keep)) (Post u))
        → ent 𝓤 Entry (WpFn 𝓤 H C Λ (inside g) (slice (S.image d) ∷ vint w64 (S.at d) ∷ vs) Post)
    walk C Λ fm g Q splits met said hands_back =
        qed 𝓛 (raw Entry ∷ []) ∵ enter ! C Λ (inside g) (slice (S.image d) ∷ vint w64 (S.at d) ∷ vs) _ $
        alloc1 ! (λ l₀. alloc1 ! (λ l₁. alloc1 ! (λ l₂. alloc_all ! ts _ (λ bs. alloc1 ! (λ l₃. alloc0 ! $
        let E : List (Ty × ℕ) = (mir_at S erased, l₃) ∷ [] in
        let typed = ((shr_slice_Lawful 𝓛 (named 0) κ u8).typed (S.image d) (slice (S.image d) ∷ []) p).0 in
        params1 ! $ pass1 ! (init ! 5 refl typed) $ pass1 ! (init ! 3 refl (tt, record { fits = fits })) $ move ! (2 ∷ []) $ pass_all ! ts bs vs ok E $
        -- [the parameters; room for the reader; …; at; …; image; …; room for the result; …; what is had at entry]
        assigns ! (agg ! (and_then ! (load ! (from ! (stop !)) (look ! 5 refl)) (and_then ! (load ! (from ! (stop !)) (look ! 3 refl)) (no_more !)))) (at_place ! (past ts bs E (no_local 𝓤 H) 0)) (init ! 1 refl (tt, (typed.1, (record { fits = fits }, tt)))) $
        move ! (9 ∷ []) $ use1 𝓛 (raw P ⊛ raw Keep) splits $ split ! $
        calls_from ! fm (raw P) (lowered S d ∷ vs) Q met
        (and_then ! (load ! (at_place ! (past ts bs E (no_local 𝓤 H) 0)) (look ! 3 refl)) (operands ! 2 ts bs vs ok refl (λ i. suc (suc (suc i))) E (λ i. refl))) (λ u.
        use1 𝓛 (later (‵ (R.row.own_val z (u ∷ [])) ⊛ raw Rest)) (said u) $ await ! tt $ split ! $ peeks ! R.row (Is R.row) (shows 𝓛 R.row) z (u ∷ []) (λ is.
        -- [the result; the rest; what is kept; the parameters; the reader; …; at; …; image; …; room for the result; …]
        land ! (from ! (stop !)) (init ! 10 refl (R.typed 𝓛 z u is)) $
        returns ! (look ! 10 refl) $ forget ! 4 refl $ forget ! 6 refl $ forget ! 8 refl $ forget ! 10 refl $
        move ! (10 ∷ 11 ∷ []) $ free1 ! $ move ! (8 ∷ 9 ∷ []) $ free1 ! $ move ! (6 ∷ 7 ∷ []) $ free1 ! $ move ! (3 ∷ []) $ free_all ! ts bs vs ok E $
        move ! (3 ∷ 4 ∷ []) $ free1 ! $ free0 ! $ by ! (hands_back u))))))))

module _ (S : Cursor) (ps : List Scalar) (R : Result) {M : Type 1} {𝓤 : Ura M} (𝓛 : Logic 𝓤) (Asks : List ℕ → ℕ → Xs ps → SProp 𝓤) (f : List ℕ → ℕ → Xs ps → R.row.Denot) where
  open 𝓛 use {H, A}

  abbrev stayed : Stays (bare ps R).signature.params (bare ps R).kept
  stayed = (stay_none_slice (0 ∷ []) tt (plain (λ _. u8)) yes, (stay_dropped (plain (λ _. usize)) yes, dropped 1 ps))

  abbrev Callee : Contract 𝓤
  Callee = triple_of 𝓛 (carried ps R S).signature (closing 𝓛 (carried ps R S) (Carried ps R 𝓤 Asks f S))

  module _ (κs : Lfts 1) (q : Share) (d : S.D) (a : Denots (types_at (slots 1 ps) κs)) where
    abbrev x : Xs ps
    x = told 1 κs ps a

    abbrev z : R.row.Denot
    z = f (S.image d).now (S.at d) x

    abbrev D : Declared
    D = the_type S (named_lft 1 0 tt κs)

    abbrev mach : Val
    mach = lowered S d

    abbrev Own : Fml
    Own = (ShrSlice (named 0) κs.0 u8).own_val (S.image d) (slice (S.image d) ∷ [])

    -- what the callee is passed: the scalars' values made anew, as values of its own signature
    abbrev a' : Denots (types_at (slots 1 ps) κs)
    a' = args 1 κs ps x

    abbrev to : Callee.Ghost
    to = ((κs, (q, tt), tt, (d, a'), (mach ∷ [], valued 1 κs ps a')), tt)

    abbrev Post : Val → SProp 𝓤
    Post = (walk_of 𝓛 (bare ps R) stayed (Bare ps R 𝓤 Asks f)).post ((κs, (q, tt), tt, (S.image d, (S.at d, a)), (slice (S.image d) ∷ [], (vint w64 (S.at d) ∷ [], valued 1 κs ps a))), tt)

    abbrev Entry : SProp 𝓤
    Entry = sep 𝓤 (on_entry 𝓛 (bare ps R).signature κs (q, tt) (S.image d, (S.at d, a)) (slice (S.image d) ∷ [], (vint w64 (S.at d) ∷ [], valued 1 κs ps a))) (Asks (S.image d).now (S.at d) x)

    abbrev Token : SProp 𝓤
    Token = sep 𝓤 (A.lft κs.0 q) (emp 𝓤)

    asked : ent 𝓤 (sep 𝓤 Token (sep 𝓤 (sem 𝓛 (owns (row_at S κs ∷ types_at (slots 1 ps) κs) (d, a') (mach ∷ [], valued 1 κs ps a'))) (Asks (S.image d).now (S.at d) x))) (Callee.pre to)
    asked =
        qed 𝓛 ((‵ (flft κs.0 q) ⊛ ‵ ftrue) ∷ ‵ (owns (row_at S κs ∷ types_at (slots 1 ps) κs) (d, a') (mach ∷ [], valued 1 κs ps a')) ∷ raw (Asks (S.image d).now (S.at d) x) ∷ []) ∵
        join ! $ frame ! $ by ! (subst (λ (y : Xs ps). ent 𝓤 (Asks (S.image d).now (S.at d) x) (Asks (S.image d).now (S.at d) y)) (sym (told_args 1 κs ps x)) (id⊢ 𝓤 _))

    -- a slice is Copy: one copy is kept for the exit, and the other stands in the reader
    splits : S.at d < 2 ^ 64 → Fitting ps x → ent 𝓤 Entry (sep 𝓤 (Callee.pre to) (sem 𝓛 Own))
    splits fits scalars =
        qed 𝓛 (((‵ (flft κs.0 q) ⊛ ‵ ftrue) ⊛ ‵ (owns (ShrSlice (named 0) κs.0 u8 ∷ usize ∷ types_at (slots 1 ps) κs) (S.image d, (S.at d, a)) (slice (S.image d) ∷ [], (vint w64 (S.at d) ∷ [], valued 1 κs ps a)))) ∷ raw (Asks (S.image d).now (S.at d) x) ∷ []) ∵
        split ! $ move ! (1 ∷ []) $ fsplit ! $ move ! (1 ∷ []) $ drop ! $ use1 𝓛 (‵ Own ⊛ ‵ Own) ((shr_slice_copy 𝓛 (named 0) κs.0 u8 (uint_row_laws w8)).twice (S.image d) (slice (S.image d) ∷ [])) $ split ! $
        -- [what image owns, twice; the token]
        nothing ! $ owned ! usize (Is usize) (uint_Makes 𝓛 w64) (S.at d) _ (refl, fits) $ fjoin ! $ move ! (1 ∷ 0 ∷ []) $ fjoin ! $
        use1 𝓛 (‵ ((row_at S κs).own_val d (mach ∷ []))) (own_shut 𝓛 D (the_laws S (named_lft 1 0 tt κs)) (S.image d, (S.at d, tt))) $
        use0 𝓛 (‵ (owns (types_at (slots 1 ps) κs) a' (valued 1 κs ps a'))) (made 1 κs 𝓛 ps x scalars) $ move ! (1 ∷ 0 ∷ []) $ fjoin ! $
        move ! (2 ∷ 0 ∷ 3 ∷ []) $ use3 𝓛 (raw (Callee.pre to)) asked $ frame ! $ done !

    said : (u : Val) → ent 𝓤 (Callee.post to u) (H.⇛ (sep 𝓤 (sem 𝓛 (R.row.own_val z (u ∷ []))) Token))
    said u =
        qed 𝓛 (raw (Callee.post to u) ∷ []) ∵ updating ! $
        use1 𝓛 (later (some (λ (r : R.row.Denot). ((‵ (flft κs.0 q) ⊛ ‵ ftrue) ⊛ ‵ (R.row.own_val r (u ∷ []))) ⊛ raw (ensured 𝓛 (carried ps R S) (Carried ps R 𝓤 Asks f S) κs (d, a') tt r)))) (id⊢ 𝓤 _) $ await ! tt $ pick ! (λ r.
        split ! $ move ! (1 ∷ []) $ use1 𝓛 (raw (fact 𝓤 (r ≡ f (S.image d).now (S.at d) (told 1 κs ps a')))) (ex_e 𝓤 _ (λ ws. snd∗ 𝓤 (sem 𝓛 (lasts (carried ps R S) κs (d, a') ws)) _)) $ heard ! _ (λ e. split ! $ move ! (1 ∷ 0 ∷ []) $ at_once ! $
        by ! (subst (λ (y : R.row.Denot). ent 𝓤 (sep 𝓤 (sem 𝓛 (R.row.own_val r (u ∷ []))) Token) (sep 𝓤 (sem 𝓛 (R.row.own_val y (u ∷ []))) Token)) (e ∙ ap (f (S.image d).now (S.at d)) (told_args 1 κs ps x)) (id⊢ 𝓤 _))))

    hands_back : (u : Val) → ent 𝓤 (sep 𝓤 (sem 𝓛 (R.row.own_val z (u ∷ []))) (sep 𝓤 Token (sem 𝓛 Own))) (Post u)
    hands_back u =
        qed 𝓛 (‵ (R.row.own_val z (u ∷ [])) ∷ (‵ (flft κs.0 q) ⊛ ‵ ftrue) ∷ ‵ Own ∷ []) ∵
        suffices ! _ (ends_at 𝓛 (bare ps R) stayed (Bare ps R 𝓤 Asks f) ((κs, (q, tt), tt, (S.image d, (S.at d, a)), (slice (S.image d) ∷ [], (vint w64 (S.at d) ∷ [], valued 1 κs ps a))), tt) u z (tt, (tt, none_bound 1 κs ps a)) (tt, (tt, none_asked 1 κs ps a (none_bound 1 κs ps a)))) $ says ! refl $
        move ! (1 ∷ []) $ frame ! $
        use0 𝓛 (‵ (has_of κs (slots 1 ps) (all yes (slots 1 ps)) (dropped 1 ps) a (none_bound 1 κs ps a) (valued 1 κs ps a))) (none_had 1 κs 𝓛 ps a (none_bound 1 κs ps a) (valued 1 κs ps a)) $
        nothing ! $ fjoin ! $ move ! (2 ∷ 0 ∷ []) $ fjoin ! $ frame ! $ done !

  pub inside_meets : (c : Clauses 𝓤 (bare ps R)) → Bare ps R 𝓤 Asks f ≡ c → (𝓣 : Tables 𝓤 H) (g : Key) → Triple 𝓤 (𝓣.C g) Callee → Meets 𝓛 (bare ps R).signature (WpFn 𝓤 H 𝓣.C 𝓣.Λ (inside S (mirs ps) R g)) (closing 𝓛 (bare ps R) c)
  inside_meets c is 𝓣 g known =
      subst (λ (e : Clauses 𝓤 (bare ps R)). Meets 𝓛 (bare ps R).signature (WpFn 𝓤 H 𝓣.C 𝓣.Λ (inside S (mirs ps) R g)) (closing 𝓛 (bare ps R) e)) is
      (walk_Meets 𝓛 (bare ps R) stayed (Goes-none_slice 𝓛 1 (0 ∷ []) tt (plain (λ _. u8)) yes, (Goes-dropped 𝓛 1 (plain (λ _. usize)) yes (λ κs x f. refl), all_go 𝓛 1 ps)) (Bare ps R 𝓤 Asks f) (WpFn 𝓤 H 𝓣.C 𝓣.Λ (inside S (mirs ps) R g)) (WpFn-mono 𝓤 H 𝓛.laws 𝓣 (inside S (mirs ps) R g))
      (walked 𝓛 (bare ps R) stayed (Bare ps R 𝓤 Asks f) (WpFn 𝓤 H 𝓣.C 𝓣.Λ (inside S (mirs ps) R g)) (λ κs. (shr_slice_vals, (uint_vals w64, spelled 1 κs ps))) (λ κs. (shr_slice_Tells (named 0) κs.0 u8, (uint_Tells w64, tell 1 κs ps)))
      (λ κs qs bounds a _ are. there κs qs.0 a.0 a.1.0 a.1.1 are.0 are.1.0.1 (fitting 1 κs ps a.1.1 are.1.1))))
    where
      -- what is to be shown at a slice and a place
      At : (κs : Lfts 1) (q : Share) (a : Denots (types_at (slots 1 ps) κs)) → Bor (List ℕ) × (ℕ × Unit {0}) → Type 1
      At κs q a v = Is (ShrSlice (named 0) κs.0 u8) v.0 (slice v.0 ∷ []) → v.1.0 < 2 ^ 64 → Fitting ps (told 1 κs ps a)
          → ent 𝓤 (sep 𝓤 (on_entry 𝓛 (bare ps R).signature κs (q, tt) (v.0, (v.1.0, a)) (slice v.0 ∷ [], (vint w64 v.1.0 ∷ [], valued 1 κs ps a))) (Asks v.0.now v.1.0 (told 1 κs ps a)))
          (WpFn 𝓤 H 𝓣.C 𝓣.Λ (inside S (mirs ps) R g) (slice v.0 ∷ vint w64 v.1.0 ∷ flat (types_at (slots 1 ps) κs) (valued 1 κs ps a))
          ((walk_of 𝓛 (bare ps R) stayed (Bare ps R 𝓤 Asks f)).post ((κs, (q, tt), tt, (v.0, (v.1.0, a)), (slice v.0 ∷ [], (vint w64 v.1.0 ∷ [], valued 1 κs ps a))), tt)))

      here : (κs : Lfts 1) (q : Share) (d : S.D) (a : Denots (types_at (slots 1 ps) κs)) → At κs q a (S.image d, (S.at d, tt))
      here κs q d a p fits scalars =
          let y : Xs ps = told 1 κs ps a in
          subst (λ (vs : List Val). ent 𝓤 (Entry κs q d a) (WpFn 𝓤 H 𝓣.C 𝓣.Λ (inside S (mirs ps) R g) (slice (S.image d) ∷ vint w64 (S.at d) ∷ vs) (Post κs q d a))) (sym (flat_told 1 κs ps a))
          (walk S (mirs ps) R 𝓛 κs.0 d p fits (z κs q d a) (machine ps y) (all_typed ps y scalars) (Entry κs q d a) (Callee.pre (to κs q d a)) (sem 𝓛 (Own κs q d a)) (Token κs q d a) (Post κs q d a) 𝓣.C 𝓣.Λ (fm_of 𝓤 H 𝓛.laws 𝓣) g (Callee.post (to κs q d a))
          (splits κs q d a fits scalars)
          (subst (λ (vs : List Val). ent 𝓤 (Callee.pre (to κs q d a)) (𝓣.C g (lowered S d ∷ vs) (Callee.post (to κs q d a)))) (flat_told 1 κs ps (args 1 κs ps y) ∙ ap (machine ps) (told_args 1 κs ps y)) (known (to κs q d a)))
          (said κs q d a) (hands_back κs q d a))

      there : (κs : Lfts 1) (q : Share) (s : Bor (List ℕ)) (n : ℕ) (a : Denots (types_at (slots 1 ps) κs)) → At κs q a (s, (n, tt))
      there κs q s n a = subst (At κs q a) (S.beta (s, (n, tt)) tt) (here κs q (S.make s n) a)
