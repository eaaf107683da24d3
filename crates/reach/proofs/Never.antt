-- Document 01: "Bytes past it never change"; and words past a state's size are never read and never written. For any lent words, whatever they
-- hold, and any calls, refused ones included. Assumes nothing.
use mathlib.Core.Path.{◌≡◌, refl, sym, ap, ◌∙◌}
use mathlib.Core.Bool.{Bool, true, false}
use mathlib.Core.List.{List, [], ◌∷◌, ◌++◌}
use Prim.Native.Nat.{ℕ, min, ◌≤◌}
use native.Mathlib.Omega.{arith}
use lib.Dec.{leb}
use lib.ListN.{length, take, drop, take-append-drop, length-take, drop_of_length-le}
use lib.Seq.{length-take-le, take_all, take_at, drop_at}
use borrow.Author.Tests.{leb-true, leb-false}
use Rattle.history.specs.History.{Call, called, run, Handed, handed, answers}
use Rattle.reach.specs.Reach.{extent, ReachAtMost, SameFront}
use Rattle.reach.proofs.Outcomes.{Carries}
use Rattle.reach.proofs.Extents.{within_extent, same_extent, call_long}

-- calls leave as many words as there were
pub as_many_words : (cs : List Call) (s : List ℕ) → length (run cs s) ≡ length s
unfolding run
as_many_words [] s = refl
as_many_words (c ∷ cs) s = as_many_words cs (called c s).state ∙ call_long c s

-- calls that reach no further than the words a do the same with more behind them
module _ (n : ℕ) (x : List ℕ) where
  carried : (c : Call) (a : List ℕ) → n ≤ length a → extent c a ≤ n → Carries (λ s. s ++ x) (called c) a
  carried c a h e = within_extent a x c (omega (arith, h, e))

  front_reach : (cs : List Call) (a : List ℕ) → n ≤ length a → ReachAtMost n cs (a ++ x) → ReachAtMost n cs a
  front_reach [] a h reach = tt
  front_reach (c ∷ cs) a h reach =
      let e : extent c a ≤ n = rw (same_extent a x c (omega (arith, h, reach.0))) at reach.0 in
      let p = carried c a h e in
      (e, front_reach cs (called c a).state (rw p.long h) (rw (ap (λ o. o.state) p.same) at reach.1))

  record Fronted (cs : List Call) (a : List ℕ) : Type 0 where
    words : run cs (a ++ x) ≡ run cs a ++ x
    handed_out : answers cs (a ++ x) ≡ answers cs a

  front : (cs : List Call) (a : List ℕ) → n ≤ length a → ReachAtMost n cs a → Fronted cs a
  unfolding run answers
  front [] a h reach = record { words = refl; handed_out = refl }
  front (c ∷ cs) a h reach =
      let p = carried c a h reach.0 in
      let rest = front cs (called c a).state (rw p.long h) reach.1 in
      record {
        words = (λ i. run cs (p.same i).state) ∙ rest.words;
        handed_out = (λ i. handed (p.same i) ∷ answers cs (p.same i).state) ∙ ap (λ (l : List Handed). handed (called c a) ∷ l) rest.handed_out;
      }

module _ (n : ℕ) (cs : List Call) where
  -- the n words in front of some, and what the calls make of them
  cut : (s : List ℕ) → n ≤ length s → ReachAtMost n cs (take n s) → Fronted n (drop n s) cs (take n s)
  cut s h reach = front n (drop n s) cs (take n s) (omega (arith, length-take-le n s h)) reach

  cut_reach : (s : List ℕ) → n ≤ length s → ReachAtMost n cs s → ReachAtMost n cs (take n s)
  cut_reach s h reach = front_reach n (drop n s) cs (take n s) (omega (arith, length-take-le n s h)) (rw (take-append-drop n s) reach)

  cut_run : (s : List ℕ) → n ≤ length s → ReachAtMost n cs (take n s) → run cs s ≡ run cs (take n s) ++ drop n s
  cut_run s h reach = ap (run cs) (sym (take-append-drop n s)) ∙ (cut s h reach).words

  cut_long : (s : List ℕ) → n ≤ length s → length (run cs (take n s)) ≡ n
  cut_long s h = as_many_words cs (take n s) ∙ length-take-le n s h

  -- what lies past n words is never written
  pub calls_never_write : (s : List ℕ) → ReachAtMost n cs s → drop n (run cs s) ≡ drop n s
  calls_never_write s reach = go (leb n (length s)) refl
    where
      go : (b : Bool) → leb n (length s) ≡ b → drop n (run cs s) ≡ drop n s
      go true e =
          let h = leb-true n (length s) e in
          ap (drop n) (cut_run s h (cut_reach s h reach)) ∙ drop_at (run cs (take n s)) (drop n s) n (cut_long s h)
      go false e =
          let short = leb-false n (length s) e in
          drop_of_length-le (run cs s) {i = n} (omega (arith, as_many_words cs s, short)) ∙ sym (drop_of_length-le s {i = n} (omega (arith, short)))

  -- .. and never read
  cut_same : (s r : List ℕ) → n ≤ length s → n ≤ length r → take n s ≡ take n r → ReachAtMost n cs (take n s) → SameFront n cs s r
  cut_same s r hs hr same reach = record {
    answers_same = (at s hs reach).0 ∙ ap (answers cs) same ∙ sym (at r hr (rw same at reach)).0;
    words_same = (at s hs reach).1 ∙ ap (run cs) same ∙ sym (at r hr (rw same at reach)).1;
  }
    where
      at : (t : List ℕ) → n ≤ length t → ReachAtMost n cs (take n t) → (answers cs t ≡ answers cs (take n t)) × (take n (run cs t) ≡ run cs (take n t))
      at t h reached = (
        ap (answers cs) (sym (take-append-drop n t)) ∙ (cut t h reached).handed_out,
        ap (take n) (cut_run t h reached) ∙ take_at (run cs (take n t)) (drop n t) n (cut_long t h),
      )

  pub calls_never_read : (s r : List ℕ) → ReachAtMost n cs s → take n s ≡ take n r → SameFront n cs s r
  calls_never_read s r reach same = go (leb n (length s)) refl
    where
      lengths : min n (length s) ≡ min n (length r)
      lengths = sym (length-take n s) ∙ ap length same ∙ length-take n r

      go : (b : Bool) → leb n (length s) ≡ b → SameFront n cs s r
      go true e = let h = leb-true n (length s) e in cut_same s r h (omega (arith, h, lengths)) same (cut_reach s h reach)
      go false e =
          let short = leb-false n (length s) e in
          let all : s ≡ r = sym (take_all n s (omega (arith, short))) ∙ same ∙ take_all n r (omega (arith, short, lengths)) in
          record { answers_same = ap (answers cs) all; words_same = ap (λ (t : List ℕ). take n (run cs t)) all }
