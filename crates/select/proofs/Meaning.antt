-- What the recursion behind `best` means: what it gives is the best of all candidates, and it gives none exactly if there is no candidate.
-- Assumes nothing.
use Rattle.std.specs.Prelude.{Option, Some, None}
use mathlib.Core.Path.{◌≡◌, refl, sym, ◌∙◌, subst}
use mathlib.Core.Bool.{Bool, true, false, cond, ◌&&◌, true≢false}
use mathlib.Core.List.{List}
use Prim.Native.Nat.{ℕ, zero, suc, ◌<◌}
use native.Mathlib.Nat.{not-suc-le-zero}
use native.Mathlib.Omega.{arith}
use lib.Dec.{ltb}
use borrow.Author.Tests.{ltb-true, ltb-false}
use Rattle.word.proofs.Cases.{last_or}
use Rattle.state.specs.declared.layout.Shape.{Shape}
use Rattle.state.specs.Words.{record_at, interface_at}
use Rattle.state.specs.declared.layout.InterfaceValue.TheVariants.{PriorityMask}
use Rattle.state.proofs.Tests.{left_true, right_true}
use Rattle.select.specs.declared.Candidate.{Candidate}
use Rattle.select.specs.Select.{offered, ready_at, candidate, candidate_for, better, best_among, best_below, best, IsBest}

module _ (shape : Shape) (v : ℕ) (s : List ℕ) where
  -- whatever the words, a candidate is ready by its record or by its bit
  pub candidate_is_ready : (n : ℕ) → candidate shape v s n ≡ true → ready_at shape v s n ≡ true
  unfolding candidate
  candidate_is_ready n c =
      let r = record_at shape v n s in
      right_true (offered v n r) (ready_at shape v s n) (left_true (offered v n r && ready_at shape v s n) (ltb r.priority.0 (interface_at shape v PriorityMask s)) c)

  -- what a selection says of the numbers below n
  abbrev Means : ℕ → Option Candidate → Type 0
  Means n None = (m : ℕ) → m < n → candidate shape v s m ≡ false
  Means n (Some e) = IsBest shape v s n e

  -- one number more
  passed : (n : ℕ) (b : Option Candidate) → candidate shape v s n ≡ false → Means n b → Means (suc n) b
  passed n None neg none = λ m h. last_or m n h (λ p. rw p neg) (λ below. none m below)
  passed n (Some e) neg is = record {
    below = let h : e.intid.0 < n = is.below in omega arith;
    chosen = is.chosen;
    priority = is.priority;
    smallest = λ m h pos. last_or m n h (λ p. absurd (true≢false (sym pos ∙ rw p neg))) (λ below. is.smallest m below pos);
    first = λ m h pos same. last_or m n h (λ p. absurd (true≢false (sym pos ∙ rw p neg))) (λ below. is.first m below pos same);
  }

  taken : (n : ℕ) (b : Option Candidate) → candidate shape v s n ≡ true → Means n b → Means (suc n) (better true (candidate_for shape v s n) b)
  taken n None pos none = record {
    below = omega arith;
    chosen = pos;
    priority = refl;
    smallest = λ m h c. last_or m n h (λ p. rw p (omega arith)) (λ below. absurd (true≢false (sym c ∙ none m below)));
    first = λ m h c same. last_or m n h (λ p. omega arith) (λ below. absurd (true≢false (sym c ∙ none m below)));
  }
  taken n (Some e) pos is = go (ltb q e.priority.0) refl
    where
      q : ℕ
      q = (record_at shape v n s).priority.0

      go : (b : Bool) → ltb q e.priority.0 ≡ b → Means (suc n) (cond b (Some (candidate_for shape v s n)) (Some e))
      go true p = let ahead : q < e.priority.0 = ltb-true q e.priority.0 p in record {
        below = omega arith;
        chosen = pos;
        priority = refl;
        smallest = λ m h c. last_or m n h (λ w. rw w (omega arith)) (λ below. let a = is.smallest m below c in omega arith);
        first = λ m h c same. last_or m n h (λ w. omega arith) (λ below. let a = is.smallest m below c in omega arith);
      }
      go false p = let behind = ltb-false q e.priority.0 p in record {
        below = let h : e.intid.0 < n = is.below in omega arith;
        chosen = is.chosen;
        priority = is.priority;
        smallest = λ m h c. last_or m n h (λ w. rw w behind) (λ below. is.smallest m below c);
        first = λ m h c same. last_or m n h (λ w. let b : e.intid.0 < n = is.below in omega arith) (λ below. is.first m below c same);
      }

  means : (n : ℕ) → Means n (best_below shape v s n)
  unfolding best_among
  means zero = λ m h. absurd (not-suc-le-zero h)
  means (suc n) = go (candidate shape v s n) refl (means n)
    where
      go : (b : Bool) → candidate shape v s n ≡ b → Means n (best_below shape v s n) → Means (suc n) (better b (candidate_for shape v s n) (best_below shape v s n))
      go true pos is = taken n (best_below shape v s n) pos is
      go false neg is = passed n (best_below shape v s n) neg is

  meant : (b : Option Candidate) → best shape v s ≡ b → Means shape.limit b
  meant b p = subst (λ (x : Option Candidate). Means shape.limit x) p (means shape.limit)

  -- the best is a candidate, and neg candidate is before it
  pub best_is : (e : Candidate) → best shape v s ≡ Some e → IsBest shape v s shape.limit e
  best_is e p = meant (Some e) p

  -- none is given exactly if there is neg candidate
  pub none_is : best shape v s ≡ None → (m : ℕ) → m < shape.limit → candidate shape v s m ≡ false
  none_is p = meant None p

  pub is_none : ((m : ℕ) → m < shape.limit → candidate shape v s m ≡ false) → best shape v s ≡ None
  is_none none = go (best shape v s) refl
    where
      go : (b : Option Candidate) → best shape v s ≡ b → b ≡ None
      go None p = refl
      go (Some e) p = let is = best_is e p in absurd (true≢false (sym is.chosen ∙ none e.intid.0 is.below))

  -- and there is only one
  pub is_best : (e : Candidate) → IsBest shape v s shape.limit e → best shape v s ≡ Some e
  is_best e is = go (best shape v s) refl
    where
      go : (b : Option Candidate) → best shape v s ≡ b → b ≡ Some e
      go None p = absurd (true≢false (sym is.chosen ∙ none_is p e.intid.0 is.below))
      go (Some d) p =
          let of : IsBest shape v s shape.limit d = best_is d p in
          let a = is.smallest d.intid.0 of.below of.chosen in
          let b = of.smallest e.intid.0 is.below is.chosen in
          let q : d.priority.0 ≡ e.priority.0 = omega (arith, a, b, is.priority, of.priority) in
          let f = is.first d.intid.0 of.below of.chosen (sym of.priority ∙ q) in
          let g = of.first e.intid.0 is.below is.chosen (sym is.priority ∙ sym q) in
          let n : d.intid.0 ≡ e.intid.0 = omega (arith, f, g) in
          λ i. Some (record { intid = record { 0 = n i }; priority = record { 0 = q i } })
