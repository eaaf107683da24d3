-- Document 01: "Bytes past it never change"; nor are they ever read. Of one call on any words; of calls without a setup or load on any words; of
-- an accepted setup or load and such calls after it; of any history at all. Assumes nothing.
use Rattle.std.specs.Prelude.{Option, Some, None}
use mathlib.Core.Path.{◌≡◌, refl, sym, ap, ◌∙◌}
use mathlib.Core.Bool.{true, false, not}
use mathlib.Core.List.{List, [], ◌∷◌}
use Prim.Native.Nat.{ℕ, ◌≤◌}
use native.Mathlib.Omega.{arith}
use lib.ListN.{length, get_or, take, drop}
use borrow.Author.Tests.{not-true}
use Rattle.state.specs.declared.layout.Shape.{Shape}
use Rattle.state.specs.Layout.{size, largest_size}
use Rattle.state.specs.Lent.{shaped, limited, stored_shape, HoldsState}
use Rattle.state.proofs.Places.{size_bound}
use Rattle.state.proofs.Tests.{left_true, right_true}
use Rattle.state.proofs.Validated.{limited_shape, limited_limits, limits_limited}
use Rattle.history.specs.History.{Call, Deed, Starts, Acts, deed, is_start, called, run, handed, answers, no_start}
use Rattle.history.proofs.Always.{started_controls}
use Rattle.history.proofs.Each.{any_words}
use Rattle.reach.specs.Reach.{size_or, stored_extent, extent_of, extent, ReachAtMost, SameFront}
use Rattle.reach.proofs.Beside.{head_stays}
use Rattle.reach.proofs.Extents.{other_extent, call_long}
use Rattle.reach.proofs.Never.{calls_never_write, calls_never_read}

-- a call
module _ (c : Call) (s : List ℕ) where
  once : ReachAtMost (extent c s) (c ∷ []) s
  once = (omega arith, tt)

  pub never_written : (drop (extent c s) (called c s).state ≡ drop (extent c s) s) × (length (called c s).state ≡ length s)
  unfolding run
  never_written = (calls_never_write (extent c s) (c ∷ []) s once, call_long c s)

  pub never_read : (r : List ℕ) → take (extent c s) s ≡ take (extent c s) r
      → (handed (called c s) ≡ handed (called c r)) × (take (extent c s) (called c s).state ≡ take (extent c s) (called c r).state)
  unfolding run answers
  never_read r same = let front = calls_never_read (extent c s) (c ∷ []) s r once same in let first = front.answers_same in (cc, front.words_same)

-- calls without a setup or load: the stored count and limit stay, and so does what they reach
pub stored_stays : (c : Call) (s : List ℕ) → is_start c ≡ false → stored_shape (called c s).state ≡ stored_shape s
stored_stays c s =
    any_words s (λ d o. stored_shape o.state ≡ stored_shape s) (λ d e. refl)
    (λ shape p d e. let head = head_stays d s e p in λ i. limited (head.0 i) (head.1 i)) c

no_start_reach : (n : ℕ) (cs : List Call) → no_start cs ≡ true → (s : List ℕ) → stored_extent s ≤ n → ReachAtMost n cs s
no_start_reach n [] e s h = tt
no_start_reach n (c ∷ cs) e s h =
    let other : is_start c ≡ false = not-true (is_start c) (left_true (not (is_start c)) (no_start cs) e) in
    (rw (other_extent c s other) h, no_start_reach n cs (right_true (not (is_start c)) (no_start cs) e) (called c s).state (rw (stored_stays c s other) h))

module _ (cs : List Call) (others : no_start cs ≡ true) (s : List ℕ) where
  pub past_never_written : drop (stored_extent s) (run cs s) ≡ drop (stored_extent s) s
  past_never_written = calls_never_write (stored_extent s) cs s (no_start_reach (stored_extent s) cs others s (omega arith))

  pub past_never_read : (r : List ℕ) → take (stored_extent s) s ≡ take (stored_extent s) r → SameFront (stored_extent s) cs s r
  past_never_read r = calls_never_read (stored_extent s) cs s r (no_start_reach (stored_extent s) cs others s (omega arith))

-- a setup or load that is accepted, and such calls after it
pub held_stored : (shape : Shape) (s : List ℕ) → HoldsState shape s → stored_shape s ≡ Some shape
held_stored shape s h =
    let c : get_or s 0 0 ≡ shape.count = ap (λ (t : Shape). t.count) (sym h.stored) in
    let l : get_or s 1 0 ≡ shape.limit = ap (λ (t : Shape). t.limit) (sym h.stored) in
    (λ i. limited (c i) (l i)) ∙ limits_limited shape h.state.limits

own_size : (count limit : ℕ) (l : Option Shape) → limited count limit ≡ l → size_or 0 l ≤ size (shaped count limit)
own_size count limit None p = omega arith
own_size count limit (Some shape) p = rw (limited_shape count limit shape p) (omega arith)

module _ (shape : Shape) (first : Call) (starts : deed first ≡ Starts shape.count shape.limit) (words : List ℕ) (accepted : (called first words).refusal ≡ 0) (cs : List Call) (others : no_start cs ≡ true) where
  start_reach : ReachAtMost (size shape) (first ∷ cs) words
  start_reach =
      let after = held_stored shape (called first words).state (started_controls shape first starts words accepted).lawful.in_range in
      (rw starts (own_size shape.count shape.limit (limited shape.count shape.limit) refl), no_start_reach (size shape) cs others (called first words).state (rw after (omega arith)))

  pub words_past_stay : drop (size shape) (run (first ∷ cs) words) ≡ drop (size shape) words
  words_past_stay = calls_never_write (size shape) (first ∷ cs) words start_reach

  pub words_past_unread : (r : List ℕ) → take (size shape) words ≡ take (size shape) r → SameFront (size shape) (first ∷ cs) words r
  words_past_unread r = calls_never_read (size shape) (first ∷ cs) words r start_reach

-- no call reaches past the largest state
largest : (other : ℕ) → other ≤ largest_size → (count limit : ℕ) (l : Option Shape) → limited count limit ≡ l → size_or other l ≤ largest_size
largest other h count limit None p = h
largest other h count limit (Some shape) p = size_bound shape (limited_limits count limit shape p)

pub extent_bound : (c : Call) (s : List ℕ) → extent c s ≤ largest_size
extent_bound c s = go (deed c)
  where
    go : (d : Deed) → extent_of d s ≤ largest_size
    go (Starts count limit) = largest 0 (omega arith) count limit (limited count limit) refl
    go (Acts a) = largest 2 (omega arith) (get_or s 0 0) (get_or s 1 0) (stored_shape s) refl

pub largest_reach : (cs : List Call) (s : List ℕ) → ReachAtMost largest_size cs s
largest_reach [] s = tt
largest_reach (c ∷ cs) s = (extent_bound c s, largest_reach cs (called c s).state)

-- so of any history at all, setups and loads in it or not
pub largest_unwritten : (cs : List Call) (s : List ℕ) → drop largest_size (run cs s) ≡ drop largest_size s
largest_unwritten cs s = calls_never_write largest_size cs s (largest_reach cs s)

pub largest_unread : (cs : List Call) (s r : List ℕ) → take largest_size s ≡ take largest_size r → SameFront largest_size cs s r
largest_unread cs s r = calls_never_read largest_size cs s r (largest_reach cs s)
