-- A walk by its steps: one that goes on has stored one thing more, one that was refused stays refused and stores no more. Assumes nothing.
use mathlib.Core.Path.{◌≡◌, refl, sym, ap, ◌∙◌}
use mathlib.Core.Bool.{Bool, true, false, cond}
use mathlib.Core.List.{List}
use Prim.Native.Nat.{ℕ, zero, suc, ◌+◌, ◌-◌, ◌≤◌, ◌<◌}
use native.Mathlib.Nat.{add-zero, add-suc}
use native.Mathlib.Numerals.{add-one}
use native.Mathlib.Omega.{arith}
use borrow.Author.Tests.{le-leb, lt-leb}
use Rattle.word.proofs.Cases.{last_or}
use Rattle.state.specs.declared.layout.Shape.{Shape}
use Rattle.state.specs.declared.words.Entry.{Entry}
use Rattle.state.specs.Loop.{up_to}
use Rattle.state.specs.Words.{with_entry, without_entry}
use Rattle.state.proofs.Steps.{up_idle}
use Rattle.std.specs.Prelude.{Some, None}
use Rattle.load.specs.Reading.{entry_found}
use Rattle.load.specs.Walking.{spot, lost, entry_in, entry_spot, entry_stored, entries_stored, cleared_past, walked}

pub cond_same : {X : Type 0} (b : Bool) (x : X) → cond b x x ≡ x
cond_same true x = refl
cond_same false x = refl

-- a step stored on what was stored so far, or nothing at all
pub stored_on : (b : Bool) (f : List ℕ → List ℕ) (w after x y start : List ℕ) → w ≡ cond b x start → after ≡ cond b (f w) w → y ≡ f x → after ≡ cond b y start
stored_on true f w after x y start so_far e step = e ∙ (ap f so_far ∙ sym step)
stored_on false f w after x y start so_far e step = e ∙ so_far

-- steps after steps
pub up_plus : (f g : ℕ → List ℕ → List ℕ) (m n : ℕ) (s : List ℕ) → ((i : ℕ) (r : List ℕ) → f (m + i) r ≡ g i r) → up_to f (m + n) s ≡ up_to g n (up_to f m s)
unfolding up_to
up_plus f g m zero s same = let e : m + 0 ≡ m = omega arith in rw e
up_plus f g m (suc n) s same =
    let e : m + suc n ≡ suc (m + n) = omega arith in
    rw e (same n (up_to f (m + n) s) ∙ ap (g n) (up_plus f g m n s same))

-- what each step keeps holds from where it holds first
onward : (P : ℕ → Type 0) → ((i : ℕ) → P i → P (suc i)) → (n m : ℕ) → m ≤ n → P m → P n
onward P step zero m h p = let e : m ≡ 0 = omega arith in rw (← e) p
onward P step (suc n) m h p = last_or m (suc n) (omega arith) (λ e. rw (← e) p) (λ b. step n (onward P step n m (omega arith) p))

-- a step that is the last to store anything
last_step : (f : ℕ → List ℕ → List ℕ) (s : List ℕ) (i n : ℕ) → i < n → ((j : ℕ) (r : List ℕ) → i < j → f j r ≡ r) → up_to f n s ≡ f i (up_to f i s)
unfolding up_to
last_step f s i n b idle = up_idle f s n (suc i) b (λ j r a _. idle j r a)

-- entries below the depth are passed over, and those from it up are cleared
pub cleared_by_test : (shape : Shape) (v d n : ℕ) (s : List ℕ) → d ≤ n → up_to (cleared_past shape v d) n s ≡ up_to (λ i. without_entry shape v (d + i)) (n - d) s
unfolding up_to
cleared_by_test shape v d n s h = let e : n ≡ d + (n - d) = omega arith in ap (λ (k : ℕ). up_to (cleared_past shape v d) k s) e ∙ go (n - d)
  where
    go : (m : ℕ) → up_to (cleared_past shape v d) (d + m) s ≡ up_to (λ i. without_entry shape v (d + i)) m s
    go zero = rw add-zero (up_idle (cleared_past shape v d) s d 0 (omega arith) (λ i r _ b. simp (lt-leb d i b)))
    go (suc m) = rw (add-suc, le-leb d (d + m) (omega arith), go m)

module _ (shape : Shape) (image : List ℕ) (start : ℕ) where
  pub lost_stays : (i n : ℕ) → i ≤ n → entry_spot shape image start i ≡ lost → entry_spot shape image start n ≡ lost
  unfolding entry_spot
  lost_stays i n h e = onward (λ j. entry_spot shape image start j ≡ lost) (λ j p. simp p) n i h e

  pub refused_stays : (k n : ℕ) → k ≤ n → walked shape image start k ≡ None → walked shape image start n ≡ None
  unfolding walked
  refused_stays k n h e = onward (λ j. walked shape image start j ≡ None) (λ j p. simp p) n k h e

  module _ (v i at above : ℕ) (s : List ℕ) (here : entry_spot shape image start i ≡ spot at above) where
    pub entry_taken : (e : Entry) (next : ℕ) → entry_found shape above image at ≡ Some (e, next)
        → (entry_spot shape image start (i + 1) ≡ spot next e.priority.0) × (entries_stored shape image v start (i + 1) s ≡ with_entry shape v i e (entries_stored shape image v start i s))
    unfolding entry_spot entries_stored up_to
    entry_taken e next found = (rw add-one (simp (here, found)), rw add-one (simp (here, found)))

    pub entry_refused : (d : ℕ) → i < d → entry_found shape above image at ≡ None
        → (entry_spot shape image start d ≡ lost) × (entries_stored shape image v start d s ≡ entries_stored shape image v start i s)
    unfolding entry_spot entries_stored
    entry_refused d b found =
        let gone : entry_spot shape image start (suc i) ≡ lost = simp (here, found) in
        (lost_stays (suc i) d b gone, last_step (λ j. entry_stored shape v j (entry_in shape image (entry_spot shape image start j))) s i d b (λ j r a. simp (lost_stays (suc i) j a gone)) ∙ simp (here, found))
