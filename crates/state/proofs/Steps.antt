-- Steps taken one after another, each with things of its own: what a step's own things read at the end is what that step alone makes of
-- the start, and things that no step has stay. So a register's write can be read field by field. A thing is whatever words are read by
-- (`View`): a slot with its word (`slots`). Assumes nothing.
use mathlib.Core.Path.{◌≡◌, refl, ◌∙◌}
use mathlib.Core.List.{List}
use Prim.Native.Nat.{ℕ, zero, suc, ◌≤◌, ◌<◌}
use native.Mathlib.Nat.{not-suc-le-zero}
use native.Mathlib.Omega.{arith}
use Rattle.word.proofs.Cases.{last_or}
use Rattle.state.specs.declared.layout.Shape.{Shape}
use Rattle.state.specs.Layout.{Slot, Exists, Room}
use Rattle.state.specs.Loop.{up_to}
use Rattle.state.specs.Words.{word_at}

-- what is read of some words: things of any kind, those that exist, what each reads, and which words are good
pub record View : Type 1 where
  pub Thing : Type 0
  pub Value : Type 0
  pub There : Thing → Type 0
  pub Good : List ℕ → Type 0
  pub read : Thing → List ℕ → Value

-- two states that agree on some things
pub record AgreeIn (view : View) (Mine : view.Thing → Type 0) (s r : List ℕ) : Type 0 where
  pub agree : (t : view.Thing) → view.There t → Mine t → view.read t s ≡ view.read t r

-- a step with things of its own: it leaves the others, and what it makes of its own depends on them alone
pub record LocalIn (view : View) (Mine : view.Thing → Type 0) (f : List ℕ → List ℕ) : Type 0 where
  pub room : (s : List ℕ) → view.Good s → view.Good (f s)
  pub others : (s : List ℕ) → view.Good s → (t : view.Thing) → view.There t → (Mine t → ⊥) → view.read t (f s) ≡ view.read t s
  pub own : (s r : List ℕ) → view.Good s → view.Good r → AgreeIn view Mine s r → AgreeIn view Mine (f s) (f r)

-- the slots of a shape, each with its word
abbrev pub slots : Shape → View
slots shape = record { Thing = Slot; Value = ℕ; There = Exists shape; Good = Room shape; read = word_at shape }

abbrev pub Agree : Shape → (Slot → Type 0) → List ℕ → List ℕ → Type 0
Agree shape Mine s r = AgreeIn (slots shape) Mine s r

abbrev pub Local : Shape → (Slot → Type 0) → (List ℕ → List ℕ) → Type 0
Local shape Mine f = LocalIn (slots shape) Mine f

module _ (view : View) (Mine : ℕ → view.Thing → Type 0) (f : ℕ → List ℕ → List ℕ) where
  pub steps_room : (n : ℕ) (s : List ℕ) → ((i : ℕ) → i < n → LocalIn view (Mine i) (f i)) → view.Good s → view.Good (up_to f n s)
  unfolding up_to
  steps_room zero s steps h = h
  steps_room (suc n) s steps h = (steps n (omega arith)).room (up_to f n s) (steps_room n s (λ i b. steps i (omega arith)) h)

  pub steps_others : (n : ℕ) (s : List ℕ) → ((i : ℕ) → i < n → LocalIn view (Mine i) (f i)) → view.Good s
      → (t : view.Thing) → view.There t → ((i : ℕ) → i < n → Mine i t → ⊥) → view.read t (up_to f n s) ≡ view.read t s
  unfolding up_to
  steps_others zero s steps h t e away = refl
  steps_others (suc n) s steps h t e away =
      (steps n (omega arith)).others (up_to f n s) (steps_room n s (λ i b. steps i (omega arith)) h) t e (away n (omega arith))
      ∙ steps_others n s (λ i b. steps i (omega arith)) h t e (λ i b. away i (omega arith))

  module _ (apart : (i j : ℕ) (t : view.Thing) → Mine i t → Mine j t → i ≡ j) where
    -- what has gone before leaves the next one's own things
    pub before_last : (n : ℕ) (s : List ℕ) → ((i : ℕ) → i < n → LocalIn view (Mine i) (f i)) → view.Good s → AgreeIn view (Mine n) (up_to f n s) s
    before_last n s steps h = record { agree = λ t e m. steps_others n s steps h t e (λ i b mi. let p : i ≡ n = apart i n t mi m in omega arith) }

    pub steps_own : (n : ℕ) (s : List ℕ) → ((i : ℕ) → i < n → LocalIn view (Mine i) (f i)) → view.Good s
        → (i : ℕ) → i < n → AgreeIn view (Mine i) (up_to f n s) (f i s)
    unfolding up_to
    steps_own zero s steps h i b = absurd (not-suc-le-zero b)
    steps_own (suc n) s steps h i b =
        let good = steps_room n s (λ j c. steps j (omega arith)) h in
        last_or i n b
        (λ e. rw e ((steps n (omega arith)).own (up_to f n s) s good h (before_last n s (λ j c. steps j (omega arith)) h)))
        (λ c. record {
          agree = λ t e m.
              (steps n (omega arith)).others (up_to f n s) good t e (λ mn. let p : i ≡ n = apart i n t m mn in omega arith)
              ∙ (steps_own n s (λ j k. steps j (omega arith)) h i c).agree t e m;
        })

-- steps that change nothing may be left out
pub up_idle : (f : ℕ → List ℕ → List ℕ) (s : List ℕ) (n m : ℕ) → m ≤ n → ((i : ℕ) (r : List ℕ) → m ≤ i → i < n → f i r ≡ r) → up_to f n s ≡ up_to f m s
unfolding up_to
up_idle f s zero m h idle = let e : m ≡ 0 = omega arith in rw e
up_idle f s (suc n) m h idle =
    last_or m (suc n) (omega arith) (λ e. rw e)
    (λ b. idle n (up_to f n s) (omega arith) (omega arith) ∙ up_idle f s n m (omega arith) (λ i r a c. idle i r a (omega arith)))
