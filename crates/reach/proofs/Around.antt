-- What is written to a state is written to its slots, to the count's and the limit's never: a change of lent words that the others do not see
-- comes to the same before a write and after it. Assumes nothing.
use Rattle.std.specs.Prelude.{Option, None, Some}
use mathlib.Core.Path.{◌≡◌, refl, ap, ◌∙◌}
use mathlib.Core.Bool.{Bool, true, false, cond}
use mathlib.Core.List.{List}
use Prim.Native.Nat.{ℕ, zero, suc, ◌%◌, ◌≤◌, ◌<◌}
use native.Mathlib.Omega.{arith}
use lib.ListN.{length, get_or, set, length-set}
use Rattle.interrupt.specs.Record.{is_ready}
use Rattle.interrupt.specs.declared.record.InterruptRecord.{InterruptRecord}
use Rattle.word.specs.Word.{record_of, word_of}
use Rattle.state.specs.declared.layout.Shape.{Shape}
use Rattle.state.specs.Layout.{Slot, summary_place, size, place, Exists, Room, spi_of}
use Rattle.state.specs.Loop.{up_to}
use Rattle.state.specs.Words.{with_bit, summary_at, with_ready_bit, summed, put, record_slot, RecordThere, record_at, changed}
use Rattle.state.proofs.Accessors.{put_length, record_exists}
use Rattle.state.proofs.Places.{Inner, inner_place, place_inside, summary_from, bit_in_summary}
use Rattle.state.proofs.Summary.{SpiThere, spi_there}
use Rattle.reach.proofs.Readings.{Alike, record_inner, record_alike}

-- a change of lent words that no slot sees but the count's and the limit's: each other reads as before, and a word may as well be put before the
-- change as after it
pub record Around (shape : Shape) (wrap : List ℕ → List ℕ) : Type 0 where
  pub alike : (s : List ℕ) → Room shape s → Alike shape (wrap s) s
  pub puts : (s : List ℕ) → Room shape s → (t : Slot) → Exists shape t → Inner t → (w : ℕ) → put shape t w (wrap s) ≡ wrap (put shape t w s)

-- it is one that leaves each word from the third on in its place
pub record Placewise (shape : Shape) (wrap : List ℕ → List ℕ) : Type 0 where
  pub gets : (s : List ℕ) → Room shape s → (k : ℕ) → 2 ≤ k → k < size shape → get_or (wrap s) k 0 ≡ get_or s k 0
  pub sets : (s : List ℕ) → Room shape s → (k w : ℕ) → 2 ≤ k → k < size shape → set (wrap s) k w ≡ wrap (set s k w)

pub placewise_around : (shape : Shape) (wrap : List ℕ → List ℕ) → Placewise shape wrap → Around shape wrap
unfolding with_ready_bit
placewise_around shape wrap p = record {
  alike = λ s h. record {
    agree = λ t e inner. p.gets s h (place shape t) (inner_place shape t inner) (place_inside shape t h.limits e);
    summary = λ k on. let from = summary_from shape k on in p.gets s h k (omega arith) (omega arith);
  };
  puts = λ s h t e inner w. go (spi_of t) (spi_there shape t e) w (set (wrap s) (place shape t) w) (set s (place shape t) w)
      (record { limits = h.limits; room = rw (length-set s (place shape t) w) h.room })
      (p.sets s h (place shape t) w (inner_place shape t inner) (place_inside shape t h.limits e));
}
  where
    go : (o : Option ℕ) → SpiThere shape o → (w : ℕ) (r s : List ℕ) → Room shape s → r ≡ wrap s → summed shape o w r ≡ wrap (summed shape o w s)
    go None there w r s h e = e
    go (Some n) there w r s h e =
        let from = summary_from shape (summary_place shape n) (bit_in_summary shape n there) in
        ap (summed shape (Some n) w) e
        ∙ ap (λ (x : ℕ). set (wrap s) (summary_place shape n) (with_bit (n % 32) (is_ready (record_of w)) x)) (p.gets s h (summary_place shape n) (omega arith) (omega arith))
        ∙ p.sets s h (summary_place shape n) (with_bit (n % 32) (is_ready (record_of w)) (summary_at shape n s)) (omega arith) (omega arith)

-- a write that may as well come before the change as after it, and leaves as many words as there were
pub record Passes (wrap g : List ℕ → List ℕ) (s : List ℕ) : Type 0 where
  pub same : g (wrap s) ≡ wrap (g s)
  pub long : length (g s) ≡ length s

abbrev pub Through : Shape → (List ℕ → List ℕ) → (List ℕ → List ℕ) → Type 0
Through shape wrap g = (s : List ℕ) → Room shape s → Passes wrap g s

pub long_room : {shape : Shape} {s r : List ℕ} → length r ≡ length s → Room shape s → Room shape r
long_room e h = record { limits = h.limits; room = rw e h.room }

module _ {wrap : List ℕ → List ℕ} where
  pub none_passes : (s : List ℕ) → Passes wrap (λ r. r) s
  none_passes s = record { same = refl; long = refl }

  pub then_passes : {f g : List ℕ → List ℕ} {s : List ℕ} → Passes wrap f s → Passes wrap g (f s) → Passes wrap (λ r. g (f r)) s
  then_passes {g = g} first next = record { same = ap g first.same ∙ next.same; long = next.long ∙ first.long }

  -- under a test that reads alike
  pub choice_passes : {f g : List ℕ → List ℕ} {s : List ℕ} (b : List ℕ → Bool) → b (wrap s) ≡ b s → (b s ≡ true → Passes wrap f s) → (b s ≡ false → Passes wrap g s)
      → Passes wrap (λ r. cond (b r) (f r) (g r)) s
  choice_passes {f = f} {g = g} {s = s} b alike first second = go (b s) refl
    where
      go : (c : Bool) → b s ≡ c → Passes wrap (λ r. cond (b r) (f r) (g r)) s
      go true e = let p = first e in record { same = simp (alike, e) p.same; long = simp e p.long }
      go false e = let p = second e in record { same = simp (alike, e) p.same; long = simp e p.long }

  -- with an argument that reads alike
  pub with_passes : {X : Type 0} {s : List ℕ} (x : List ℕ → X) (g : X → List ℕ → List ℕ) → x (wrap s) ≡ x s → Passes wrap (g (x s)) s → Passes wrap (λ r. g (x r) r) s
  with_passes {X = X} {s = s} x g alike p = record { same = ap (λ (k : X). g k (wrap s)) alike ∙ p.same; long = p.long }

module _ {shape : Shape} {wrap : List ℕ → List ℕ} where
  pub then_through : {f g : List ℕ → List ℕ} → Through shape wrap f → Through shape wrap g → Through shape wrap (λ s. g (f s))
  then_through {f = f} first next = λ s h. let p = first s h in then_passes p (next (f s) (long_room p.long h))

  -- under a test that is not of the words
  pub if_through : {f : List ℕ → List ℕ} (b : Bool) → (b ≡ true → Through shape wrap f) → Through shape wrap (λ s. cond b (f s) s)
  if_through true through = through refl
  if_through false through = λ s h. none_passes s

  -- step by step
  pub steps_through : (f : ℕ → List ℕ → List ℕ) (n : ℕ) → ((i : ℕ) → i < n → Through shape wrap (f i)) → Through shape wrap (up_to f n)
  unfolding up_to
  steps_through f zero through = λ s h. none_passes s
  steps_through f (suc n) through = then_through (steps_through f n (λ i h. through i (omega arith))) (through n (omega arith))

  -- a word that is made of what reads alike, and a record
  module _ (around : Around shape wrap) where
    pub put_through : (t : Slot) (w : List ℕ → ℕ) → Exists shape t → Inner t → ((s : List ℕ) → Room shape s → w (wrap s) ≡ w s) → Through shape wrap (λ s. put shape t (w s) s)
    put_through t w exists inner alike = λ s h. record {
      same = ap (λ (x : ℕ). put shape t x (wrap s)) (alike s h) ∙ around.puts s h t exists inner (w s);
      long = put_length shape s t (w s);
    }

    pub changed_through : (v n : ℕ) (f : InterruptRecord → InterruptRecord) → RecordThere shape v n → Through shape wrap (changed shape v n f)
    changed_through v n f there =
        put_through (record_slot v n) (λ s. word_of (f (record_at shape v n s))) (record_exists shape v n there) (record_inner v n)
        (λ s h. ap (λ (q : InterruptRecord). word_of (f q)) (record_alike (around.alike s h) v n there))
