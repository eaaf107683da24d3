-- Reading and writing the slots of a state: what was put is read back, every other slot stays, words past the size stay, and a state as
-- we write it stays one. Stated over the slot, so once for every kind. Assumes nothing.
use mathlib.Core.Path.{◌≡◌, refl, sym, ap, ◌∙◌, subst}
use mathlib.Core.Bool.{Bool, true, false, cond}
use mathlib.Core.List.{List}
use Prim.Native.Nat.{ℕ, ◌+◌, ◌/◌, ◌%◌, ◌≤◌, ◌<◌}
use native.Mathlib.Omega.{arith}
use native.Mathlib.Nat.{mod-eq_of_lt}
use lib.Dec.{ltb}
use lib.ListN.{length, drop, set, length-set}
use lib.Seq.{get_or-set_same, get_or-set_other, drop-set-lt}
use borrow.Author.Tests.{lt-ltb, le-ltb, ltb-true, ltb-false, eq-eqb, ne_eqb}
use Rattle.interrupt.specs.declared.record.InterruptRecord.{InterruptRecord}
use Rattle.word.specs.Word.{bit_of, word_of, InRange}
use Rattle.word.proofs.Cases.{same_or}
use Rattle.word.proofs.RecordWord.{decode_encode}
use Rattle.state.specs.declared.layout.Shape.{Shape}
use Rattle.state.specs.declared.layout.InterfaceValue.{InterfaceValue}
use Rattle.state.specs.declared.words.Entry.{Entry}
use Rattle.state.specs.Layout.{Slot, DistributorControl, Interface, Sources, Private, Spi, Stack, size, place, Exists, Limits, Room, number_of, spi_of}
use Rattle.state.specs.Words.{word_at, put, record_slot, RecordThere, record_at, with_record, sources_at, with_sources, kept, interface_at, with_interface, kept_distributor_control, distributor_control_at, with_distributor_control, enable_bit, entry_of, entry_word, entry_at, with_entry, CanonicalWord}
use Rattle.state.proofs.Places.{kept_kept, place_inside, place_apart, off_summary}
use Rattle.state.proofs.Summary.{spi_there, summed_length, summed_at, summed_past}

-- of the Distributor's CTLR that is the enable bit
pub control_bit : (x : ℕ) → kept_distributor_control x ≡ bit_of (enable_bit x)
control_bit x = same_or (x % 2) 1 (λ e. simp (eq-eqb (x % 2) 1 e) e) (λ d. let off : x % 2 ≡ 0 = omega (arith, d) in simp (ne_eqb (x % 2) 1 d) off)

pub entry_back : (e : Entry) → e.intid.0 < 1024 → e.priority.0 < 256 → entry_of (entry_word e) ≡ e
entry_back e a b =
    let n : entry_word e % 1024 ≡ e.intid.0 = omega arith in
    let d : entry_word e / 1024 ≡ e.priority.0 = omega arith in
    let p : entry_word e / 1024 % 256 ≡ e.priority.0 = rw d (mod-eq_of_lt b) in
    λ i. record { intid = record { 0 = n i }; priority = record { 0 = p i } }

module _ (shape : Shape) (s : List ℕ) where
  pub put_length : (t : Slot) (w : ℕ) → length (put shape t w s) ≡ length s
  put_length t w = summed_length shape (spi_of t) w (set s (place shape t) w) ∙ length-set s (place shape t) w

  pub put_room : (t : Slot) (w : ℕ) → Room shape s → Room shape (put shape t w s)
  put_room t w h = record { limits = h.limits; room = rw (put_length t w) h.room }

  -- the same slot
  pub put_same : (t : Slot) (w : ℕ) → Room shape s → Exists shape t → word_at shape t (put shape t w s) ≡ w
  put_same t w h e =
      let inside : place shape t < size shape = place_inside shape t h.limits e in
      summed_at shape (spi_of t) w (set s (place shape t) w) (place shape t) (spi_there shape t e) (off_summary shape t e)
      ∙ get_or-set_same s (place shape t) w 0 (omega arith)

  -- another slot, of the same kind or of another
  pub put_other : (t u : Slot) (w : ℕ) → Exists shape t → Exists shape u → (t ≡ u → ⊥) → word_at shape t (put shape u w s) ≡ word_at shape t s
  put_other t u w et eu apart =
      summed_at shape (spi_of u) w (set s (place shape u) w) (place shape t) (spi_there shape u eu) (off_summary shape t et)
      ∙ get_or-set_other s (place shape u) (place shape t) w 0 (λ p. apart (place_apart shape t u et eu p))

  -- the words past the size
  pub put_past : (t : Slot) (w : ℕ) → Limits shape → Exists shape t → drop (size shape) (put shape t w s) ≡ drop (size shape) s
  put_past t w l e =
      summed_past shape (spi_of t) w (set s (place shape t) w) (spi_there shape t e) ∙ drop-set-lt (size shape) s (place shape t) w (place_inside shape t l e)

  -- a slot is the one that was put, or another
  pub same_or_other {ℓ} : {X : Type ℓ} (t u : Slot) → Exists shape t → Exists shape u → (t ≡ u → X) → ((t ≡ u → ⊥) → X) → X
  same_or_other t u et eu same other =
      same_or (place shape t) (place shape u) (λ p. same (place_apart shape t u et eu p)) (λ d. other (λ p. d (ap (place shape) p)))

  -- words as we write them stay so
  pub put_written : (u : Slot) (w : ℕ) → Room shape s → Exists shape u → CanonicalWord u w
      → ((t : Slot) → Exists shape t → CanonicalWord t (word_at shape t s))
      → (t : Slot) → Exists shape t → CanonicalWord t (word_at shape t (put shape u w s))
  put_written u w h eu cw all t et =
      same_or_other t u et eu
      (λ p. subst (λ (x : Slot). CanonicalWord x (word_at shape x (put shape u w s))) (sym p) (rw (put_same u w h eu) cw))
      (λ apart. rw (put_other t u w et eu apart) (all t et))

  -- a record, a source set, an interface value, the Distributor's CTLR, a stack entry: what was written is read back
  pub record_same : (v n : ℕ) (r : InterruptRecord) → Room shape s → Exists shape (record_slot v n) → InRange r
      → record_at shape v n (with_record shape v n r s) ≡ r
  record_same v n r h e i = rw (put_same (record_slot v n) (word_of r) h e) (decode_encode r i)

  pub sources_same : (v n x : ℕ) → Room shape s → Exists shape (Sources v n) → x < 256 → sources_at shape v n (with_sources shape v n x s) ≡ x
  sources_same v n x h e b = rw (put_same (Sources v n) x h e) (mod-eq_of_lt b)

  pub interface_same : (v : ℕ) (k : InterfaceValue) (x : ℕ) → Room shape s → Exists shape (Interface v k)
      → interface_at shape v k (with_interface shape v k x s) ≡ kept k x
  interface_same v k x h e = rw (put_same (Interface v k) (kept k x) h e) (kept_kept k x)

  pub control_same : (x : ℕ) → Room shape s → distributor_control_at shape (with_distributor_control shape x s) ≡ kept_distributor_control x
  control_same x h = rw (put_same DistributorControl (kept_distributor_control x) h tt) (omega arith)

  pub entry_same : (v i : ℕ) (e : Entry) → Room shape s → Exists shape (Stack v i) → e.intid.0 < 1024 → e.priority.0 < 256
      → entry_at shape v i (with_entry shape v i e s) ≡ e
  entry_same v i e h x a b = rw (put_same (Stack v i) (entry_word e) h x) (entry_back e a b)

-- a record that is there has its slot
pub record_exists : (shape : Shape) (v n : ℕ) → RecordThere shape v n → Exists shape (record_slot v n)
unfolding record_slot
record_exists shape v n there = go (ltb n 32) refl
  where
    go : (b : Bool) → ltb n 32 ≡ b → Exists shape (cond b (Private v n) (Spi n))
    go true e = (there.banked (ltb-true n 32 e), ltb-true n 32 e)
    go false e = (ltb-false n 32 e, there.numbered)

-- which of the two kinds it is
pub record_private : (v n : ℕ) → ltb n 32 ≡ true → record_slot v n ≡ Private v n
unfolding record_slot
record_private v n e = rw e

pub record_spi : (v n : ℕ) → ltb n 32 ≡ false → record_slot v n ≡ Spi n
unfolding record_slot
record_spi v n e = rw e

pub number_of_record : (v n : ℕ) → number_of (record_slot v n) ≡ n
unfolding record_slot
number_of_record v n = go (ltb n 32)
  where
    go : (b : Bool) → number_of (cond b (Private v n) (Spi n)) ≡ n
    go true = refl
    go false = refl

-- records of two numbers have two slots
pub records_apart : (v u n m : ℕ) → (n ≡ m → ⊥) → record_slot v n ≡ record_slot u m → ⊥
records_apart v u n m apart e = apart (sym (number_of_record v n) ∙ ap number_of e ∙ number_of_record u m)

-- a record's slot is no source set's
pub record_no_sources : (v n u m : ℕ) → record_slot v n ≡ Sources u m → ⊥
unfolding record_slot
record_no_sources v n u m = go (ltb n 32)
  where
    go : (b : Bool) → cond b (Private v n) (Spi n) ≡ Sources u m → ⊥
    go true e = let z : ◌≡◌ {A = ℕ} 0 1 = cc in omega arith
    go false e = let z : ◌≡◌ {A = ℕ} 0 1 = cc in omega arith

-- the records that a register reaches stand side by side
pub record_run : (shape : Shape) (v n i : ℕ) → (n < 32 → n + i < 32) → place shape (record_slot v (n + i)) ≡ place shape (record_slot v n) + i
unfolding record_slot
record_run shape v n i together = go (ltb n 32) refl
  where
    go : (b : Bool) → ltb n 32 ≡ b → place shape (cond (ltb (n + i) 32) (Private v (n + i)) (Spi (n + i))) ≡ place shape (cond b (Private v n) (Spi n)) + i
    go true e = simp (lt-ltb (n + i) 32 (together (ltb-true n 32 e))) (omega arith)
    go false e = let h : 32 ≤ n = ltb-false n 32 e in simp (le-ltb (n + i) 32 (omega arith)) (omega arith)
