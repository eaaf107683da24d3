-- An interrupt given keeps a state lawful: its entry is even and below every older one, its record in flight and this vCPU's, and an SGI pending
-- exactly if a source is left. Assumes nothing.
use mathlib.Core.Path.{◌≡◌, refl, sym, ap, subst, ◌∙◌}
use mathlib.Core.Bool.{Bool, true, false, not, cond}
use mathlib.Core.List.{List, [], ◌∷◌}
use mathlib.Core.Logic.{inl, inr}
use Prim.Native.Nat.{ℕ, zero, suc, ◌<◌}
use native.Mathlib.Numerals.{add-one}
use native.Mathlib.Omega.{arith}
use lib.Dec.{eqb, ltb}
use borrow.Author.Tests.{ltb-true, ltb-false}
use Rattle.interrupt.specs.declared.record.InterruptRecord.{InterruptRecord}
use Rattle.interrupt.specs.Record.{set_pending, mark_inflight, set_owner, set_state, synchronize_inflight}
use Rattle.interrupt.specs.Types.{idle_priority}
use Rattle.word.proofs.Cases.{same_or, last_or}
use Rattle.state.specs.declared.layout.Shape.{Shape}
use Rattle.state.specs.declared.layout.InterfaceValue.TheVariants.{Depth}
use Rattle.state.specs.declared.words.Entry.{Entry}
use Rattle.state.specs.Layout.{Slot, Interface, Sources, Stack, is_record, is_sources}
use Rattle.state.specs.Words.{word_at, RecordThere, record_at, sources_at, entry_at}
use Rattle.state.proofs.Numbers.{Of}
use Rattle.state.proofs.SlotKinds.{kinds_apart, apart_record}
use Rattle.select.specs.declared.Candidate.{Candidate}
use Rattle.service.specs.Service.{depth_at, running_of, running}
use Rattle.service.proofs.Stacks.{stack_empty, stack_newest}
use Rattle.acknowledge.specs.Acknowledge.{given_record, pushed_for, Givable}
use Rattle.acknowledge.proofs.Offers.{pushed_below, pushed_byte, pushed_even}
use Rattle.delivery.proofs.Given.{given_others, given_depth, given_stack, given_record_lem, given_sgi}
use Rattle.lawful.specs.Lawful.{priority_at, Lawful}
use Rattle.lawful.proofs.Depths.{running_newest}
use Rattle.moves.specs.Moves.{Given, moved, Giving}
use Rattle.moves.proofs.Parts.{StackFine, SgiFine, record_fine}
use Rattle.moves.proofs.Records.{Fine, given_fine, pended_fine}
use Rattle.moves.proofs.Slots.{no_number, StackOf, stack_vcpu, Touches, givable}
use Rattle.moves.proofs.Sounds.{lawful_sound}
use Rattle.moves.proofs.Frames.{stack, one_number}

top_of : Entry → List Entry → Entry
top_of e [] = e
top_of e (x ∷ xs) = x

module _ (shape : Shape) (s : List ℕ) (h : Lawful shape s) (v : ℕ) (e : Candidate) (o : Giving shape v e s) where
  abbrev n : ℕ
  n = e.intid.0

  abbrev entry : Entry
  entry = pushed_for shape v s e

  abbrev after : List ℕ
  after = moved shape (Given v e) s

  lent : Givable shape v e s
  lent = givable shape s (lawful_sound h) v e o

  there_given : RecordThere shape v n
  there_given = record { numbered = lent.numbered; banked = λ b. o.exists }

  old : Fine shape v n (record_at shape v n s)
  old = record_fine shape s h v n there_given

  -- the new entry: below every older one, and below the idle one
  pub newest : entry_at shape v (depth_at shape v s) after ≡ entry
  unfolding top_of
  newest =
      let deeper : depth_at shape v after ≡ suc (depth_at shape v s) = given_depth shape v e s lent ∙ add-one (depth_at shape v s) in
      ap (top_of entry)
      (sym (stack_newest shape v after (depth_at shape v s) deeper)
      ∙ given_stack shape v e s lent (omega (arith, lent.numbered, h.in_range.state.limits.few_numbers)) (pushed_byte shape v s e o.offered))

  given_in : {i : ℕ} → i < depth_at shape v after → i < suc (depth_at shape v s)
  given_in d = rw (given_depth shape v e s lent ∙ add-one (depth_at shape v s)) at d

  below_running : (i : ℕ) → i < depth_at shape v s → entry.priority.0 < priority_at shape v i s
  below_running i d = go (depth_at shape v s) refl
    where
      below : entry.priority.0 < running shape v s
      below = pushed_below shape v s e o.offered

      go : (k : ℕ) → depth_at shape v s ≡ k → entry.priority.0 < priority_at shape v i s
      go zero p = absurd (omega (arith, p, d))
      go (suc k) p =
          let top = running_newest shape v s h.orderly o.exists k p in
          same_or i k (λ q. rw q (omega (arith, below, top)))
          (λ q. omega (arith, below, top, h.orderly.falling v i k o.exists (omega (arith, d, p, q)) (omega (arith, p))))

  below_idle_one : entry.priority.0 < idle_priority
  below_idle_one = go (depth_at shape v s) refl
    where
      go : (k : ℕ) → depth_at shape v s ≡ k → entry.priority.0 < idle_priority
      go zero p = omega (arith, pushed_below shape v s e o.offered, ap running_of (stack_empty shape v s p))
      go (suc k) p = omega (arith, below_running k (omega (arith, p)), h.orderly.below_idle v k o.exists (omega (arith, p)))

  entry_kept : (i : ℕ) → i < depth_at shape v s → word_at shape (Stack v i) after ≡ word_at shape (Stack v i) s
  entry_kept i d =
      given_others shape v e s lent (Stack v i) (o.exists, omega (arith, d, o.room))
      (apart_record (Stack v i) v n refl) (kinds_apart (Stack v i) (Sources v n) refl)
      (kinds_apart (Stack v i) (Interface v Depth) refl) (λ p. let q : i ≡ depth_at shape v s = cc in omega (arith, q, d))

  priority_new : priority_at shape v (depth_at shape v s) after ≡ entry.priority.0
  priority_new = ap (λ (x : Entry). x.priority.0) newest

  -- an entry is the new one or an older one
  given_stack_fine : StackFine shape v after
  given_stack_fine = record {
    falling = λ i j k d.
        last_or j (depth_at shape v s) (given_in d)
        (λ p. rw (p, priority_new, entry_kept i (omega (arith, k, p))) (below_running i (omega (arith, k, p))))
        (λ old. rw (entry_kept j old, entry_kept i (omega (arith, k, old))) (h.orderly.falling v i j o.exists k old));
    below_idle = λ i d.
        last_or i (depth_at shape v s) (given_in d) (λ p. rw (p, priority_new) below_idle_one) (λ old. rw (entry_kept i old) (h.orderly.below_idle v i o.exists old));
    even = λ i d.
        last_or i (depth_at shape v s) (given_in d) (λ p. rw (p, priority_new) (pushed_even shape v s e)) (λ old. rw (entry_kept i old) (h.orderly.even v i o.exists old));
    numbered = λ i d.
        last_or i (depth_at shape v s) (given_in d)
        (λ p. rw p (subst (λ (x : Entry). x.intid.0 < shape.limit) (sym newest) lent.numbered))
        (λ old. rw (entry_kept i old) (h.numbered v i o.exists old));
  }

  -- the record: given, and if it is an SGI with sources left, pending again
  taken_fine : (b : Bool) → Fine shape v n (cond b (given_record v (record_at shape v n s)) (set_pending (given_record v (record_at shape v n s)) true))
  taken_fine true = given_fine old o.exists
  taken_fine false = pended_fine true (given_fine old o.exists)

  given_record_fine : Fine shape v n (record_at shape v n after)
  given_record_fine = go (ltb n 16) refl
    where
      go : (b : Bool) → ltb n 16 ≡ b → Fine shape v n (record_at shape v n after)
      go true p = rw (given_sgi shape v e s lent (ltb-true n 16 p)) (taken_fine (eqb (sources_at shape v n after) 0))
      go false p = rw (given_record_lem shape v e s lent (ltb-false n 16 p)) (given_fine old o.exists)

  given_sgi_fine : n < 16 → SgiFine shape v n after
  unfolding given_record synchronize_inflight set_state set_owner mark_inflight set_pending
  given_sgi_fine sgi = record {
    sourced = ap (λ (r : InterruptRecord). r.pending) (given_sgi shape v e s lent sgi) ∙ go (eqb (sources_at shape v n after) 0);
  }
    where
      go : (b : Bool) → (cond b (given_record v (record_at shape v n s)) (set_pending (given_record v (record_at shape v n s)) true)).pending ≡ not b
      go true = old.lawful.sgi_unnoted sgi
      go false = refl

  pub given_lawful : Lawful shape after
  given_lawful =
      one_number shape s h (Given v e) o v n there_given touched
      (λ u b. same_or u v (λ p. rw p given_stack_fine)
      (λ d. stack shape s h (Given v e) o u b (no_stack (Interface u Depth) refl refl (λ q. d (stack_vcpu v u (Interface u Depth) refl q))) (λ i. no_stack (Stack u i) refl refl (λ q. d (stack_vcpu v u (Stack u i) refl q)))))
      given_record_fine given_sgi_fine
    where
      touched : (t : Slot) → (StackOf v t → ⊥) → Touches (Given v e) t → Of v n t
      touched t off (inl p) = p
      touched t off (inr p) = absurd (off p)

      no_stack : (t : Slot) → is_record t ≡ false → is_sources t ≡ false → (StackOf v t → ⊥) → Touches (Given v e) t → ⊥
      no_stack t a b c (inl p) = no_number v n t a b p
      no_stack t a b c (inr p) = c p
