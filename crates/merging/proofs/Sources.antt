-- A byte of CPENDSGIR or SPENDSGIR written twice. SPENDSGIR's bytes add up in any words that hold a state; CPENDSGIR's where a source that is set pends
-- its SGI, which demand 3 has: an SGI that is level with its line high, sourced and not pending, is pended by the first byte if that leaves a source, and
-- stays so. Assumes nothing.
use mathlib.Core.Path.{◌≡◌, refl, sym, ap, ◌∙◌}
use mathlib.Core.Bool.{Bool, true, false, not, cond, ◌&&◌, true≢false}
use mathlib.Core.List.{List}
use mathlib.Core.Logic.{inl}
use Prim.Native.Nat.{ℕ, ◌-◌, ◌%◌, ◌<◌}
use native.Mathlib.Omega.{arith}
use lib.Bits.{bit_or, or_zero_l, or_zero_r, and_zero_l}
use lib.Dec.{eqb}
use borrow.Author.Tests.{ne_eqb}
use Rattle.interrupt.specs.Types.{every_vcpu, is_level}
use Rattle.interrupt.specs.With.{with_pending, with_redelivery}
use Rattle.interrupt.specs.Record.{held, set_pending}
use Rattle.interrupt.specs.declared.record.InterruptRecord.{InterruptRecord}
use Rattle.register.specs.declared.ranges.BitRegister.TheVariants.{Icpendr}
use Rattle.word.specs.Word.{record_of, word_of}
use Rattle.word.proofs.Cases.{same_or}
use Rattle.word.proofs.RecordWord.{decoded_in_range}
use Rattle.state.specs.declared.layout.Shape.{Shape}
use Rattle.state.specs.Layout.{Slot, Sources, Exists, Limits, Room}
use Rattle.state.specs.Words.{word_at, put, record_slot, record_at, sources_at}
use Rattle.state.proofs.Accessors.{put_room, put_other, record_same, sources_same, record_no_sources}
use Rattle.state.proofs.Numbers.{Of}
use Rattle.state.proofs.Ready.{put_put, put_comm}
use Rattle.state.proofs.Steps.{Agree}
use Rattle.sgi.specs.Sgi.{sourced, merged_sources, write_sources}
use Rattle.sgi.proofs.Rings.{sgi_exists, same_sources, merged_fits, pended}
use Rattle.merging.proofs.Bits.{act_again}
use Rattle.merging.proofs.Joined.{merged_again, some_right}

-- a source that is set pends its SGI
abbrev pub Pends : Shape → ℕ → ℕ → List ℕ → Type 0
Pends shape v n s = (sources_at shape v n s ≡ 0 → ⊥) → (record_at shape v n s).pending ≡ true

-- pending by what is left, and then by what is left of that
pend_again : (p q : Bool) (r : InterruptRecord) → (p ≡ true → q ≡ false → r.pending ≡ true) → (p ≡ false → q ≡ false) → set_pending (set_pending r p) q ≡ set_pending r q
unfolding set_pending held
pend_again true true r on off = refl
pend_again true false r on off =
    ap (λ (b : Bool). with_redelivery false (with_pending (cond (is_level r.trigger && r.line_asserted) b false) r)) (sym (on refl refl))
pend_again false true r on off = absurd (true≢false (off refl))
pend_again false false r on off = act_again Icpendr 0 0 r

some : (x : ℕ) → not (eqb x 0) ≡ true → x ≡ 0 → ⊥
some x e p = true≢false (sym e ∙ rw p)

none : (x : ℕ) → not (eqb x 0) ≡ false → x ≡ 0
none x e = same_or x 0 (λ p. p) (λ d. absurd (true≢false (sym (ap not (ne_eqb x 0 d)) ∙ e)))

module _ (shape : Shape) (v n : ℕ) (l : Limits shape) (e : Exists shape (Sources v n)) where
  abbrev own : Slot
  own = record_slot v n

  there : Exists shape own
  there = sgi_exists shape v n l e

  pub pends_kept : (s r : List ℕ) → Agree shape (Of v n) r s → Pends shape v n s → Pends shape v n r
  pends_kept s r a p d = ap (λ (w : ℕ). (record_of w).pending) (a.agree own there (inl refl)) ∙ p (λ z. d (same_sources shape v n l e r s a ∙ z))

  -- a set, and the record that it pends or not
  abbrev pub both : ℕ → List ℕ → List ℕ
  both x s = put shape own (word_of (set_pending (record_at shape v n s) (not (eqb x 0)))) (put shape (Sources v n) x s)

  pub record_behind : (x : ℕ) (s : List ℕ) → record_at shape v n (put shape (Sources v n) x s) ≡ record_at shape v n s
  record_behind x s = ap record_of (put_other shape s own (Sources v n) x there e (record_no_sources v n v n))

  pub both_room : (x : ℕ) (s : List ℕ) → Room shape s → Room shape (both x s)
  both_room x s h = put_room shape (put shape (Sources v n) x s) own _ (put_room shape s (Sources v n) x h)

  pub sourced_both : (x : ℕ) → x < 256 → (s : List ℕ) → Room shape s → sourced shape v n x s ≡ both x s
  sourced_both x b s h =
      λ i. put shape own (word_of (set_pending (record_behind x s i) (not (eqb (sources_same shape s v n x h e b i) 0)))) (put shape (Sources v n) x s)

  pub both_record : (x : ℕ) (s : List ℕ) → Room shape s → record_at shape v n (both x s) ≡ set_pending (record_at shape v n s) (not (eqb x 0))
  both_record x s h =
      record_same shape (put shape (Sources v n) x s) v n (set_pending (record_at shape v n s) (not (eqb x 0))) (put_room shape s (Sources v n) x h) there
      (pended shape v n s h e (not (eqb x 0)) (record_at shape v n s) (decoded_in_range (word_at shape own s)))

  pub both_sources : (x : ℕ) → x < 256 → (s : List ℕ) → Room shape s → sources_at shape v n (both x s) ≡ x
  both_sources x b s h =
      ap (λ (w : ℕ). w % 256) (put_other shape (put shape (Sources v n) x s) (Sources v n) own _ e there (λ p. record_no_sources v n v n (sym p)))
      ∙ sources_same shape s v n x h e b

  both_twice : (x y : ℕ) (s : List ℕ) → Room shape s
      → set_pending (set_pending (record_at shape v n s) (not (eqb x 0))) (not (eqb y 0)) ≡ set_pending (record_at shape v n s) (not (eqb y 0)) → both y (both x s) ≡ both y s
  both_twice x y s h same =
      ap (λ (r : InterruptRecord). put shape own (word_of (set_pending r (not (eqb y 0)))) (put shape (Sources v n) y (both x s))) (both_record x s h)
      ∙ ap (λ (r : InterruptRecord). put shape own (word_of r) (put shape (Sources v n) y (both x s))) same
      ∙ ap (put shape own (word_of (set_pending (record_at shape v n s) (not (eqb y 0))))) behind
      ∙ put_put shape (put shape (Sources v n) y s) (put_room shape s (Sources v n) y h) own first (word_of (set_pending (record_at shape v n s) (not (eqb y 0)))) there
    where
      first : ℕ
      first = word_of (set_pending (record_at shape v n s) (not (eqb x 0)))

      behind : put shape (Sources v n) y (both x s) ≡ put shape own first (put shape (Sources v n) y s)
      behind =
          put_comm shape (put shape (Sources v n) x s) (put_room shape s (Sources v n) x h) own (Sources v n) first y there e (record_no_sources v n v n)
          ∙ ap (put shape own first) (put_put shape s h (Sources v n) x y e)

  -- a byte and then another
  module _ (on : Bool) (x y : ℕ) (bx : x < 256) (b-y : y < 256) (s : List ℕ) (h : Room shape s) (pends : on ≡ false → Pends shape v n s) where
    abbrev start : ℕ
    start = sources_at shape v n s

    left : (set : Bool) → on ≡ set → merged_sources set start x ≡ 0 → (x ≡ 0 → ⊥) → merged_sources set (merged_sources set start x) y ≡ 0
    left true p e some-x = absurd (some_right start x some-x e)
    left false p e some-x = rw e (and_zero_l (every_vcpu - y))

    waits : (set : Bool) → on ≡ set → (merged_sources set start x ≡ 0 → ⊥) → merged_sources set (merged_sources set start x) y ≡ 0 → (y ≡ 0 → ⊥) → (record_at shape v n s).pending ≡ true
    waits true p d e some-y = absurd (some_right (bit_or start x) y some-y e)
    waits false p d e some-y = pends p (λ z. d (rw z (and_zero_l (every_vcpu - x))))

    pub sources_twice : write_sources shape v n on y (write_sources shape v n on x s) ≡ write_sources shape v n on (bit_or x y) s
    unfolding write_sources
    sources_twice = same_or x 0 (λ p. rw (p, or_zero_l y)) (λ dx. same_or y 0 (λ q. rw (q, or_zero_r x)) (λ dy. some_both dx dy))
      where
        X : ℕ
        X = merged_sources on start x

        Y : ℕ
        Y = merged_sources on X y

        fits_X : X < 256
        fits_X = merged_fits on start x (omega arith) bx

        fits_Y : Y < 256
        fits_Y = merged_fits on X y fits_X b-y

        again : (x ≡ 0 → ⊥) → (y ≡ 0 → ⊥) → set_pending (set_pending (record_at shape v n s) (not (eqb X 0))) (not (eqb Y 0)) ≡ set_pending (record_at shape v n s) (not (eqb Y 0))
        again dx dy =
            pend_again (not (eqb X 0)) (not (eqb Y 0)) (record_at shape v n s) (λ p q. waits on refl (some X p) (none Y q) dy) (λ p. ap (λ (z : ℕ). not (eqb z 0)) (left on refl (none X p) dx))

        joined : (x ≡ 0 → ⊥) → (y ≡ 0 → ⊥)
            → sourced shape v n (merged_sources on (sources_at shape v n (sourced shape v n X s)) y) (sourced shape v n X s) ≡ sourced shape v n (merged_sources on start (bit_or x y)) s
        joined dx dy =
            ap (λ (r : List ℕ). sourced shape v n (merged_sources on (sources_at shape v n r) y) r) (sourced_both X fits_X s h)
            ∙ ap (λ (z : ℕ). sourced shape v n (merged_sources on z y) (both X s)) (both_sources X fits_X s h)
            ∙ sourced_both Y fits_Y (both X s) (both_room X s h)
            ∙ both_twice X Y s h (again dx dy)
            ∙ sym (sourced_both Y fits_Y s h)
            ∙ ap (λ (z : ℕ). sourced shape v n z s) (merged_again on start x y (omega arith) bx b-y)

        some_both : (x ≡ 0 → ⊥) → (y ≡ 0 → ⊥) → write_sources shape v n on y (write_sources shape v n on x s) ≡ write_sources shape v n on (bit_or x y) s
        some_both dx dy = simp (ne_eqb x 0 dx, ne_eqb y 0 dy, ne_eqb (bit_or x y) 0 (some_right x y dy)) (joined dx dy)
