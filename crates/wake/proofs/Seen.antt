-- Whom a change of one record can wake: those alone whom the record is for, a private one's vCPU, and of an SPI those whom its mask names. Their byte is
-- what ITARGETSR reads of the number. In any words. Assumes nothing.
use Rattle.std.specs.Prelude.{Some}
use mathlib.Core.Path.{◌≡◌, refl, sym, ap, subst, ◌∙◌}
use mathlib.Core.Bool.{Bool, true, false, true≢false}
use mathlib.Core.List.{List}
use mathlib.Core.Logic.{inl}
use Prim.Native.Nat.{ℕ, ◌/◌, ◌%◌, ◌^◌, ◌≤◌, ◌<◌}
use native.Mathlib.Nat.{one-mul}
use native.Mathlib.Omega.{arith}
use lib.Dec.{eqb, ltb}
use lib.Pow.{shl-shr}
use borrow.Author.Tests.{lt-ltb, le-ltb, ltb-true, ltb-false}
use Rattle.interrupt.specs.declared.record.InterruptRecord.{InterruptRecord}
use Rattle.word.specs.Word.{record_of, word_of, InRange}
use Rattle.word.proofs.RecordWord.{decoded_in_range}
use Rattle.state.specs.declared.layout.Shape.{Shape}
use Rattle.state.specs.Layout.{Slot}
use Rattle.state.specs.Words.{word_at, record_slot, RecordThere, record_at, changed}
use Rattle.state.proofs.Accessors.{record_exists, record_spi, record_same, records_apart}
use Rattle.state.proofs.Numbers.{one_vcpu}
use Rattle.word.proofs.Cases.{same_or}
use Rattle.targets.specs.Targets.{own_byte, read_target}
use Rattle.select.specs.Select.{offered}
use Rattle.service.specs.Service.{Sound}
use Rattle.wake.specs.Wake.{woken}
use Rattle.select.specs.declared.Candidate.{Candidate}
use Rattle.acknowledge.specs.Acknowledge.{offer}
use Rattle.wake.proofs.Unseen.{Unseen, unseen_none, unseen_kept, unseen_wakes_not, only_that_record_wakes}

-- a vCPU's own byte has its bit
pub own_bit : (v u : ℕ) → v < 8 → eqb (own_byte v / 2 ^ u % 2) 1 ≡ false → v ≡ u → ⊥
own_bit v u few e p =
    let whole : 2 ^ v / 2 ^ v ≡ 1 = rw one-mul at (shl-shr 1 v) in
    true≢false (sym (simp (lt-ltb v 8 few, ← p, whole)) ∙ e)

-- an SPI has one record for all
pub record_for_all : (shape : Shape) (v u n : ℕ) (s : List ℕ) → 32 ≤ n → record_at shape u n s ≡ record_at shape v n s
record_for_all shape v u n s high = ap (λ (t : Slot). record_of (word_at shape t s)) (record_spi u n (le-ltb n 32 high) ∙ sym (record_spi v n (le-ltb n 32 high)))

-- a change of one record is seen of that record alone
one_record_unseen : (shape : Shape) (v n : ℕ) (f : InterruptRecord → InterruptRecord) (s : List ℕ) → Sound shape s → RecordThere shape v n → (u : ℕ)
    → Unseen shape u (record_slot v n) s (changed shape v n f s)
one_record_unseen shape v n f s h there u =
    unseen_kept shape u (record_slot v n) s (record_slot v n) (word_of (f (record_at shape v n s))) s (record_exists shape v n there) (inl refl) (unseen_none shape u (record_slot v n) s h.state)

module _ (shape : Shape) (v u n : ℕ) (s : List ℕ) (others : eqb (read_target shape v s n / 2 ^ u % 2) 1 ≡ false) where
  -- a private record is another's
  pub private_apart : v < 8 → n < 32 → v ≡ u → ⊥
  unfolding read_target
  private_apart few low = own_bit v u few (rw (lt-ltb n 32 low) at others)

  -- an SPI's record with the mask as it was is not for u
  pub masked_out : (x : InterruptRecord) → x.cpu_target_mask ≡ (record_at shape v n s).cpu_target_mask → 32 ≤ n → n < shape.limit → offered u n x ≡ false
  unfolding read_target
  masked_out x same high below = rw (le-ltb n 32 high, same) (rw (le-ltb n 32 high, lt-ltb n shape.limit below) at others)

  -- so it is for u in no way
  pub not_for_it : u < 8 → (r : List ℕ) → (32 ≤ n → n < shape.limit → (record_at shape v n r).cpu_target_mask ≡ (record_at shape v n s).cpu_target_mask)
      → (m : ℕ) → m < shape.limit → record_slot u m ≡ record_slot v n → offered u m (record_at shape u m r) ≡ false
  not_for_it few r mask m below p =
      let number : m ≡ n = same_or m n (λ e. e) (λ d. absurd (records_apart u v m n d p)) in
      subst (λ (k : ℕ). offered u k (record_at shape u k r) ≡ false) (sym number) (at (rw number at below) (rw number at p))
    where
      at : n < shape.limit → record_slot u n ≡ record_slot v n → offered u n (record_at shape u n r) ≡ false
      at inside q = go (ltb n 32) refl
        where
          go : (b : Bool) → ltb n 32 ≡ b → offered u n (record_at shape u n r) ≡ false
          go true e =
              let low = ltb-true n 32 e in
              let own : v ≡ u = one_vcpu v u n (record_slot v n) low (inl refl) (inl (sym q)) in
              absurd (private_apart (omega arith) low own)
          go false e =
              let high = ltb-false n 32 e in
              masked_out (record_at shape u n r) (ap (λ (x : InterruptRecord). x.cpu_target_mask) (record_for_all shape v u n r high) ∙ mask high inside) high inside

-- the law: f is a transition that leaves the mask
pub one_record_wakes : (shape : Shape) (v n : ℕ) (f : InterruptRecord → InterruptRecord) (s : List ℕ) → Sound shape s → RecordThere shape v n
    → ((r : InterruptRecord) → InRange r → InRange (f r)) → ((r : InterruptRecord) → (f r).cpu_target_mask ≡ r.cpu_target_mask)
    → (u : ℕ) → u < shape.count → eqb (read_target shape v s n / 2 ^ u % 2) 1 ≡ false → woken shape s (changed shape v n f s) u ≡ false
one_record_wakes shape v n f s h there ranged mask u exists others =
    let slot = record_exists shape v n there in
    let few : u < 8 = omega (arith, h.state.limits.few_vcpus) in
    let old = record_at shape v n s in
    let after = record_same shape s v n (f old) h.state slot (ranged old (decoded_in_range (word_at shape (record_slot v n) s))) in
    unseen_wakes_not shape u v n s (changed shape v n f s) exists (h.depths u exists) (one_record_unseen shape v n f s h there u) h.state.limits
    (not_for_it shape v u n s others few (changed shape v n f s) (λ high below. ap (λ (r : InterruptRecord). r.cpu_target_mask) after ∙ mask old))

-- and of those only whoever is then offered it: any transition, a change of the mask too
pub one_record_alone_wakes : (shape : Shape) (v n : ℕ) (f : InterruptRecord → InterruptRecord) (s : List ℕ) → Sound shape s → RecordThere shape v n → (u : ℕ) → u < shape.count
    → woken shape s (changed shape v n f s) u ≡ true → (c : Candidate) → offer shape u (changed shape v n f s) ≡ Some c → record_slot u c.intid.0 ≡ record_slot v n
one_record_alone_wakes shape v n f s h there u exists =
    only_that_record_wakes shape u v n s (changed shape v n f s) exists (h.depths u exists) (one_record_unseen shape v n f s h there u) h.state.limits there
