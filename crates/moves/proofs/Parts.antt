-- A lawful state in parts: each vCPU's stack, each record, each SGI with its sources, and the summary; what leaves a part's slots leaves the part. Assumes nothing.
use mathlib.Core.Path.{◌≡◌, refl, sym, subst}
use mathlib.Core.Bool.{not}
use mathlib.Core.List.{List}
use mathlib.Core.Logic.{inl, inr}
use Prim.Native.Nat.{ℕ, ◌%◌, ◌<◌}
use native.Mathlib.Omega.{arith}
use lib.Dec.{eqb}
use Rattle.interrupt.specs.Types.{idle_priority}
use Rattle.word.specs.Word.{record_of}
use Rattle.word.proofs.Cases.{same_or}
use Rattle.state.specs.declared.layout.Shape.{Shape}
use Rattle.state.specs.declared.layout.InterfaceValue.TheVariants.{Depth}
use Rattle.state.specs.Layout.{Slot, Count, Limit, Interface, Sources, Stack, Room, stack_capacity}
use Rattle.state.specs.Lent.{shaped}
use Rattle.state.specs.Words.{word_at, record_slot, RecordThere, record_at, sources_at, entry_at, Exact}
use Rattle.state.proofs.Accessors.{record_exists, same_or_other, records_apart}
use Rattle.state.proofs.Numbers.{Of, one_vcpu}
use Rattle.state.proofs.SlotKinds.{apart_record}
use Rattle.service.specs.Service.{depth_at}
use Rattle.lawful.specs.Lawful.{priority_at, Orderly, Lawful}
use Rattle.lawful.proofs.Depths.{at_most_capacity}
use Rattle.moves.proofs.Records.{Fine, fine_for}

-- what is asked of a stack
pub record StackFine (shape : Shape) (v : ℕ) (s : List ℕ) : Type 0 where
  pub falling : (i j : ℕ) → i < j → j < depth_at shape v s → priority_at shape v j s < priority_at shape v i s
  pub below_idle : (i : ℕ) → i < depth_at shape v s → priority_at shape v i s < idle_priority
  pub even : (i : ℕ) → i < depth_at shape v s → priority_at shape v i s % 2 ≡ 0
  pub numbered : (i : ℕ) → i < depth_at shape v s → (entry_at shape v i s).intid.0 < shape.limit

-- and of an SGI with its sources
pub record SgiFine (shape : Shape) (v n : ℕ) (s : List ℕ) : Type 0 where
  pub sourced : (record_at shape v n s).pending ≡ not (eqb (sources_at shape v n s) 0)

module _ (shape : Shape) (s : List ℕ) (h : Lawful shape s) where
  pub record_fine : (v n : ℕ) → RecordThere shape v n → Fine shape v n (record_at shape v n s)
  record_fine v n there = record { orderly = h.orderly.records v n there; lawful = h.records v n there }

-- .. and back
module _ (shape : Shape) (r : List ℕ)
    (room : Room shape r) (stored : shape ≡ shaped (word_at shape Count r) (word_at shape Limit r))
    (stacks : (v : ℕ) → v < shape.count → StackFine shape v r)
    (records : (v n : ℕ) → RecordThere shape v n → Fine shape v n (record_at shape v n r))
    (sgis : (v n : ℕ) → v < shape.count → n < 16 → SgiFine shape v n r)
    (summary : Exact shape r) where
  orderly : Orderly shape r
  orderly = record {
    falling = λ v i j b k d. (stacks v b).falling i j k d;
    below_idle = λ v i b d. (stacks v b).below_idle i d;
    even = λ v i b d. (stacks v b).even i d;
    records = λ v n there. (records v n there).orderly;
    sourced = λ v n b sgi. (sgis v n b sgi).sourced;
    summary = summary;
  }

  pub parts_lawful : Lawful shape r
  parts_lawful = record {
    orderly = orderly;
    records = λ v n there. (records v n there).lawful;
    numbered = λ v i b d. (stacks v b).numbered i d;
    in_range = record { stored = stored; state = room; depths = λ v b. at_most_capacity shape v r orderly b };
  }

-- a stack whose words stay
module _ (shape : Shape) (v : ℕ) (s r : List ℕ) (h : Lawful shape s) (exists : v < shape.count)
    (depth : word_at shape (Interface v Depth) r ≡ word_at shape (Interface v Depth) s)
    (words : (i : ℕ) → i < stack_capacity → word_at shape (Stack v i) r ≡ word_at shape (Stack v i) s) where
  pub stack_kept : StackFine shape v r
  stack_kept = record {
    falling = λ i j k d. rw (entry j (depth_in d), entry i (omega (arith, k, depth_in d))) (h.orderly.falling v i j exists k (depth_in d));
    below_idle = λ i d. rw (entry i (depth_in d)) (h.orderly.below_idle v i exists (depth_in d));
    even = λ i d. rw (entry i (depth_in d)) (h.orderly.even v i exists (depth_in d));
    numbered = λ i d. rw (entry i (depth_in d)) (h.numbered v i exists (depth_in d));
  }
    where
      depth_in : {i : ℕ} → i < depth_at shape v r → i < depth_at shape v s
      depth_in d = rw depth at d

      entry : (i : ℕ) → i < depth_at shape v s → word_at shape (Stack v i) r ≡ word_at shape (Stack v i) s
      entry i d = words i (omega (arith, d, at_most_capacity shape v s h.orderly exists))

-- records and SGIs of which at most one number's slots change
module _ (shape : Shape) (s r : List ℕ) (h : Lawful shape s) where
  record_same : (v n : ℕ) → word_at shape (record_slot v n) r ≡ word_at shape (record_slot v n) s → RecordThere shape v n → Fine shape v n (record_at shape v n r)
  record_same v n p there = subst (λ (w : ℕ). Fine shape v n (record_of w)) (sym p) (record_fine shape s h v n there)

  sgi_same : (v n : ℕ) → word_at shape (record_slot v n) r ≡ word_at shape (record_slot v n) s → word_at shape (Sources v n) r ≡ word_at shape (Sources v n) s
      → v < shape.count → n < 16 → SgiFine shape v n r
  sgi_same v n p q b sgi = record { sourced = rw (p, q) (h.orderly.sourced v n b sgi) }

  module _ (v n : ℕ) (there : RecordThere shape v n)
      (others : (u m : ℕ) → RecordThere shape u m → (record_slot u m ≡ record_slot v n → ⊥) → word_at shape (record_slot u m) r ≡ word_at shape (record_slot u m) s)
      (fine : Fine shape v n (record_at shape v n r)) where
    pub records_kept : (u m : ℕ) → RecordThere shape u m → Fine shape u m (record_at shape u m r)
    records_kept u m x =
        same_or_other shape s (record_slot u m) (record_slot v n) (record_exists shape u m x) (record_exists shape v n there)
        (λ p.
        let e : m ≡ n = same_or m n (λ q. q) (λ d. absurd (records_apart u v m n d p)) in
        subst (λ (k : ℕ). Fine shape u k (record_at shape u k r)) (sym e)
        (subst (λ (t : Slot). Fine shape u n (record_of (word_at shape t r))) (sym (subst (λ (k : ℕ). record_slot u k ≡ record_slot v n) e p))
        (fine_for u (λ low. one_vcpu u v n (record_slot u n) low (inl refl) (inl (subst (λ (k : ℕ). record_slot u k ≡ record_slot v n) e p))) fine)))
        (λ away. record_same u m (others u m x away) x)

    -- an SGI is another one, or the one that changed
    pub sgis_kept : ((u m : ℕ) → u < shape.count → m < 16 → (Of v n (Sources u m) → ⊥) → word_at shape (Sources u m) r ≡ word_at shape (Sources u m) s)
        → (n < 16 → SgiFine shape v n r) → (u m : ℕ) → u < shape.count → m < 16 → SgiFine shape u m r
    sgis_kept sources own u m b sgi =
        same_or m n
        (λ p. same_or u v
        (λ q. rw (p, q) (own (rw p at sgi)))
        (λ d. untouched (λ q. d (one_vcpu u v m (record_slot u m) (omega (arith, sgi)) (inl refl) (inl (subst (λ (k : ℕ). record_slot u m ≡ record_slot v k) (sym p) q)))) (λ q. d (cc))))
        (λ d. untouched (λ q. records_apart u v m n d q) (λ q. d (cc)))
      where
        untouched : (record_slot u m ≡ record_slot v n → ⊥) → (Sources u m ≡ Sources v n → ⊥) → SgiFine shape u m r
        untouched a c =
            let x : RecordThere shape u m = record { numbered = omega (arith, sgi, h.in_range.state.limits.private_numbers_lem); banked = λ low. b } in
            sgi_same u m (others u m x a) (sources u m b sgi (apart c)) b sgi
          where
            apart : (Sources u m ≡ Sources v n → ⊥) → Of v n (Sources u m) → ⊥
            apart c (inl p) = apart_record (Sources u m) v n refl p
            apart c (inr p) = c p

  -- .. or none's
  pub all_records : ((v n : ℕ) → RecordThere shape v n → word_at shape (record_slot v n) r ≡ word_at shape (record_slot v n) s) → (v n : ℕ) → RecordThere shape v n → Fine shape v n (record_at shape v n r)
  all_records all v n there = record_same v n (all v n there) there

  pub all_sgis : ((v n : ℕ) → RecordThere shape v n → word_at shape (record_slot v n) r ≡ word_at shape (record_slot v n) s)
      → ((v n : ℕ) → v < shape.count → n < 16 → word_at shape (Sources v n) r ≡ word_at shape (Sources v n) s) → (v n : ℕ) → v < shape.count → n < 16 → SgiFine shape v n r
  all_sgis all sources v n b sgi =
      sgi_same v n (all v n (record { numbered = omega (arith, sgi, h.in_range.state.limits.private_numbers_lem); banked = λ low. b })) (sources v n b sgi) b sgi
