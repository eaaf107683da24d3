-- Words that hold a state pass the test of LawfulTest.antt exactly if they are lawful. Assumes nothing.
use Rattle.std.specs.Prelude.{Option, Some, None}
use mathlib.Core.Path.{◌≡◌, refl, sym, ap, ◌∙◌}
use mathlib.Core.Bool.{Bool, true, false, not, ◌&&◌, true≢false, false≢true}
use mathlib.Core.List.{List}
use Prim.Native.Nat.{ℕ, zero, suc, ◌+◌, ◌-◌, ◌%◌, ◌^◌, ◌≤◌, ◌<◌}
use native.Mathlib.Omega.{arith}
use lib.Dec.{eqb, ltb}
use lib.Pow.{pow_pos}
use borrow.Author.Tests.{lt-ltb, le-ltb, ltb-true, ltb-false, eqb-true, eq-eqb, not-true, not-false}
use Rattle.interrupt.specs.Record.{is_ready}
use Rattle.interrupt.specs.Types.{is_level, idle_priority}
use Rattle.interrupt.specs.declared.record.InterruptRecord.{InterruptRecord}
use Rattle.interrupt.specs.declared.types.TriggerMode.{TriggerMode}
use Rattle.interrupt.specs.declared.types.TriggerMode.TheVariants.{Level, Edge}
use Rattle.word.specs.Word.{record_of, mask_byte}
use Rattle.word.proofs.Cases.{last_or}
use Rattle.state.specs.declared.layout.Shape.{Shape}
use Rattle.state.specs.Lent.{HoldsState}
use Rattle.state.specs.Loop.{every_below}
use Rattle.state.specs.Words.{word_at, record_slot, RecordThere, record_at, ready_bit, sources_at, entry_at, Exact}
use Rattle.state.specs.Layout.{Slot, Spi}
use Rattle.state.proofs.Accessors.{record_spi}
use Rattle.state.proofs.Tests.{left_true, right_true, not_below, every_at, every_true}
use Rattle.service.specs.Service.{depth_at, stack_to, running_of}
use Rattle.lawful.specs.Lawful.{priority_at, Charged, OrderlyRecord, LawfulRecord, Lawful}
use Rattle.lawful_test.specs.LawfulTest.{implied, owner_lawful, mask_lawful, sgi_lawful, record_lawful, sources_lawful, number_lawful, entry_lawful_at, stack_lawful, vcpu_lawful, says_same, bit_lawful, spi_passes, is_lawful}
use Rattle.interrupt.specs.declared.types.GicVcpuId.{GicVcpuId}

pub implied_holds : (a b : Bool) → (a ≡ true → b ≡ true) → implied a b ≡ true
implied_holds true b h = h refl
implied_holds false b h = refl

implied_gives : (a b : Bool) → implied a b ≡ true → a ≡ true → b ≡ true
implied_gives true b h e = h
implied_gives false b h e = absurd (false≢true e)

pub both_true : (a b : Bool) → a ≡ true → b ≡ true → (a && b) ≡ true
both_true true b p q = q
both_true false b p q = absurd (false≢true p)

private_or : {X : Type 0} (n : ℕ) → (n < 32 → X) → (32 ≤ n → X) → X
private_or {X} n low high = go (ltb n 32) refl
  where
    go : (b : Bool) → ltb n 32 ≡ b → X
    go true e = low (ltb-true n 32 e)
    go false e = high (ltb-false n 32 e)

module _ (shape : Shape) where
  -- what an owner is that passes
  record Owned (v n : ℕ) (inflight : Bool) (owner : Option GicVcpuId) : Type 0 where
    pub charged : inflight ≡ true → Charged shape owner
    pub own : n < 32 → inflight ≡ true → owner ≡ Some (record { 0 = v })
    pub idle : inflight ≡ false → owner ≡ None

  owner_passes : (v n : ℕ) (b : Bool) (o : Option GicVcpuId) → Owned v n b o → owner_lawful shape v n b o ≡ true
  owner_passes v n false None h = refl
  owner_passes v n true None h = absurd (h.charged refl)
  owner_passes v n false (Some u) h = let e = h.idle refl in let z : ◌≡◌ {A = ℕ} 0 1 = cc in absurd (omega arith)
  owner_passes v n true (Some u) h = private_or n (λ low. let e = h.own low refl in let q : u.0 ≡ v = cc in rw (lt-ltb n 32 low) (eq-eqb u.0 v q)) (λ high. rw (le-ltb n 32 high) (lt-ltb u.0 shape.count (h.charged refl)))

  passes_owner : (v n : ℕ) (b : Bool) (o : Option GicVcpuId) → (n < 32 → v < shape.count) → owner_lawful shape v n b o ≡ true → Owned v n b o
  passes_owner v n false None banked e = record { charged = λ f. absurd (false≢true f); own = λ low f. absurd (false≢true f); idle = λ f. refl }
  passes_owner v n true None banked e = absurd (false≢true e)
  passes_owner v n false (Some u) banked e = absurd (false≢true e)
  passes_owner v n true (Some u) banked e =
      private_or n
      (λ low. let q : u.0 ≡ v = eqb-true u.0 v (rw (lt-ltb n 32 low) at e) in
      record { charged = λ f. let b = banked low in omega arith; own = λ l f. ap (λ (x : ℕ). Some (record { 0 = x })) q; idle = λ f. absurd (true≢false f) })
      (λ high. record { charged = λ f. ltb-true u.0 shape.count (rw (le-ltb n 32 high) at e); own = λ low f. absurd (omega arith); idle = λ f. absurd (true≢false f) })

  record Masked (n : ℕ) (mask : Option ℕ) : Type 0 where
    pub existing : mask_byte mask < 2 ^ shape.count
    pub unmasked : n < 32 → mask ≡ None

  mask_passes : (n : ℕ) (m : Option ℕ) → Masked n m → mask_lawful shape n m ≡ true
  mask_passes n None h = refl
  mask_passes n (Some byte) h =
      private_or n (λ low. let e = h.unmasked low in let z : ◌≡◌ {A = ℕ} 0 1 = cc in absurd (omega arith))
      (λ high. simp (le-ltb n 32 high, lt-ltb byte (2 ^ shape.count) h.existing))

  passes_mask : (n : ℕ) (m : Option ℕ) → mask_lawful shape n m ≡ true → Masked n m
  passes_mask n None e = record { existing = pow_pos shape.count; unmasked = λ low. refl }
  passes_mask n (Some byte) e =
      record {
        existing = ltb-true byte (2 ^ shape.count) (right_true (not (ltb n 32)) (ltb byte (2 ^ shape.count)) e);
        unmasked = λ low. let high : 32 ≤ n = not_below n 32 (left_true (not (ltb n 32)) (ltb byte (2 ^ shape.count)) e) in absurd (omega arith);
      }

  -- a record
  module _ (v n : ℕ) (r : InterruptRecord) where
    record_passes : OrderlyRecord shape r → LawfulRecord shape v n r → record_lawful shape v n r ≡ true
    unfolding record_lawful
    record_passes o h =
        simp (
          implied_holds r.inflight r.active o.active,
          implied_holds r.redelivery_pending r.inflight o.noted,
          owner_passes v n r.inflight r.owner (record { charged = o.charged; own = h.own; idle = h.idle }),
          mask_passes n r.cpu_target_mask (record { existing = h.existing; unmasked = h.unmasked }),
        )
        (implied_holds (ltb n 16) _ (λ e. let sgi = ltb-true n 16 e in simp (h.sgi_edge sgi, h.sgi_low sgi, h.sgi_unnoted sgi)))

    pub record Passed : Type 0 where
      pub orderly : OrderlyRecord shape r
      pub lawful : LawfulRecord shape v n r

    edge_only : (t : TriggerMode) → not (is_level t) ≡ true → t ≡ Edge
    edge_only Edge e = refl
    edge_only Level e = absurd (false≢true e)

    pub passes_record : (n < 32 → v < shape.count) → record_lawful shape v n r ≡ true → Passed
    unfolding record_lawful
    passes_record banked e =
        let a = implied r.inflight r.active in
        let b = implied r.redelivery_pending r.inflight in
        let c = owner_lawful shape v n r.inflight r.owner in
        let d = mask_lawful shape n r.cpu_target_mask in
        let edge = not (is_level r.trigger) in
        let low = not r.line_asserted in
        let unnoted = not r.redelivery_pending in
        let abcd = left_true (a && b && c && d) (sgi_lawful n r) e in
        let abc = left_true (a && b && c) d abcd in
        let ab = left_true (a && b) c abc in
        let owned = passes_owner v n r.inflight r.owner banked (right_true (a && b) c abc) in
        let masked = passes_mask n r.cpu_target_mask (right_true (a && b && c) d abcd) in
        let sgi : n < 16 → (edge && low && unnoted) ≡ true = λ h. implied_gives (ltb n 16) (edge && low && unnoted) (right_true (a && b && c && d) (sgi_lawful n r) e) (lt-ltb n 16 h) in
        record {
          orderly = record { active = implied_gives r.inflight r.active (left_true a b ab); charged = owned.charged; noted = implied_gives r.redelivery_pending r.inflight (right_true a b ab) };
          lawful = record {
            sgi_edge = λ h. edge_only r.trigger (left_true edge low (left_true (edge && low) unnoted (sgi h)));
            sgi_low = λ h. not-true r.line_asserted (right_true edge low (left_true (edge && low) unnoted (sgi h)));
            sgi_unnoted = λ h. not-true r.redelivery_pending (right_true (edge && low) unnoted (sgi h));
            existing = masked.existing;
            unmasked = masked.unmasked;
            own = owned.own;
            idle = owned.idle;
          };
        }

-- the sources of an SGI
sources_pass : (x : ℕ) (b : Bool) → b ≡ not (eqb x 0) → sources_lawful x b ≡ true
sources_pass x true e = sym e
sources_pass x false e = not-false (eqb x 0) (sym e)

pass_sources : (x : ℕ) (b : Bool) → sources_lawful x b ≡ true → b ≡ not (eqb x 0)
pass_sources x true e = sym e
pass_sources x false e = rw e

-- a bit and what it should say
says_itself : (b : Bool) → says_same b b ≡ true
says_itself true = refl
says_itself false = refl

same_said : (a b : Bool) → says_same a b ≡ true → a ≡ b
same_said true b e = sym e
same_said false b e = sym (not-true b e)

-- a stack: it falls if each entry is below the one before it
module _ (shape : Shape) (v : ℕ) (s : List ℕ) where
  entry_passes : Lawful shape s → v < shape.count → (i : ℕ) → i < depth_at shape v s → entry_lawful_at shape v s i ≡ true
  unfolding stack_to
  entry_passes h exists i b =
      let p = priority_at shape v i s in
      let above = running_of (stack_to shape v s i) in
      both_true (ltb p above && eqb (p % 2) 0) _
      (both_true (ltb p above) _ (lt-ltb p above (below i b)) (eq-eqb (p % 2) 0 (h.orderly.even v i exists b)))
      (lt-ltb _ _ (h.numbered v i exists b))
    where
      below : (i : ℕ) → i < depth_at shape v s → priority_at shape v i s < running_of (stack_to shape v s i)
      below zero b = h.orderly.below_idle v zero exists b
      below (suc i) b = h.orderly.falling v i (suc i) exists (omega arith) b

  abbrev below : ℕ → Bool
  below i = ltb (priority_at shape v i s) (running_of (stack_to shape v s i))

  abbrev evenly : ℕ → Bool
  evenly i = eqb (priority_at shape v i s % 2) 0

  module _ (pass : stack_lawful shape v s ≡ true) where
    entry_pass : (i : ℕ) → i < depth_at shape v s → entry_lawful_at shape v s i ≡ true
    entry_pass i b = every_at (entry_lawful_at shape v s) (depth_at shape v s) i pass b

    priority_pass : (i : ℕ) → i < depth_at shape v s → priority_at shape v i s < running_of (stack_to shape v s i)
    priority_pass i b = ltb-true _ _ (left_true (below i) _ (left_true (below i && evenly i) _ (entry_pass i b)))

    pass_even : (i : ℕ) → i < depth_at shape v s → priority_at shape v i s % 2 ≡ 0
    pass_even i b = eqb-true _ _ (right_true (below i) _ (left_true (below i && evenly i) _ (entry_pass i b)))

    pass_numbered : (i : ℕ) → i < depth_at shape v s → (entry_at shape v i s).intid.0 < shape.limit
    pass_numbered i b = ltb-true _ _ (right_true (below i && evenly i) _ (entry_pass i b))

    pass_below_idle : (i : ℕ) → i < depth_at shape v s → priority_at shape v i s < idle_priority
    unfolding stack_to
    pass_below_idle zero b = priority_pass zero b
    pass_below_idle (suc i) b = omega (arith, pass_below_idle i (omega arith), priority_pass (suc i) b)

    pass_falling : (i j : ℕ) → i < j → j < depth_at shape v s → priority_at shape v j s < priority_at shape v i s
    unfolding stack_to
    pass_falling i zero h b = absurd (omega arith)
    pass_falling i (suc j) h b =
        last_or i j h (λ e. rw e (priority_pass (suc j) b)) (λ earlier. omega (arith, pass_falling i j earlier (omega arith), priority_pass (suc j) b))

-- a number: its record, and an SGI's sources
module _ (shape : Shape) (s : List ℕ) where
  pub number_passes : Lawful shape s → (v n : ℕ) → RecordThere shape v n → number_lawful shape v s n ≡ true
  unfolding number_lawful
  number_passes h v n there =
      both_true (record_lawful shape v n (record_at shape v n s)) _ (record_passes shape v n (record_at shape v n s) (h.orderly.records v n there) (h.records v n there))
      (implied_holds (ltb n 16) _ (λ e. let sgi = ltb-true n 16 e in sources_pass (sources_at shape v n s) (record_at shape v n s).pending (h.orderly.sourced v n (there.banked (omega arith)) sgi)))

  pub stack_passes : Lawful shape s → (v : ℕ) → v < shape.count → stack_lawful shape v s ≡ true
  stack_passes h v b = every_true (entry_lawful_at shape v s) (depth_at shape v s) (entry_passes shape v s h b)

  -- a bit that says what its record does
  spi_record : (n : ℕ) → 32 ≤ n → record_of (word_at shape (Spi n) s) ≡ record_at shape 0 n s
  spi_record n high = ap (λ (t : Slot). record_of (word_at shape t s)) (sym (record_spi 0 n (le-ltb n 32 high)))

  pub bit_passes : Exact shape s → (n : ℕ) → 32 ≤ n → n < shape.limit → bit_lawful shape s n ≡ true
  bit_passes x n high b = rw (x.exact n (high, b) ∙ ap is_ready (spi_record n high)) (says_itself (is_ready (record_at shape 0 n s)))

  passes_bit : (n : ℕ) → 32 ≤ n → bit_lawful shape s n ≡ true → ready_bit shape n s ≡ is_ready (record_of (word_at shape (Spi n) s))
  passes_bit n high e = same_said (ready_bit shape n s) (is_ready (record_at shape 0 n s)) e ∙ ap is_ready (sym (spi_record n high))

  pub lawful_passes : Lawful shape s → is_lawful shape s ≡ true
  unfolding is_lawful
  lawful_passes h =
      both_true (every_below (vcpu_lawful shape s) shape.count) _
      (every_true (vcpu_lawful shape s) shape.count (λ v b. both_true (stack_lawful shape v s) _
      (stack_passes h v b)
      (every_true (λ k. number_lawful shape v s (0 + k)) 32 (λ k low. number_passes h v (0 + k) (record { numbered = omega (arith, h.in_range.state.limits.private_numbers_lem); banked = λ x. b })))))
      (every_true (λ k. spi_passes shape s (32 + k)) (shape.limit - 32) (λ k c. both_true (number_lawful shape 0 s (32 + k)) _
      (number_passes h 0 (32 + k) (record { numbered = omega arith; banked = λ x. absurd (omega arith) }))
      (bit_passes h.orderly.summary (32 + k) (omega arith) (omega arith))))

  -- from 32 up a record is met alike by all
  owner_alike : (v n : ℕ) (b : Bool) (o : Option GicVcpuId) → 32 ≤ n → owner_lawful shape v n b o ≡ owner_lawful shape 0 n b o
  owner_alike v n b None h = refl
  owner_alike v n b (Some u) h = simp (le-ltb n 32 h)

  record_alike : (v n : ℕ) → 32 ≤ n → record_lawful shape v n (record_at shape v n s) ≡ record_lawful shape 0 n (record_at shape 0 n s)
  unfolding record_lawful record_slot
  record_alike v n h =
      let r = record_at shape 0 n s in
      let same : record_at shape v n s ≡ r = simp (le-ltb n 32 h) in
      rw same (simp (owner_alike v n r.inflight r.owner h))

  module _ (h : HoldsState shape s) (pass : is_lawful shape s ≡ true) where
    vcpus_pass : every_below (vcpu_lawful shape s) shape.count ≡ true
    unfolding is_lawful
    vcpus_pass = left_true (every_below (vcpu_lawful shape s) shape.count) _ pass

    stack_pass : (v : ℕ) → v < shape.count → stack_lawful shape v s ≡ true
    stack_pass v b = left_true (stack_lawful shape v s) _ (every_at (vcpu_lawful shape s) shape.count v vcpus_pass b)

    private_pass : (v n : ℕ) → v < shape.count → n < 32 → number_lawful shape v s n ≡ true
    private_pass v n b low =
        let all = right_true (stack_lawful shape v s) _ (every_at (vcpu_lawful shape s) shape.count v vcpus_pass b) in
        let same : 0 + n ≡ n = omega arith in
        rw same at (every_at (λ k. number_lawful shape v s (0 + k)) 32 n all low)

    spi_pass : (n : ℕ) → 32 ≤ n → n < shape.limit → spi_passes shape s n ≡ true
    unfolding is_lawful
    spi_pass n high b =
        let all = right_true (every_below (vcpu_lawful shape s) shape.count) _ pass in
        let same : 32 + (n - 32) ≡ n = omega arith in
        rw same at (every_at (λ k. spi_passes shape s (32 + k)) (shape.limit - 32) (n - 32) all (omega arith))

    record_pass : (v n : ℕ) → RecordThere shape v n → Passed shape v n (record_at shape v n s)
    unfolding number_lawful
    record_pass v n there =
        passes_record shape v n (record_at shape v n s) there.banked
        (private_or n
        (λ low. left_true (record_lawful shape v n (record_at shape v n s)) _ (private_pass v n (there.banked low) low))
        (λ high. record_alike v n high ∙ left_true (record_lawful shape 0 n (record_at shape 0 n s)) _ (left_true (number_lawful shape 0 s n) (bit_lawful shape s n) (spi_pass n high there.numbered))))

    sourced_pass : (v n : ℕ) → v < shape.count → n < 16 → (record_at shape v n s).pending ≡ not (eqb (sources_at shape v n s) 0)
    unfolding number_lawful
    sourced_pass v n b sgi =
        pass_sources (sources_at shape v n s) (record_at shape v n s).pending
        (implied_gives (ltb n 16) _ (right_true (record_lawful shape v n (record_at shape v n s)) _ (private_pass v n b (omega arith))) (lt-ltb n 16 sgi))

    pub passes_lawful : Lawful shape s
    passes_lawful = record {
      orderly = record {
        falling = λ v i j b. pass_falling shape v s (stack_pass v b) i j;
        below_idle = λ v i b. pass_below_idle shape v s (stack_pass v b) i;
        even = λ v i b. pass_even shape v s (stack_pass v b) i;
        records = λ v n there. (record_pass v n there).orderly;
        sourced = sourced_pass;
        summary = record { exact = λ n e. passes_bit n e.0 (right_true (number_lawful shape 0 s n) (bit_lawful shape s n) (spi_pass n e.0 e.1)) };
      };
      records = λ v n there. (record_pass v n there).lawful;
      numbered = λ v i b. pass_numbered shape v s (stack_pass v b) i;
      in_range = h;
    }
