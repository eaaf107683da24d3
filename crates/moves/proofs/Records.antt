-- Every change of one record keeps what a lawful state asks of it: one clause for each transition. Assumes nothing.
use Rattle.std.specs.Prelude.{None}
use mathlib.Core.Path.{◌≡◌, refl, sym, subst, ◌∙◌}
use mathlib.Core.Bool.{Bool, true, false, not, cond, ◌&&◌, ◌||◌, true≢false, false≢true}
use Prim.Native.Nat.{ℕ, ◌≤◌, ◌<◌}
use native.Mathlib.Nat.{lt_of_lt_of_le}
use native.Mathlib.Omega.{arith}
use lib.Pow.{pow_mono}
use borrow.Author.Tests.{not-true}
use Rattle.interrupt.specs.declared.record.InterruptRecord.{InterruptRecord}
use Rattle.interrupt.specs.Record.{set_enabled, set_pending, set_active, cancel_inflight, set_priority, set_trigger, set_cpu_target_mask, set_owner, set_state, set_level, pulse, complete, clear_delivery_state, mark_inflight, synchronize_inflight, deactivate_inflight, held, rises_in_service, falls_idle}
use Rattle.word.specs.Word.{InRange}
use Rattle.state.specs.declared.layout.Shape.{Shape}
use Rattle.state.specs.Layout.{Limits}
use Rattle.state.proofs.Tests.{left_true, right_true}
use Rattle.acknowledge.specs.Acknowledge.{given_record}
use Rattle.end.specs.End.{retire}
use Rattle.lawful.specs.Lawful.{Charged, OrderlyRecord, LawfulRecord}
use Rattle.moves.specs.Moves.{Change, SetEnabled, SetPending, SetActive, CancelInflight, SetTrigger, SetPriority, SetCpuTargetMask, SetLevel, Pulse, DeactivateInflight, Complete, ClearDeliveryState, becomes, Fits}

-- all that a lawful state asks of one record
pub record Fine (shape : Shape) (v n : ℕ) (r : InterruptRecord) : Type 0 where
  pub orderly : OrderlyRecord shape r
  pub lawful : LawfulRecord shape v n r

or_false : (b : Bool) → (b || false) ≡ b
or_false true = refl
or_false false = refl

module _ {shape : Shape} {v n : ℕ} {r : InterruptRecord} (h : Fine shape v n r) where
  -- what is asked stays if these fields do, one in flight is active and what is noted is in flight
  kept : (q : InterruptRecord) → (r.inflight ≡ true → q.active ≡ true) → q.inflight ≡ r.inflight
      → (q.redelivery_pending ≡ true → r.inflight ≡ true) → (n < 16 → q.redelivery_pending ≡ false)
      → q.line_asserted ≡ r.line_asserted → q.trigger ≡ r.trigger → q.cpu_target_mask ≡ r.cpu_target_mask → q.owner ≡ r.owner → Fine shape v n q
  kept q a i d none l t m o = record {
    orderly = record {
      active = λ e. a (sym i ∙ e);
      charged = λ e. subst (Charged shape) (sym o) (h.orderly.charged (sym i ∙ e));
      noted = λ e. i ∙ d e;
    };
    lawful = record {
      sgi_edge = λ b. t ∙ h.lawful.sgi_edge b;
      sgi_low = λ b. l ∙ h.lawful.sgi_low b;
      sgi_unnoted = none;
      existing = rw m h.lawful.existing;
      unmasked = λ b. m ∙ h.lawful.unmasked b;
      own = λ b e. o ∙ h.lawful.own b (sym i ∙ e);
      idle = λ e. o ∙ h.lawful.idle (sym i ∙ e);
    };
  }

  -- .. so it does if the note stays
  same : (q : InterruptRecord) → (r.inflight ≡ true → q.active ≡ true) → q.inflight ≡ r.inflight → q.redelivery_pending ≡ r.redelivery_pending
      → q.line_asserted ≡ r.line_asserted → q.trigger ≡ r.trigger → q.cpu_target_mask ≡ r.cpu_target_mask → q.owner ≡ r.owner → Fine shape v n q
  same q a i d l t m o = kept q a i (λ e. h.orderly.noted (sym d ∙ e)) (λ b. d ∙ h.lawful.sgi_unnoted b) l t m o

  -- .. or if it is no SGI, and what is noted is in flight
  no_sgi : (q : InterruptRecord) → 16 ≤ n → q.active ≡ r.active → q.inflight ≡ r.inflight → (q.redelivery_pending ≡ true → r.inflight ≡ true)
      → q.cpu_target_mask ≡ r.cpu_target_mask → q.owner ≡ r.owner → Fine shape v n q
  no_sgi q b a i d m o = record {
    orderly = record {
      active = λ e. a ∙ h.orderly.active (sym i ∙ e);
      charged = λ e. subst (Charged shape) (sym o) (h.orderly.charged (sym i ∙ e));
      noted = λ e. i ∙ d e;
    };
    lawful = record {
      sgi_edge = λ c. absurd (omega (arith, b, c));
      sgi_low = λ c. absurd (omega (arith, b, c));
      sgi_unnoted = λ c. absurd (omega (arith, b, c));
      existing = rw m h.lawful.existing;
      unmasked = λ c. m ∙ h.lawful.unmasked c;
      own = λ c e. o ∙ h.lawful.own c (sym i ∙ e);
      idle = λ e. o ∙ h.lawful.idle (sym i ∙ e);
    };
  }

  -- .. or if it is no longer in flight, and nobody's
  idled : (q : InterruptRecord) → q.inflight ≡ false → q.redelivery_pending ≡ false → q.owner ≡ None
      → (n < 16 → q.line_asserted ≡ r.line_asserted) → q.trigger ≡ r.trigger → q.cpu_target_mask ≡ r.cpu_target_mask → Fine shape v n q
  idled q i d o l t m = record {
    orderly = record {
      active = λ e. absurd (false≢true (sym i ∙ e));
      charged = λ e. absurd (false≢true (sym i ∙ e));
      noted = λ e. absurd (false≢true (sym d ∙ e));
    };
    lawful = record {
      sgi_edge = λ b. t ∙ h.lawful.sgi_edge b;
      sgi_low = λ b. l b ∙ h.lawful.sgi_low b;
      sgi_unnoted = λ b. d;
      existing = rw m h.lawful.existing;
      unmasked = λ b. m ∙ h.lawful.unmasked b;
      own = λ b e. absurd (false≢true (sym i ∙ e));
      idle = λ e. o;
    };
  }

  -- a record that is not in flight may be active or not
  settled : (q : InterruptRecord) → r.inflight ≡ false → q.inflight ≡ r.inflight → q.redelivery_pending ≡ r.redelivery_pending → q.owner ≡ r.owner
      → q.line_asserted ≡ r.line_asserted → q.trigger ≡ r.trigger → q.cpu_target_mask ≡ r.cpu_target_mask → Fine shape v n q
  settled q f i d o l t m = idled q (i ∙ f) (d ∙ unnoted r.redelivery_pending refl) (o ∙ h.lawful.idle f) (λ b. l) t m
    where
      unnoted : (b : Bool) → r.redelivery_pending ≡ b → b ≡ false
      unnoted true e = absurd (true≢false (sym (h.orderly.noted e) ∙ f))
      unnoted false e = refl

  pending_noted : (p : Bool) → cond (not p) false r.redelivery_pending ≡ true → r.inflight ≡ true
  pending_noted true e = h.orderly.noted e
  pending_noted false e = absurd (false≢true e)

  pulse_noted : (i : Bool) → r.inflight ≡ i → cond i true r.redelivery_pending ≡ true → i ≡ true
  pulse_noted true p e = refl
  pulse_noted false p e = sym p ∙ h.orderly.noted e

  level_noted : (b c : Bool) → (b ≡ true → r.inflight ≡ true) → cond b true (cond c false r.redelivery_pending) ≡ true → r.inflight ≡ true
  level_noted true c f e = f refl
  level_noted false true f e = absurd (false≢true e)
  level_noted false false f e = h.orderly.noted e

  rises : (a : Bool) → rises_in_service r a ≡ true → r.inflight ≡ true
  rises a e = left_true r.inflight r.active (left_true (r.inflight && r.active) (a && not r.line_asserted) e)

  pub change_fine : (c : Change) → Fits shape v n c r → Fine shape v n (becomes c r)
  unfolding set_enabled set_pending set_active cancel_inflight set_owner set_trigger set_priority set_cpu_target_mask set_level pulse retire deactivate_inflight complete clear_delivery_state
  change_fine (SetEnabled e) f = same (set_enabled r e) h.orderly.active refl refl refl refl refl refl
  change_fine (SetPending p) f = no_sgi (set_pending r p) f refl refl (pending_noted p) refl refl
  change_fine (SetActive true) f = same (set_active r true) (λ e. refl) refl refl refl refl refl refl
  change_fine (SetActive false) f = settled (set_active r false) f refl refl refl refl refl refl
  change_fine CancelInflight f = idled (becomes CancelInflight r) refl refl refl (λ b. refl) refl refl
  change_fine (SetTrigger t) f = no_sgi (set_trigger r t) f refl refl h.orderly.noted refl refl
  change_fine (SetPriority q) f = same (becomes (SetPriority q) r) h.orderly.active refl refl refl refl refl refl
  change_fine (SetCpuTargetMask m) f = targeted
    where
      targeted : Fine shape v n (set_cpu_target_mask r m)
      targeted = record {
        orderly = record { active = h.orderly.active; charged = h.orderly.charged; noted = h.orderly.noted };
        lawful = record {
          sgi_edge = h.lawful.sgi_edge;
          sgi_low = h.lawful.sgi_low;
          sgi_unnoted = h.lawful.sgi_unnoted;
          existing = f.1;
          unmasked = λ b. absurd (omega (arith, f.0, b));
          own = h.lawful.own;
          idle = h.lawful.idle;
        };
      }
  change_fine (SetLevel a) f = no_sgi (set_level r a) (omega (arith, f)) refl refl (level_noted (rises_in_service r a) (falls_idle r a) (rises a)) refl refl
  change_fine Pulse f = no_sgi (pulse r) f refl refl (pulse_noted r.inflight refl) refl refl
  change_fine DeactivateInflight f = idled (retire r) refl refl refl (λ b. refl) refl refl
  change_fine Complete f = settled (complete r) (not-true r.inflight (right_true r.active (not r.inflight) f)) refl refl refl refl refl refl
  change_fine ClearDeliveryState f = idled (becomes ClearDeliveryState r) refl refl refl (λ b. absurd (omega (arith, f, b))) refl refl

  -- no SGI's line is held
  pub unheld : n < 16 → held r ≡ false
  unfolding held
  unheld b = rw (h.lawful.sgi_edge b)

  -- an SGI's pending bit is its sources' to say: no change of its record touches it
  pub sgi_pending : (c : Change) → Fits shape v n c r → n < 16 → (becomes c r).pending ≡ r.pending
  unfolding set_enabled set_active cancel_inflight set_owner set_priority retire deactivate_inflight complete
  sgi_pending (SetEnabled true) f b = rw (h.lawful.sgi_low b)
  sgi_pending (SetEnabled false) f b = refl
  sgi_pending (SetPending p) f b = absurd (omega (arith, f, b))
  sgi_pending (SetActive a) f b = refl
  sgi_pending CancelInflight f b = rw (h.lawful.sgi_unnoted b) (or_false r.pending)
  sgi_pending (SetTrigger t) f b = absurd (omega (arith, f, b))
  sgi_pending (SetPriority q) f b = refl
  sgi_pending (SetCpuTargetMask m) f b = absurd (omega (arith, f.0, b))
  sgi_pending (SetLevel a) f b = absurd (omega (arith, f, b))
  sgi_pending Pulse f b = absurd (omega (arith, f, b))
  sgi_pending DeactivateInflight f b = rw (unheld b, h.lawful.sgi_unnoted b) (or_false (r.pending || false) ∙ or_false r.pending)
  sgi_pending Complete f b = rw (unheld b)
  sgi_pending ClearDeliveryState f b = absurd (omega (arith, f, b))

-- a record that is given is in flight, active and this vCPU's; nothing is noted any longer
pub given_fine : {shape : Shape} {v n : ℕ} {r : InterruptRecord} → Fine shape v n r → v < shape.count → Fine shape v n (given_record v r)
unfolding given_record synchronize_inflight set_state set_owner mark_inflight
given_fine {r = r} h exists = record {
  orderly = record { active = λ e. refl; charged = λ e. exists; noted = λ e. refl };
  lawful = record {
    sgi_edge = h.lawful.sgi_edge;
    sgi_low = h.lawful.sgi_low;
    sgi_unnoted = λ b. rw (h.lawful.sgi_unnoted b);
    existing = h.lawful.existing;
    unmasked = h.lawful.unmasked;
    own = λ b e. refl;
    idle = λ e. absurd (true≢false e);
  };
}

-- an SGI is set pending, or not
pub pended_fine : {shape : Shape} {v n : ℕ} {r : InterruptRecord} (p : Bool) → Fine shape v n r → Fine shape v n (set_pending r p)
unfolding set_pending
pended_fine {r = r} p h =
    kept h (set_pending r p) h.orderly.active refl (pending_noted h p) (λ b. rw (h.lawful.sgi_unnoted b) (none p)) refl refl refl refl
  where
    none : (b : Bool) → cond (not b) false false ≡ false
    none true = refl
    none false = refl

-- an SPI's record is the same for every vCPU
pub fine_for : {shape : Shape} {v n : ℕ} {r : InterruptRecord} (u : ℕ) → (n < 32 → u ≡ v) → Fine shape v n r → Fine shape u n r
fine_for u same h = record {
  orderly = h.orderly;
  lawful = record {
    sgi_edge = h.lawful.sgi_edge;
    sgi_low = h.lawful.sgi_low;
    sgi_unnoted = h.lawful.sgi_unnoted;
    existing = h.lawful.existing;
    unmasked = h.lawful.unmasked;
    own = λ b e. rw (same b) (h.lawful.own b e);
    idle = h.lawful.idle;
  };
}

-- a change leaves a record that a word can hold
ranged : {r : InterruptRecord} (q : InterruptRecord) → InRange r → q.priority ≡ r.priority → q.cpu_target_mask ≡ r.cpu_target_mask → q.owner ≡ r.owner → InRange q
ranged q i p m o = record { priority_byte = rw p i.priority_byte; mask_byte_lem = rw m i.mask_byte_lem; owner_byte_lem = rw o i.owner_byte_lem }

pub change_in_range : (shape : Shape) (v n : ℕ) (r : InterruptRecord) → Limits shape → (c : Change) → Fits shape v n c r → InRange r → InRange (becomes c r)
unfolding set_enabled set_pending set_active cancel_inflight set_owner set_trigger set_priority set_cpu_target_mask set_level pulse retire deactivate_inflight complete clear_delivery_state
change_in_range shape v n r l (SetEnabled e) f i = ranged (set_enabled r e) i refl refl refl
change_in_range shape v n r l (SetPending p) f i = ranged (set_pending r p) i refl refl refl
change_in_range shape v n r l (SetActive a) f i = ranged (set_active r a) i refl refl refl
change_in_range shape v n r l CancelInflight f i = record { priority_byte = i.priority_byte; mask_byte_lem = i.mask_byte_lem; owner_byte_lem = tt }
change_in_range shape v n r l (SetTrigger t) f i = ranged (set_trigger r t) i refl refl refl
change_in_range shape v n r l (SetPriority q) f i = record { priority_byte = f; mask_byte_lem = i.mask_byte_lem; owner_byte_lem = i.owner_byte_lem }
change_in_range shape v n r l (SetCpuTargetMask m) f i = record { priority_byte = i.priority_byte; mask_byte_lem = lt_of_lt_of_le f.1 (pow_mono l.few_vcpus); owner_byte_lem = i.owner_byte_lem }
change_in_range shape v n r l (SetLevel a) f i = ranged (set_level r a) i refl refl refl
change_in_range shape v n r l Pulse f i = ranged (pulse r) i refl refl refl
change_in_range shape v n r l DeactivateInflight f i = record { priority_byte = i.priority_byte; mask_byte_lem = i.mask_byte_lem; owner_byte_lem = tt }
change_in_range shape v n r l Complete f i = ranged (complete r) i refl refl refl
change_in_range shape v n r l ClearDeliveryState f i = record { priority_byte = i.priority_byte; mask_byte_lem = i.mask_byte_lem; owner_byte_lem = tt }
