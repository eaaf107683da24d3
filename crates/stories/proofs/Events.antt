-- What a ring, a giving and an end make of the SGI n at t: its record, its sources, t's stack; t's enabling they leave. Assumes nothing.
use mathlib.Core.Path.{◌≡◌, refl, sym, ap, ◌∙◌}
use mathlib.Core.Bool.{Bool, true, false, cond}
use mathlib.Core.List.{List}
use mathlib.Core.Logic.{inl, inr}
use Prim.Native.Nat.{ℕ, ◌-◌, ◌%◌, ◌^◌, ◌≤◌, ◌<◌}
use lib.Bits.{bit_or}
use lib.Dec.{eqb}
use borrow.Author.Tests.{eq-eqb, ne_eqb}
use Rattle.interrupt.specs.declared.record.InterruptRecord.{InterruptRecord}
use Rattle.interrupt.specs.Record.{set_pending, mark_inflight, set_owner, set_state, synchronize_inflight, deactivate_inflight, complete}
use Rattle.word.specs.Word.{record_of}
use Rattle.state.specs.declared.layout.Shape.{Shape}
use Rattle.state.specs.declared.layout.InterfaceValue.TheVariants.{Depth}
use Rattle.state.specs.Layout.{Slot, DistributorControl, Interface, Sources, Stack, Exists, Room, on_stack, stack_capacity}
use Rattle.state.specs.Words.{word_at, record_slot, record_at, sources_at}
use Rattle.state.proofs.Accessors.{record_exists}
use Rattle.state.proofs.Canonical.{OffStack, off_stack_apart}
use Rattle.state.proofs.Numbers.{Of}
use Rattle.state.proofs.SlotKinds.{kinds_apart, record_apart, apart_record}
use Rattle.state.proofs.Steps.{Agree}
use Rattle.sgi.specs.Sgi.{sgi_target, includes, pend_sgi, send_sgi, write_sgir}
use Rattle.sgi.proofs.Rings.{sgi_exists, sgi_sent, sgi_others, ring_sources, ring_pends}
use Rattle.select.specs.declared.Candidate.{Candidate}
use Rattle.service.specs.Service.{depth_at, stack_at, is_newest, Served}
use Rattle.service.proofs.Stacks.{newest_some, popped_others, stack_same}
use Rattle.acknowledge.specs.Acknowledge.{given_record, given, Givable}
use Rattle.end.specs.End.{served_here, only_active, eoi_mode, retire, deactivated, ended}
use Rattle.delivery.specs.Delivery.{deactivate}
use Rattle.delivery.proofs.Deactivation.{deactivated_others, deactivated_record}
use Rattle.delivery.proofs.Ended.{ended_others, ended_popped, ended_record}
use Rattle.delivery.proofs.Given.{given_others, given_sgi}
use Rattle.moves.proofs.Slots.{no_number}
use Rattle.stories.proofs.Steady.{Enables, each_enables, Steady}

-- a slot of the enabling is neither a record nor a source set, and on no stack
enables_away : (t v n : ℕ) (y : Slot) → Enables t y → Of v n y → ⊥
enables_away t v n =
    each_enables t (λ y. Of v n y → ⊥) (no_number v n DistributorControl refl refl)
    (λ k off. no_number v n (Interface t k) refl refl)

enables_off : (t : ℕ) (y : Slot) → Enables t y → OffStack y
enables_off t = each_enables t OffStack refl (λ k off. off)

enables_no : (t : ℕ) (x y : Slot) → on_stack x ≡ true → Enables t y → y ≡ x → ⊥
enables_no t x y on e p = off_stack_apart x y on (enables_off t y e) (sym p)

-- a ring
module _ (shape : Shape) (t n source value : ℕ) (s : List ℕ) (room : Room shape s) (exists : t < shape.count) (sgi : n < 16) (fits : source < 8)
    (numbered : value % 16 ≡ n) (named : includes (sgi_target value) source t ≡ true) where
  sent : write_sgir shape source value s ≡ send_sgi shape source n (sgi_target value) s
  unfolding write_sgir
  sent = ap (λ (k : ℕ). send_sgi shape source k (sgi_target value) s) numbered

  own : Agree shape (Of t n) (send_sgi shape source n (sgi_target value) s) (pend_sgi shape t source n s)
  own = simp named at (sgi_sent shape source n (sgi_target value) s room sgi t exists)

  pub rung_record : record_at shape t n (write_sgir shape source value s) ≡ set_pending (record_at shape t n s) true
  rung_record =
      ap (record_at shape t n) sent
      ∙ ap record_of (own.agree (record_slot t n) (sgi_exists shape t n room.limits (exists, sgi)) (inl refl))
      ∙ ring_pends shape t n s room (exists, sgi) source fits

  pub rung_sources : sources_at shape t n (write_sgir shape source value s) ≡ bit_or (sources_at shape t n s) (2 ^ source)
  rung_sources =
      ap (sources_at shape t n) sent ∙ ap (λ (w : ℕ). w % 256) (own.agree (Sources t n) (exists, sgi) (inr refl)) ∙ ring_sources shape t n s room (exists, sgi) source fits

  others : (y : Slot) → Exists shape y → ((v : ℕ) → Of v n y → ⊥) → word_at shape y (write_sgir shape source value s) ≡ word_at shape y s
  others y e away = ap (word_at shape y) sent ∙ sgi_others shape source n (sgi_target value) s room sgi y e (λ v b. away v)

  pub rung_stack : depth_at shape t s ≤ stack_capacity → stack_at shape t (write_sgir shape source value s) ≡ stack_at shape t s
  rung_stack deep =
      stack_same shape t s (write_sgir shape source value s) deep
      (others (Interface t Depth) exists (λ v. no_number v n (Interface t Depth) refl refl))
      (λ i b. others (Stack t i) (exists, b) (λ v. no_number v n (Stack t i) refl refl))

  pub rung_steady : Steady shape t n s (write_sgir shape source value s)
  unfolding set_pending
  rung_steady = record {
    enabling = record { agree = λ y e c. others y e (λ v. enables_away t v n y c) };
    enabled = ap (λ (q : InterruptRecord). q.enabled) rung_record;
    priority = ap (λ (q : InterruptRecord). q.priority) rung_record;
  }

-- what is given
module _ (shape : Shape) (t : ℕ) (e : Candidate) (s : List ℕ) (g : Givable shape t e s) (sgi : e.intid.0 < 16) where
  pub given_steady : Steady shape t e.intid.0 s (given shape t e s)
  unfolding given_record synchronize_inflight set_state set_owner mark_inflight set_pending
  given_steady = record {
    enabling = record {
      agree = λ y x c. given_others shape t e s g y x (λ p. enables_away t t e.intid.0 y c (inl p)) (λ p. enables_away t t e.intid.0 y c (inr p)) (enables_no t (Interface t Depth) y refl c)
          (enables_no t (Stack t (depth_at shape t s)) y refl c);
    };
    enabled = ap (λ (q : InterruptRecord). q.enabled) after ∙ enabled (eqb (sources_at shape t e.intid.0 (given shape t e s)) 0);
    priority = ap (λ (q : InterruptRecord). q.priority) after ∙ priority (eqb (sources_at shape t e.intid.0 (given shape t e s)) 0);
  }
    where
      old : InterruptRecord
      old = record_at shape t e.intid.0 s

      after : record_at shape t e.intid.0 (given shape t e s)
          ≡ cond (eqb (sources_at shape t e.intid.0 (given shape t e s)) 0) (given_record t old) (set_pending (given_record t old) true)
      after = given_sgi shape t e s g sgi

      enabled : (b : Bool) → (cond b (given_record t old) (set_pending (given_record t old) true)).enabled ≡ old.enabled
      enabled true = refl
      enabled false = refl

      priority : (b : Bool) → (cond b (given_record t old) (set_pending (given_record t old) true)).priority ≡ old.priority
      priority true = refl
      priority false = refl

  -- pending again, if a source is left
  pub given_left : (sources_at shape t e.intid.0 (given shape t e s) ≡ 0 → ⊥) → record_at shape t e.intid.0 (given shape t e s) ≡ set_pending (given_record t (record_at shape t e.intid.0 s)) true
  given_left some = given_sgi shape t e s g sgi ∙ simp (ne_eqb (sources_at shape t e.intid.0 (given shape t e s)) 0 some)

-- what is then ended
module _ (t : ℕ) (r : InterruptRecord) where
  again : InterruptRecord
  again = set_pending (given_record t r) true

  pub given_active : (set_pending (given_record t r) true).active ≡ true
  unfolding given_record synchronize_inflight set_state set_owner mark_inflight set_pending
  given_active = refl

  pub retired_served : served_here t (set_pending (given_record t r) true) ≡ true
  unfolding given_record synchronize_inflight set_state set_owner mark_inflight set_pending
  retired_served = eq-eqb t t refl

  retired_is : deactivate t again ≡ retire again
  unfolding again
  retired_is = simp retired_served

  pub retired_idle : (deactivate t (set_pending (given_record t r) true)).active ≡ false
  unfolding again retire deactivate_inflight set_owner set_pending
  retired_idle = ap (λ (q : InterruptRecord). q.active) retired_is

-- Deactivate leaves the enable bit and the priority
module _ (v : ℕ) (r : InterruptRecord) where
  pub deactivate_enabled : (deactivate v r).enabled ≡ r.enabled
  unfolding retire deactivate_inflight set_owner complete
  deactivate_enabled = go (served_here v r) (only_active r)
    where
      go : (b c : Bool) → (cond b (retire r) (cond c (complete r) r)).enabled ≡ r.enabled
      go true c = refl
      go false true = refl
      go false false = refl

  pub deactivate_priority : (deactivate v r).priority ≡ r.priority
  unfolding retire deactivate_inflight set_owner complete
  deactivate_priority = go (served_here v r) (only_active r)
    where
      go : (b c : Bool) → (cond b (retire r) (cond c (complete r) r)).priority ≡ r.priority
      go true c = refl
      go false true = refl
      go false false = refl

-- the end leaves the enabling, the sources and, in EOI mode, the record
module _ (shape : Shape) (t n : ℕ) (s : List ℕ) (h : Served shape t s) (newest : is_newest n (stack_at shape t s) ≡ true) (below : n < shape.limit) where
  ended_enabling : Agree shape (Enables t) (ended shape t n s) s
  ended_enabling = record {
    agree = λ y x c. ended_others shape t n s h newest y x (λ p. enables_away t t n y c (inl p)) (enables_no t (Interface t Depth) y refl c)
        (enables_no t (Stack t (depth_at shape t s - 1)) y refl c);
  }

  pub ended_sources : n < 16 → sources_at shape t n (ended shape t n s) ≡ sources_at shape t n s
  ended_sources sgi =
      ap (λ (w : ℕ). w % 256)
      (ended_others shape t n s h newest (Sources t n) (h.exists, sgi) (apart_record (Sources t n) t n refl)
      (kinds_apart (Sources t n) (Interface t Depth) refl) (kinds_apart (Sources t n) (Stack t (depth_at shape t s - 1)) refl))

  pub ended_steady : eoi_mode shape t s ≡ false → Steady shape t n s (ended shape t n s)
  ended_steady off = record {
    enabling = ended_enabling;
    enabled = ap (λ (q : InterruptRecord). q.enabled) (ended_record shape t n s h newest off below) ∙ deactivate_enabled t (record_at shape t n s);
    priority = ap (λ (q : InterruptRecord). q.priority) (ended_record shape t n s h newest off below) ∙ deactivate_priority t (record_at shape t n s);
  }

  pub dropped_record : eoi_mode shape t s ≡ true → record_at shape t n (ended shape t n s) ≡ record_at shape t n s
  dropped_record on =
      ap (record_at shape t n) (ended_popped shape t n s h newest on)
      ∙ ap record_of
      (popped_others shape t s h (newest_some shape t s n newest) (record_slot t n) (record_exists shape t n (record { numbered = below; banked = λ low. h.exists }))
      (record_apart t n (Interface t Depth) refl) (record_apart t n (Stack t (depth_at shape t s - 1)) refl))

  pub dropped_steady : eoi_mode shape t s ≡ true → Steady shape t n s (ended shape t n s)
  dropped_steady on = record {
    enabling = ended_enabling;
    enabled = ap (λ (q : InterruptRecord). q.enabled) (dropped_record on);
    priority = ap (λ (q : InterruptRecord). q.priority) (dropped_record on);
  }

-- so does DIR, but for the record
module _ (shape : Shape) (t n : ℕ) (s : List ℕ) (room : Room shape s) (exists : t < shape.count) (below : n < shape.limit) where
  pub deactivated_steady : Steady shape t n s (deactivated shape t n s)
  deactivated_steady = record {
    enabling = record { agree = λ y x c. deactivated_others shape t n s room exists y x (λ p. enables_away t t n y c (inl p)) };
    enabled = ap (λ (q : InterruptRecord). q.enabled) (deactivated_record shape t n s room exists below) ∙ deactivate_enabled t (record_at shape t n s);
    priority = ap (λ (q : InterruptRecord). q.priority) (deactivated_record shape t n s room exists below) ∙ deactivate_priority t (record_at shape t n s);
  }

  pub deactivated_sources : n < 16 → sources_at shape t n (deactivated shape t n s) ≡ sources_at shape t n s
  deactivated_sources sgi = ap (λ (w : ℕ). w % 256) (deactivated_others shape t n s room exists (Sources t n) (exists, sgi) (apart_record (Sources t n) t n refl))
