-- Two vCPUs ring the same SGI at the same sleeping neighbour, in any order, while others go on: both rings are given, one at a time, each with its
-- source. Assumes nothing.
use mathlib.Core.Path.{◌≡◌, refl, sym, ap, ◌∙◌}
use mathlib.Core.Bool.{Bool, true, false, cond}
use mathlib.Core.List.{List, ◌∷◌}
use Prim.Native.Nat.{ℕ, ◌+◌, ◌*◌, ◌%◌, ◌^◌, ◌≤◌, ◌<◌}
use native.Mathlib.Omega.{arith}
use lib.Bits.{bit_or}
use lib.Dec.{ltb}
use lib.Pow.{pow_pos}
use borrow.Author.Tests.{lt-ltb, eq-eqb, ne_eqb}
use Rattle.interrupt.specs.declared.record.InterruptRecord.{InterruptRecord}
use Rattle.interrupt.specs.Record.{set_pending}
use Rattle.word.proofs.RecordWord.{decoded_in_range}
use Rattle.state.specs.declared.layout.Shape.{Shape}
use Rattle.state.specs.declared.words.Entry.{Entry}
use Rattle.state.specs.Layout.{Room, stack_capacity}
use Rattle.state.specs.Words.{word_at, record_slot, RecordThere, record_at, sources_at}
use Rattle.sgi.specs.Sgi.{merged_sources, write_sgir}
use Rattle.select.specs.declared.Candidate.{Candidate}
use Rattle.select.specs.Select.{candidate_for}
use Rattle.sgi.proofs.Rings.{joined_some}
use Rattle.service.specs.Service.{depth_at, stack_at, is_newest, Served}
use Rattle.acknowledge.specs.Acknowledge.{lowest_source, source_of, given_record, pushed_for, given, Givable}
use Rattle.acknowledge.proofs.Offers.{group_byte}
use Rattle.end.specs.End.{eoi_mode, retired, deactivated, ended, end_retired}
use Rattle.delivery.proofs.Deactivation.{deactivated_record, deactivated_stacks}
use Rattle.delivery.proofs.Ended.{ended_stack, ended_record, ended_retired}
use Rattle.delivery.proofs.Given.{given_sources, given_stack}
use Rattle.answer.specs.Answer.{Outcome, gave, went}
use Rattle.lawful.specs.Lawful.{Controls}
use Rattle.moves.proofs.Slots.{served, givable}
use Rattle.moves.proofs.Sounds.{lawful_sound}
use Rattle.history.specs.History.{Call, called, run, sgir_write, iar_read, eoir_write, dir_write}
use Rattle.history.proofs.Always.{every_other_call}
use Rattle.waiting.specs.Waiting.{bit}
use Rattle.stories.specs.Stories as story
use Rattle.stories.specs.Stories.{Rings, Takes, NoneAhead, all_elsewhere, TwoRings, Sleeping, lower, higher, BothGiven}
use Rattle.stories.proofs.Calls.{ring_call, end_call, deactivate_call, asleep_quiet}
use Rattle.stories.proofs.Elsewhere.{elsewhere_controls, elsewhere_agrees}
use Rattle.stories.proofs.Events.{rung_record, rung_sources, rung_stack, rung_steady, given_steady, given_left, given_active, retired_served, retired_idle, ended_steady, ended_sources, dropped_record, dropped_steady, deactivated_steady, deactivated_sources}
use Rattle.stories.proofs.Sources.{pair, lower_first_lem, higher_left_lem, only_source, none_left}
use Rattle.stories.proofs.Steady.{Steady, then_steady, eoi_same, takes_idle, takes_steady, agree_record, agree_sources, agree_stack, agree_steady}
use Rattle.stories.proofs.Turns.{active_waits, is_number, given_call, given_move, wake_bit_lem}

module _ (h : TwoRings) (z : Sleeping h) where
  abbrev shape : Shape
  shape = h.shape

  abbrev t : ℕ
  t = h.target

  abbrev n : ℕ
  n = h.sgi

  abbrev base : List ℕ
  base = h.words

  exists : t < shape.count
  exists = z.target_exists

  sgi : n < 16
  sgi = z.is_sgi_lem

  -- the SGI at t, with these sources: enabled as at first, not active, and nothing else under service than at first
  record Waits (x : ℕ) (s : List ℕ) : Type 0 where
    controls : Controls shape s
    steady : Steady shape t n base s
    stack : stack_at shape t s ≡ stack_at shape t base
    idle : (record_at shape t n s).active ≡ false
    sources : sources_at shape t n s ≡ x

  -- given, with these sources left, and this under service
  record Serves (es : List Entry) (r : InterruptRecord) (x : ℕ) (s : List ℕ) : Type 0 where
    controls : Controls shape s
    steady : Steady shape t n base s
    stack : stack_at shape t s ≡ es
    pends : record_at shape t n s ≡ set_pending (given_record t r) true
    sources : sources_at shape t n s ≡ x

  numbered : {s : List ℕ} → Controls shape s → n < shape.limit
  numbered c = omega (arith, sgi, c.lawful.in_range.state.limits.private_numbers_lem)

  there : {s : List ℕ} → Controls shape s → RecordThere shape t n
  there c = record { numbered = numbered c; banked = λ low. exists }

  deep : {s : List ℕ} → Controls shape s → depth_at shape t s ≤ stack_capacity
  deep {s} c = (served shape s (lawful_sound c.lawful) t exists).deep

  -- a ring adds its source
  ring_waits : (u value x : ℕ) (s : List ℕ) → u < shape.count → Rings u value t n → Waits x s → Waits (bit_or x (2 ^ u)) (called (sgir_write u value) s).state
  unfolding set_pending
  ring_waits u value x s there rings w = record {
    controls = every_other_call shape (sgir_write u value) refl s w.controls;
    steady = then_steady w.steady (rw state (rung_steady shape t n u (value % 2 ^ 32) s room exists sgi fits rings.numbered rings.named));
    stack = rw state (rung_stack shape t n u (value % 2 ^ 32) s room exists sgi fits rings.numbered rings.named (deep w.controls)) ∙ w.stack;
    idle = rw state (ap (λ (q : InterruptRecord). q.active) (rung_record shape t n u (value % 2 ^ 32) s room exists sgi fits rings.numbered rings.named) ∙ w.idle);
    sources = rw state (rung_sources shape t n u (value % 2 ^ 32) s room exists sgi fits rings.numbered rings.named ∙ ap (λ (k : ℕ). bit_or k (2 ^ u)) w.sources);
  }
    where
      room : Room shape s
      room = w.controls.lawful.in_range.state

      fits : u < 8
      fits = omega (arith, there, room.limits.few_vcpus)

      state : (called (sgir_write u value) s).state ≡ write_sgir shape u (value % 2 ^ 32) s
      state = ap (λ (o : Outcome). o.state) (ring_call shape s w.controls u value t there rings.named)

  -- calls elsewhere change none of it
  elsewhere_waits : (cs : List Call) (x : ℕ) (s : List ℕ) → all_elsewhere t n cs ≡ true → Waits x s → Waits x (run cs s)
  elsewhere_waits cs x s e w =
      let agrees = elsewhere_agrees t n sgi shape cs e s w.controls in
      let own = there w.controls in
      record {
        controls = elsewhere_controls t n sgi shape cs e s w.controls;
        steady = then_steady w.steady (agree_steady shape t n s (run cs s) agrees exists sgi own);
        stack = agree_stack shape t n s (run cs s) agrees exists sgi own (deep w.controls) ∙ w.stack;
        idle = ap (λ (q : InterruptRecord). q.active) (agree_record shape t n s (run cs s) agrees exists sgi own) ∙ w.idle;
        sources = agree_sources shape t n s (run cs s) agrees exists sgi own ∙ w.sources;
      }

  elsewhere_serves : (cs : List Call) (es : List Entry) (r : InterruptRecord) (x : ℕ) (s : List ℕ) → all_elsewhere t n cs ≡ true → Serves es r x s → Serves es r x (run cs s)
  elsewhere_serves cs es r x s away w =
      let agrees = elsewhere_agrees t n sgi shape cs away s w.controls in
      let own = there w.controls in
      record {
        controls = elsewhere_controls t n sgi shape cs away s w.controls;
        steady = then_steady w.steady (agree_steady shape t n s (run cs s) agrees exists sgi own);
        stack = agree_stack shape t n s (run cs s) agrees exists sgi own (deep w.controls) ∙ w.stack;
        pends = agree_record shape t n s (run cs s) agrees exists sgi own ∙ w.pends;
        sources = agree_sources shape t n s (run cs s) agrees exists sgi own ∙ w.sources;
      }

  -- an SGI that waits with a source is pending, and t can take it
  takes_it : (x : ℕ) (s : List ℕ) → Waits x s → Takes shape t n s
  takes_it x s w = takes_steady w.steady exists sgi z.takes w.stack w.idle

  pending : (x : ℕ) (s : List ℕ) → (x ≡ 0 → ⊥) → Waits x s → (record_at shape t n s).pending ≡ true
  pending x s some w = w.controls.lawful.orderly.sourced t n exists sgi ∙ simp (w.sources, ne_eqb x 0 some)

  -- an acknowledge gives it with its lowest source
  module _ (x : ℕ) (s : List ℕ) (some : x ≡ 0 → ⊥) (w : Waits x s) (none : NoneAhead shape t n s) where
    source_is : source_of shape t n s ≡ lowest_source x
    unfolding source_of
    source_is = simp (lt-ltb n 16 sgi, w.sources)

    abbrev taken : Candidate
    taken = candidate_for shape t s n

    gives : called (iar_read t) s ≡ gave (n + 1024 * lowest_source x) (given shape t taken s)
    gives = given_call shape t n s w.controls exists (numbered w.controls) (takes_it x s w) (pending x s some w) none ∙ simp source_is

    given_lent : Givable shape t taken s
    given_lent =
        givable shape s (lawful_sound w.controls.lawful) t taken (given_move shape t n s w.controls exists (numbered w.controls) (takes_it x s w) (pending x s some w) none)

    left_is : sources_at shape t n (given shape t taken s) ≡ merged_sources false x (2 ^ lowest_source x)
    left_is = given_sources shape t taken s given_lent sgi ∙ ap (λ (k : ℕ). merged_sources false k (2 ^ lowest_source k)) w.sources

    state : (called (iar_read t) s).state ≡ given shape t taken s
    state = ap (λ (o : Outcome). o.state) gives

    serves : (y : ℕ) → merged_sources false x (2 ^ lowest_source x) ≡ y → (y ≡ 0 → ⊥) → Serves (pushed_for shape t s taken ∷ stack_at shape t base) (record_at shape t n s) y (called (iar_read t) s).state
    serves y left more = record {
      controls = every_other_call shape (iar_read t) refl s w.controls;
      steady = then_steady w.steady (rw state (given_steady shape t taken s given_lent sgi));
      stack = rw state (given_stack shape t taken s given_lent (omega (arith, sgi)) byte ∙ ap (λ (es : List Entry). pushed_for shape t s taken ∷ es) w.stack);
      pends = rw state (given_left shape t taken s given_lent sgi (λ p. more (sym left ∙ sym left_is ∙ p)));
      sources = rw state (left_is ∙ left);
    }
      where
        byte : (pushed_for shape t s taken).priority.0 < 256
        byte = group_byte shape t s taken (decoded_in_range (word_at shape (record_slot t n) s)).priority_byte

  -- EOIR: the stack is as at first
  module _ (e : Entry) (r : InterruptRecord) (x : ℕ) (s : List ℕ) (is : e.intid.0 ≡ n) (w : Serves (e ∷ stack_at shape t base) r x s) where
    lent : Served shape t s
    lent = served shape s (lawful_sound w.controls.lawful) t exists

    newest : is_newest n (stack_at shape t s) ≡ true
    newest = rw w.stack (eq-eqb e.intid.0 n is)

    mode : (b : Bool) → eoi_mode shape t base ≡ b → eoi_mode shape t s ≡ b
    mode b p = eoi_same w.steady exists ∙ p

    ends : called (eoir_write t n) s ≡ went shape (end_retired shape t n s) s (ended shape t n s)
    ends = end_call shape s w.controls t n exists (omega (arith, sgi))

    after : (called (eoir_write t n) s).state ≡ ended shape t n s
    after = ap (λ (o : Outcome). o.state) ends

    -- without EOI mode it is retired and waits with what is left
    end_retires : eoi_mode shape t base ≡ false → (called (eoir_write t n) s).retired ≡ n
    unfolding retired
    end_retires off =
        ap (λ (o : Outcome). o.retired) ends
        ∙ ended_retired shape t n s lent newest (mode false off)
        ∙ simp (lt-ltb n shape.limit (numbered w.controls), w.pends, retired_served t r)

    end_waits : eoi_mode shape t base ≡ false → Waits x (called (eoir_write t n) s).state
    end_waits off = record {
      controls = every_other_call shape (eoir_write t n) refl s w.controls;
      steady = then_steady w.steady (rw after (ended_steady shape t n s lent newest (numbered w.controls) (mode false off)));
      stack = rw after (ended_stack shape t n s lent newest e (stack_at shape t base) w.stack);
      idle = rw after (ap (λ (q : InterruptRecord). q.active) (ended_record shape t n s lent newest (mode false off) (numbered w.controls)) ∙ rw w.pends (retired_idle t r));
      sources = rw after (ended_sources shape t n s lent newest (numbered w.controls) sgi ∙ w.sources);
    }

    -- with it only the priority is dropped
    end_drops : eoi_mode shape t base ≡ true → Serves (stack_at shape t base) r x (called (eoir_write t n) s).state
    end_drops on = record {
      controls = every_other_call shape (eoir_write t n) refl s w.controls;
      steady = then_steady w.steady (rw after (dropped_steady shape t n s lent newest (numbered w.controls) (mode true on)));
      stack = rw after (ended_stack shape t n s lent newest e (stack_at shape t base) w.stack);
      pends = rw after (dropped_record shape t n s lent newest (numbered w.controls) (mode true on) ∙ w.pends);
      sources = rw after (ended_sources shape t n s lent newest (numbered w.controls) sgi ∙ w.sources);
    }

  -- DIR then retires it
  module _ (r : InterruptRecord) (x : ℕ) (s : List ℕ) (w : Serves (stack_at shape t base) r x s) where
    room : Room shape s
    room = w.controls.lawful.in_range.state

    dirs : called (dir_write t n) s ≡ went shape (retired shape t n s) s (deactivated shape t n s)
    dirs = deactivate_call shape s w.controls t n exists (omega (arith, sgi))

    dir_state_lem : (called (dir_write t n) s).state ≡ deactivated shape t n s
    dir_state_lem = ap (λ (o : Outcome). o.state) dirs

    dir_retires : (called (dir_write t n) s).retired ≡ n
    unfolding retired
    dir_retires = ap (λ (o : Outcome). o.retired) dirs ∙ simp (lt-ltb n shape.limit (numbered w.controls), w.pends, retired_served t r)

    dir_waits : Waits x (called (dir_write t n) s).state
    dir_waits = record {
      controls = every_other_call shape (dir_write t n) refl s w.controls;
      steady = then_steady w.steady (rw dir_state_lem (deactivated_steady shape t n s room exists (numbered w.controls)));
      stack = rw dir_state_lem (deactivated_stacks shape t n s room exists t exists (deep w.controls) ∙ w.stack);
      idle = rw dir_state_lem (ap (λ (q : InterruptRecord). q.active) (deactivated_record shape t n s room exists (numbered w.controls)) ∙ rw w.pends (retired_idle t r));
      sources = rw dir_state_lem (deactivated_sources shape t n s room exists (numbered w.controls) sgi ∙ w.sources);
    }

  -- the story
  low : ℕ
  low = lower h.one h.other

  high : ℕ
  high = higher h.one h.other

  few : (u : ℕ) → u < shape.count → u < 8
  few u b = omega (arith, b, z.controls.lawful.in_range.state.limits.few_vcpus)

  high_few : high < 8
  unfolding high
  high_few = go (ltb h.one h.other)
    where
      go : (b : Bool) → cond b h.other h.one < 8
      go true = few h.other z.other_exists
      go false = few h.one z.one_exists

  asleep : Waits 0 base
  asleep = record {
    controls = z.controls;
    steady = record { enabling = record { agree = λ y x e. refl }; enabled = refl; priority = refl };
    stack = refl;
    idle = takes_idle z.takes;
    sources = z.unrung;
  }

  rung_once : Waits (bit_or 0 (2 ^ h.one)) (story.one_rings h).state
  rung_once = ring_waits h.one h.one_writes 0 h.words z.one_exists z.one_rings_lem asleep

  both_wait_lem : Waits (pair h.one h.other) (story.both_wait h)
  both_wait_lem =
      let between = elsewhere_waits h.meanwhile₁ _ _ z.elsewhere₁ rung_once in
      elsewhere_waits h.meanwhile₂ _ _ z.elsewhere₂
      (ring_waits h.other h.other_writes _ _ z.other_exists z.other_rings_lem between)

  high_some : 2 ^ high ≡ 0 → ⊥
  high_some e = omega (arith, e, pow_pos high)

  abbrev first : Entry
  first = pushed_for shape t (story.both_wait h) (candidate_for shape t (story.both_wait h) n)

  first_gives : story.first_read h ≡ gave (n + 1024 * lowest_source (pair h.one h.other)) (given shape t (candidate_for shape t (story.both_wait h) n) (story.both_wait h))
  first_gives = gives _ _ (joined_some (bit_or 0 (2 ^ h.one)) h.other) both_wait_lem z.none_ahead₁

  lowest : lowest_source (pair h.one h.other) ≡ low
  unfolding low
  lowest = lower_first_lem h.one h.other (few h.one z.one_exists) (few h.other z.other_exists) z.two

  left : merged_sources false (pair h.one h.other) (2 ^ lowest_source (pair h.one h.other)) ≡ 2 ^ high
  unfolding low high
  left = ap (λ (k : ℕ). merged_sources false (pair h.one h.other) (2 ^ k)) lowest
      ∙ higher_left_lem h.one h.other (few h.one z.one_exists) (few h.other z.other_exists) z.two

  abbrev old : InterruptRecord
  old = record_at shape t n (story.both_wait h)

  in_service_lem : Serves (first ∷ stack_at shape t base) old (2 ^ high) (story.serving h)
  in_service_lem =
      elsewhere_serves h.meanwhile₃ (first ∷ stack_at shape t base) old (2 ^ high) (story.first_read h).state z.elsewhere₃
      (serves _ _ (joined_some (bit_or 0 (2 ^ h.one)) h.other) both_wait_lem z.none_ahead₁ (2 ^ high) left high_some)

  -- in either mode it is retired, and the other ring waits
  record Retires (o : Outcome) : Type 0 where
    number : o.retired ≡ n
    waits : Waits (2 ^ high) o.state

  drops : story.in_eoi_mode h ≡ true → Serves (stack_at shape t base) old (2 ^ high) (story.after_end h)
  drops on = elsewhere_serves h.meanwhile₄ (stack_at shape t base) old (2 ^ high) (story.first_end h).state z.elsewhere₄ (end_drops first old (2 ^ high) (story.serving h) refl in_service_lem on)

  retires : Retires (story.deactivation h)
  retires = go (story.in_eoi_mode h) refl
    where
      go : (b : Bool) → story.in_eoi_mode h ≡ b → Retires (cond b (called (dir_write t n) (story.after_end h)) (story.first_end h))
      go true on = record { number = dir_retires old (2 ^ high) (story.after_end h) (drops on); waits = dir_waits old (2 ^ high) (story.after_end h) (drops on) }
      go false off = record { number = end_retires first old (2 ^ high) (story.serving h) refl in_service_lem off; waits = end_waits first old (2 ^ high) (story.serving h) refl in_service_lem off }

  -- while it is served no acknowledge gives it
  not_yet : (es : List Entry) (s : List ℕ) → Serves es old (2 ^ high) s → (source : ℕ) → (called (iar_read t) s).value ≡ n + 1024 * source → ⊥
  not_yet es s w = active_waits shape t n s w.controls exists (omega (arith, sgi)) (ap (λ (q : InterruptRecord). q.active) w.pends ∙ given_active t old)

  one_waits_lem : Waits (2 ^ high) (story.one_waits h)
  one_waits_lem = elsewhere_waits h.meanwhile₅ (2 ^ high) (story.deactivation h).state z.elsewhere₅ retires.waits

  second_gives : story.second_read h ≡ gave (n + 1024 * lowest_source (2 ^ high)) (given shape t (candidate_for shape t (story.one_waits h) n) (story.one_waits h))
  second_gives = gives _ _ high_some one_waits_lem z.none_ahead₂

  -- the first ring finds the target asleep, and leaves it something to take
  woken_once : bit t (story.one_rings h).wake ≡ true
  woken_once =
      let call = ring_call shape h.words z.controls h.one h.one_writes t z.one_exists z.one_rings_lem.named in
      let state : (story.one_rings h).state ≡ write_sgir shape h.one (h.one_writes % 2 ^ 32) h.words = ap (λ (o : Outcome). o.state) call in
      rw call
      (wake_bit_lem shape t h.words (write_sgir shape h.one (h.one_writes % 2 ^ 32) h.words) z.target_exists (asleep_quiet shape h.words z.controls t z.target_exists z.asleep)
      (rw state at
      (is_number shape t n (story.one_rings h).state rung_once.controls z.target_exists (numbered rung_once.controls)
      (takes_it _ _ rung_once)
      (pending _ _ (joined_some 0 h.one) rung_once))))

  pub both_given : BothGiven h
  unfolding low high
  both_given = record {
    wakes = woken_once;
    first_accepted = ap (λ (o : Outcome). o.refusal) first_gives;
    first_given = ap (λ (o : Outcome). o.value) first_gives ∙ ap (λ (k : ℕ). n + 1024 * k) lowest;
    one_at_a_time = not_yet (first ∷ stack_at shape t base) (story.serving h) in_service_lem;
    one_until_deactivated = λ on. not_yet (stack_at shape t base) (story.after_end h) (drops on);
    retired = retires.number;
    second_accepted = ap (λ (o : Outcome). o.refusal) second_gives;
    second_given = ap (λ (o : Outcome). o.value) second_gives ∙ ap (λ (k : ℕ). n + 1024 * k) (only_source high high_few);
    none_left =
        ap (λ (o : Outcome). sources_at shape t n o.state) second_gives
        ∙ left_is _ _ high_some one_waits_lem z.none_ahead₂
        ∙ ap (λ (k : ℕ). merged_sources false (2 ^ high) (2 ^ k)) (only_source high high_few)
        ∙ none_left high high_few;
  }
