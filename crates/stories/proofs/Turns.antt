-- An interrupt whose turn it is at a vCPU is what an acknowledge hands out; a vCPU that has one that it can take is not quiet. Assumes nothing.
use Rattle.std.specs.Prelude.{Option, Some, None}
use mathlib.Core.Path.{◌≡◌, refl, sym, ap, ◌∙◌}
use mathlib.Core.Bool.{Bool, true, false, ◌&&◌, ◌||◌, true≢false, false≢true}
use mathlib.Core.List.{List}
use Prim.Native.Nat.{ℕ, ◌+◌, ◌*◌, ◌/◌, ◌%◌, ◌^◌, ◌≤◌, ◌<◌}
use native.Mathlib.Nat.{one-mul, add-zero}
use native.Mathlib.Omega.{arith}
use lib.Dec.{eqb, ltb}
use borrow.Author.Tests.{lt-ltb, le-ltb, ltb-false, eq-eqb}
use Rattle.word.specs.Fields.{gathered}
use Rattle.word.specs.Word.{bit_of}
use Rattle.word.proofs.Gathered.{gathered_field}
use Rattle.word.proofs.RecordWord.{bit_fits}
use Rattle.state.specs.Layout.{stack_capacity}
use Rattle.state.specs.declared.layout.Shape.{Shape}
use Rattle.state.specs.Words.{record_at}
use Rattle.select.specs.declared.Candidate.{Candidate}
use Rattle.select.specs.Select.{candidate, candidate_by_record, candidate_for, both_on, IsBest}
use Rattle.select.proofs.Agree.{candidates_agree, candidate_idle}
use Rattle.select.proofs.Meaning.{best_is, is_best}
use Rattle.service.specs.Service.{depth_at}
use Rattle.acknowledge.specs.Acknowledge as acknowledge-of
use Rattle.acknowledge.specs.Acknowledge.{preempts, offer, source_of, given}
use Rattle.acknowledge.proofs.Offers.{offer_is, is_offer}
use Rattle.wake.specs.Halves.{is_some, ready}
use Rattle.wake.specs.Wake.{is_spurious, gives_number, woken, wake_set}
use Rattle.wake.proofs.Readiness.{preempting_ready, ready_number}
use Rattle.delivery.proofs.Answers.{acknowledge-is, acknowledged-is}
use Rattle.answer.specs.Answer.{gave}
use Rattle.cpu_interface_frame.specs.CpuInterfaceFrame.{read_answer}
use Rattle.lawful.specs.Lawful.{Controls}
use Rattle.lawful.proofs.Depths.{offer_room}
use Rattle.moves.specs.Moves.{Giving}
use Rattle.moves.proofs.Slots.{served}
use Rattle.moves.proofs.Sounds.{lawful_sound}
use Rattle.history.specs.History.{called, iar_read}
use Rattle.waiting.specs.Waiting.{bit}
use Rattle.stories.specs.Stories.{Takes, NoneAhead}
use Rattle.stories.proofs.Calls.{acknowledge_call}

-- neither of two
left_false : (a b : Bool) → (a || b) ≡ false → a ≡ false
left_false true b e = absurd (true≢false e)
left_false false b e = refl

right_false : (a b : Bool) → (a || b) ≡ false → b ≡ false
right_false true b e = absurd (true≢false e)
right_false false b e = e

-- a candidate that preempts what runs
module _ (shape : Shape) (v n : ℕ) (s : List ℕ) (h : Controls shape s) (exists : v < shape.count) (numbered : n < shape.limit)
    (on : both_on shape v s ≡ true) (chosen : candidate shape v s n ≡ true) (ahead : preempts shape v s (candidate_for shape v s n) ≡ true) where
  abbrev pub it : Candidate
  it = candidate_for shape v s n

  -- whatever else waits, something is handed out
  is_ready_lem : ready shape v s ≡ true
  is_ready_lem = preempting_ready shape v s n numbered chosen ahead on

  pub candidate_number : gives_number (acknowledge-of.acknowledge shape v s) ≡ true
  unfolding ready
  candidate_number = ready_number shape v s h.lawful.in_range.state.limits ∙ simp (is_ready_lem, lt-ltb (depth_at shape v s) stack_capacity (room (offer shape v s) refl))
    where
      room : (b : Option Candidate) → offer shape v s ≡ b → depth_at shape v s < stack_capacity
      room None p = absurd (true≢false (sym is_ready_lem ∙ ap is_some p))
      room (Some e) p = offer_room shape v s h.lawful.orderly exists e p

  -- and if nothing goes before it, it is
  module _ (none : NoneAhead shape v n s) where
    priority : ℕ → ℕ
    priority m = (record_at shape v m s).priority.0

    foremost : IsBest shape v s shape.limit it
    unfolding priority
    foremost = record {
      below = numbered;
      chosen = chosen;
      priority = refl;
      smallest = λ m b c. ltb-false (record_at shape v m s).priority.0 (record_at shape v n s).priority.0 (left_false _ _ (none m b c));
      first = λ m b c e. ltb-false m n (simp (eq-eqb (priority m) (priority n) e) at (right_false (ltb (priority m) (priority n)) (eqb (priority m) (priority n) && ltb m n) (none m b c)));
    }

    offered : offer shape v s ≡ Some it
    offered = is_offer shape v s it (record { on = on; best_one = is_best shape v s it foremost; preempting_one = ahead })

    pub candidate_move : Giving shape v it s
    candidate_move = record { exists = exists; offered = offered; room = offer_room shape v s h.lawful.orderly exists it offered }

    pub candidate_call : called (iar_read v) s ≡ gave (n + 1024 * source_of shape v n s) (given shape v it s)
    candidate_call =
        let room = candidate_move.room in
        let lent = served shape s (lawful_sound h.lawful) v exists in
        acknowledge_call shape s h v exists ∙ simp (acknowledge-is shape v s lent it offered room, acknowledged-is shape v s lent it offered room)

-- one that it can take, and that is pending, is such a candidate
module _ (shape : Shape) (v n : ℕ) (s : List ℕ) (h : Controls shape s) (exists : v < shape.count) (numbered : n < shape.limit)
    (takes : Takes shape v n s) (pending : (record_at shape v n s).pending ≡ true) where
  is_candidate : candidate shape v s n ≡ true
  unfolding candidate_by_record
  is_candidate = candidates_agree shape v s h.lawful.orderly.summary n numbered ∙ simp (takes.for_it, pending, takes.ready, lt-ltb _ _ takes.unmasked)

  pub is_number : gives_number (acknowledge-of.acknowledge shape v s) ≡ true
  is_number = candidate_number shape v n s h exists numbered takes.on is_candidate takes.preempts

  pub given_move : NoneAhead shape v n s → Giving shape v (candidate_for shape v s n) s
  given_move = candidate_move shape v n s h exists numbered takes.on is_candidate takes.preempts

  pub given_call : NoneAhead shape v n s → called (iar_read v) s ≡ gave (n + 1024 * source_of shape v n s) (given shape v (candidate_for shape v s n) s)
  given_call = candidate_call shape v n s h exists numbered takes.on is_candidate takes.preempts

  -- a PPI or SPI by its number
  pub number_given : 16 ≤ n → NoneAhead shape v n s → called (iar_read v) s ≡ gave n (given shape v (candidate_for shape v s n) s)
  unfolding source_of
  number_given past none = simp (le-ltb n 16 past, add-zero) at (given_call none)

-- an active interrupt is not handed out
pub active_waits : (shape : Shape) (v n : ℕ) (s : List ℕ) → Controls shape s → v < shape.count → n < 1020 → (record_at shape v n s).active ≡ true
    → (source : ℕ) → (called (iar_read v) s).value ≡ n + 1024 * source → ⊥
unfolding acknowledge-of.answered
active_waits shape v n s h exists numbered active source p = go (offer shape v s) refl (rw (acknowledge_call shape s h v exists) at p)
  where
    go : (b : Option Candidate) → offer shape v s ≡ b → (read_answer (acknowledge-of.answered shape v s b) s (acknowledge-of.acknowledged shape v s)).value ≡ n + 1024 * source → ⊥
    go None o q = omega (arith, q, numbered)
    go (Some e) o q =
        let room = offer_room shape v s h.lawful.orderly exists e o in
        let is = best_is shape v s e (offer_is shape v s e o).best_one in
        let value : e.intid.0 + 1024 * source_of shape v e.intid.0 s ≡ n + 1024 * source = simp (lt-ltb (depth_at shape v s) stack_capacity room) at q in
        let same : e.intid.0 ≡ n = omega (arith, value, numbered, is.below, h.lawful.in_range.state.limits.few_numbers) in
        absurd (false≢true (sym (candidate_idle shape v s h.lawful.orderly.summary n (rw same at is.below) (rw same at is.chosen)) ∙ active))

-- the bit of a vCPU in a wake set
pub wake_bit_lem : (shape : Shape) (v : ℕ) (before after : List ℕ) → v < shape.count → is_spurious (acknowledge-of.acknowledge shape v before) ≡ true
    → gives_number (acknowledge-of.acknowledge shape v after) ≡ true → bit v (wake_set shape before after) ≡ true
unfolding wake_set
wake_bit_lem shape v before after exists quiet number =
    let f : ℕ → ℕ = λ u. bit_of (woken shape before after u) in
    let at : gathered 1 f shape.count / 2 ^ v % 2 ≡ f v = rw one-mul at (gathered_field 1 f (λ u. bit_fits (woken shape before after u)) shape.count v exists) in
    ap (λ (x : ℕ). eqb x 1) at ∙ simp (quiet, number)
