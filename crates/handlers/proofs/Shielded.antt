-- While a handler runs, no interrupt of its group is given to its vCPU, whatever is called; and one of a smaller group priority is. Assumes nothing.
use mathlib.Core.Path.{◌≡◌, refl, sym, ap, subst, ◌∙◌}
use mathlib.Core.Bool.{Bool, true, false}
use mathlib.Core.List.{List}
use Prim.Native.Nat.{ℕ, zero, suc, ◌+◌, ◌*◌, ◌≤◌, ◌<◌}
use native.Mathlib.Omega.{arith}
use borrow.Author.Tests.{lt-ltb, ltb-true, eqb-true}
use Rattle.register.proofs.Named.{rpr_at}
use Rattle.word.proofs.Cases.{same_or}
use Rattle.state.specs.declared.layout.Shape.{Shape}
use Rattle.state.specs.declared.layout.InterfaceValue.TheVariants.{BinaryPoint}
use Rattle.state.specs.declared.words.Entry.{Entry}
use Rattle.state.specs.Layout.{Interface, Sources, Stack, stack_capacity}
use Rattle.state.specs.Words.{record_at, interface_at, kept}
use Rattle.state.proofs.SlotKinds.{kinds_apart, apart_record}
use Rattle.select.specs.declared.Candidate.{Candidate}
use Rattle.select.specs.Select.{candidate_for, IsBest}
use Rattle.select.proofs.Meaning.{best_is}
use Rattle.service.specs.Service.{depth_at, running}
use Rattle.acknowledge.specs.Acknowledge.{group_priority, group_of, given, acknowledge, acknowledged}
use Rattle.acknowledge.proofs.Grouping.{group_at_most, group_coarser, group_below}
use Rattle.acknowledge.proofs.Offers.{offer_is}
use Rattle.delivery.proofs.Given.{given_others, given_depth}
use Rattle.answer.specs.Answer.{Outcome}
use Rattle.answer.proofs.Present.{found}
use Rattle.cpu_interface_frame.specs.CpuInterfaceFrame.{read_answer, read_v2_cpu_interface}
use Rattle.lawful.specs.Lawful.{priority_at, Controls}
use Rattle.lawful.proofs.Depths.{running_newest}
use Rattle.moves.specs.Moves.{Giving}
use Rattle.moves.proofs.Gives.{newest}
use Rattle.moves.proofs.Slots.{givable}
use Rattle.moves.proofs.Sounds.{lawful_sound}
use Rattle.history.specs.History.{called, deed, iar_read, rpr_read}
use Rattle.history.proofs.Always.{every_other_call}
use Rattle.history.proofs.Each.{valid}
use Rattle.waiting.proofs.Keeping.{handed_out, acknowledge_cases, never_keeps}
use Rattle.stories.proofs.Calls.{acknowledge_call}
use Rattle.stories.proofs.Turns.{candidate_call}
use Rattle.levels.proofs.Rises.{aiar_is_iar}
use Rattle.handlers.specs.Handlers.{acknowledge_read, Handler, entered, later, next_read, running_read, point_of, group_in, own_group, is_innermost, ends_story, Runs, Foremost, IsGiven, Shielded}
use Rattle.handlers.proofs.Keeping.{point_apart, Stands, call_stands}

-- RPR reads the running priority
pub running_call : (shape : Shape) (s : List ℕ) → Controls shape s → (v : ℕ) → v < shape.count → (called (rpr_read v) s).value ≡ running shape v s
unfolding read_v2_cpu_interface
running_call shape s h v exists = simp (valid shape s h, rpr_at, found true shape v (λ e. exists))

-- by either name
either_name : (alias : Bool) (v : ℕ) (s : List ℕ) → called (acknowledge_read alias v) s ≡ called (iar_read v) s
either_name true v s = aiar_is_iar v s
either_name false v s = refl

module _ (h : Handler) (r : Runs h) where
  abbrev shape : Shape
  shape = h.shape

  abbrev v : ℕ
  v = h.vcpu

  abbrev words : List ℕ
  words = h.words

  abbrev below : ℕ
  below = depth_at shape v words

  abbrev own : Entry
  own = record { intid = record { 0 = h.interrupt }; priority = record { 0 = own_group h } }

  -- the read that gave it pushed it
  record Entered (s : List ℕ) : Type 0 where
    room : below < stack_capacity
    stands : Stands shape v below own (point_of h) s

  gave_it : (c : Candidate) → Giving shape v c words → handed_out shape v c words ≡ h.interrupt + 1024 * h.source → Entered (given shape v c words)
  gave_it c o q =
      let lent = givable shape words (lawful_sound r.controls.lawful) v c o in
      let best : IsBest shape v words shape.limit c = best_is shape v words c (offer_is shape v words c o.offered).best_one in
      let number : c.intid.0 ≡ h.interrupt = omega (arith, q, r.numbered, best.below, r.controls.lawful.in_range.state.limits.few_numbers) in
      let its : c.priority.0 ≡ (record_at shape v h.interrupt words).priority.0 = best.priority ∙ ap (λ (m : ℕ). (record_at shape v m words).priority.0) number in
      record {
        room = o.room;
        stands = record {
          deeper = rw (given_depth shape v c words lent) (omega arith);
          entry = newest shape words r.controls.lawful v c o ∙ (λ j. record { intid = record { 0 = number j }; priority = record { 0 = group_priority (point_of h) (its j) } });
          point = subst (λ (w : ℕ). kept BinaryPoint w ≤ point_of h)
              (sym (given_others shape v c words lent (Interface v BinaryPoint) r.exists (apart_record (Interface v BinaryPoint) v c.intid.0 refl) (kinds_apart (Interface v BinaryPoint) (Sources v c.intid.0) refl)
              (point_apart v v) (kinds_apart (Interface v BinaryPoint) (Stack v below) refl))) (omega arith);
        };
      }

  entered_is : entered h ≡ read_answer (acknowledge shape v words) words (acknowledged shape v words)
  entered_is = either_name h.alias v words ∙ acknowledge_call shape words r.controls v r.exists

  entered_so : Entered (entered h).state
  entered_so =
      subst (λ (o : Outcome). o.value ≡ h.interrupt + 1024 * h.source → Entered o.state) (sym entered_is)
      (acknowledge_cases shape words r.controls v (λ e. r.exists) (λ o. o.value ≡ h.interrupt + 1024 * h.source → Entered o.state) (λ q. absurd (omega (arith, q, r.numbered))) gave_it)
      r.given

  abbrev s : List ℕ
  s = later h

  -- and there it still is
  stands_on : Controls shape s × Stands shape v below own (point_of h) s
  stands_on =
      never_keeps (λ t c o. ends_story h t (deed c) o) (λ t. Controls shape t × Stands shape v below own (point_of h) t)
      (λ c t p q. call_stands h own refl r.exists entered_so.room t p.0 p.1 c q)
      h.meanwhile (entered h).state (every_other_call shape (acknowledge_read h.alias v) refl words r.controls, entered_so.stands) r.unended

  controls : Controls shape s
  controls = stands_on.0

  own_priority : priority_at shape v below s ≡ own_group h
  own_priority = ap (λ (e : Entry). e.priority.0) stands_on.1.entry

  -- the newest is it, or one that is smaller
  newest_or : (P : ℕ → Type 0) → (depth_at shape v s ≡ below + 1 → P (own_group h)) → ((p : ℕ) → p < own_group h → (depth_at shape v s ≡ below + 1 → ⊥) → P p) → P (running shape v s)
  newest_or P itself other = go (depth_at shape v s) refl
    where
      go : (d : ℕ) → depth_at shape v s ≡ d → P (running shape v s)
      go zero q = absurd (omega (arith, q, stands_on.1.deeper))
      go (suc d) q =
          rw (running_newest shape v s controls.lawful.orderly r.exists d q)
          (same_or below d
          (λ e. subst P (sym (ap (λ (k : ℕ). priority_at shape v k s) (sym e) ∙ own_priority)) (itself (omega (arith, q, e))))
          (λ e. other (priority_at shape v d s)
          (rw own_priority at (controls.lawful.orderly.falling v below d r.exists (omega (arith, q, e, stands_on.1.deeper)) (omega (arith, q)))) (λ w. e (omega (arith, q, w)))))

  running_most : running shape v s ≤ own_group h
  running_most = newest_or (λ p. p ≤ own_group h) (λ q. omega arith) (λ p b q. omega (arith, b))

  abbrev running_read_lem : (running_read h).value ≡ running shape v s
  running_read_lem = running_call shape s controls v r.exists

  next_is : (alias : Bool) → next_read alias h ≡ read_answer (acknowledge shape v s) s (acknowledged shape v s)
  next_is alias = either_name alias v s ∙ acknowledge_call shape s controls v r.exists

  -- what is given preempts what runs, and by a larger binary point its group would be smaller still
  smaller_only : (alias : Bool) (n source : ℕ) → (next_read alias h).value ≡ n + 1024 * source → n < 1020 → group_in h n s < own_group h
  smaller_only alias n source =
      subst (λ (o : Outcome). o.value ≡ n + 1024 * source → n < 1020 → group_in h n s < own_group h) (sym (next_is alias))
      (acknowledge_cases shape s controls v (λ e. r.exists) (λ o. o.value ≡ n + 1024 * source → n < 1020 → group_in h n s < own_group h) (λ q b. absurd (omega (arith, q, b))) gives)
    where
      gives : (c : Candidate) → Giving shape v c s → handed_out shape v c s ≡ n + 1024 * source → n < 1020 → group_in h n s < own_group h
      gives c o q b =
          let offered = offer_is shape v s c o.offered in
          let best : IsBest shape v s shape.limit c = best_is shape v s c offered.best_one in
          let number : c.intid.0 ≡ n = omega (arith, q, b, best.below, controls.lawful.in_range.state.limits.few_numbers) in
          let its : c.priority.0 ≡ (record_at shape v n s).priority.0 = best.priority ∙ ap (λ (m : ℕ). (record_at shape v m s).priority.0) number in
          let coarser = group_coarser (point_of h) (interface_at shape v BinaryPoint s) c.priority.0 stands_on.1.point in
          let group : group_priority (point_of h) c.priority.0 ≡ group_in h n s = ap (group_priority (point_of h)) its in
          omega (arith, ltb-true (group_of shape v s c) (running shape v s) offered.preempting_one, running_most, coarser, group)

  innermost : is_innermost h s ≡ true → running shape v s ≡ own_group h
  innermost q = newest_or (λ p. p ≡ own_group h) (λ w. refl) (λ p b w. absurd (w (eqb-true (depth_at shape v s) (below + 1) q)))

  -- a smaller group lies below the handler's, whatever the binary point has become
  given_over : (alias : Bool) (n : ℕ) → Foremost h n → is_innermost h s ≡ true → group_in h n s < own_group h → IsGiven h n (next_read alias h)
  given_over alias n f q less =
      let p : ℕ = (record_at shape v n s).priority.0 in
      let under : p < own_group h = group_below (point_of h) p (record_at shape v h.interrupt words).priority.0 less in
      let grouped = group_at_most (interface_at shape v BinaryPoint s) p in
      let read =
      either_name alias v s
      ∙ candidate_call shape v n s controls r.exists f.numbered f.on f.waits
      (lt-ltb (group_of shape v s (candidate_for shape v s n)) (running shape v s) (omega (arith, under, grouped, innermost q))) f.none_ahead
      in
      record { accepted = ap (λ (o : Outcome). o.refusal) read; given = ap (λ (o : Outcome). o.value) read }

  pub a_handler_is_shielded : Shielded h
  a_handler_is_shielded = record {
    none_of_its_group = λ alias n source same q b. omega (arith, same, smaller_only alias n source q b);
    only_smaller = smaller_only;
    smaller_given = given_over;
    runs = λ q. running_read_lem ∙ innermost q;
    runs_at_most = rw running_read_lem running_most;
  }
