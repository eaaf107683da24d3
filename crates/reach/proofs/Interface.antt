-- An acknowledge, EOIR and Deactivate go through a change of lent words that the slots do not see; what they hand out is the same. Assumes
-- nothing.
use Rattle.std.specs.Prelude.{Option, Some, None}
use mathlib.Core.Path.{◌≡◌, refl, ap, ◌∙◌}
use mathlib.Core.Bool.{Bool, true, false, cond, ◌&&◌}
use mathlib.Core.List.{List}
use Prim.Native.Nat.{ℕ, ◌+◌, ◌-◌, ◌^◌, ◌≤◌, ◌<◌}
use native.Mathlib.Omega.{arith}
use lib.Dec.{eqb, ltb}
use borrow.Author.Tests.{ltb-true}
use Rattle.interrupt.specs.Record.{set_pending, complete}
use Rattle.state.specs.declared.layout.Shape.{Shape}
use Rattle.state.specs.declared.layout.InterfaceValue.{InterfaceValue}
use Rattle.state.specs.declared.layout.InterfaceValue.TheVariants.{Depth}
use Rattle.state.specs.declared.words.Entry.{Entry}
use Rattle.state.specs.Layout.{Interface, Stack, Room, stack_capacity}
use Rattle.state.specs.Words.{RecordThere, record_at, changed, sources_at, kept, with_interface, entry_word, with_entry, without_entry}
use Rattle.state.proofs.Tests.{left_true}
use Rattle.sgi.specs.Sgi.{merged_sources}
use Rattle.select.specs.declared.Candidate.{Candidate}
use Rattle.service.specs.Service.{depth_at, stack_at, is_newest, pushed, popped, dropped, Served}
use Rattle.service.proofs.Stacks.{newest_some}
use Rattle.acknowledge.specs.Acknowledge.{group_of, offer, source_of, pend_if_left, source_taken, given_record, pushed_for, given, taken, acknowledged}
use Rattle.acknowledge.proofs.Offers.{offer_below}
use Rattle.end.specs.End.{served_here, only_active, retire, deactivated, retired, deactivates, ended, end_retired}
use Rattle.reach.proofs.Readings.{Alike, interface_alike, sources_alike, group_of_alike, source_of_alike, tested_alike, stack_alike, offer_alike, retired_alike, deactivates_alike}
use Rattle.reach.proofs.Around.{Around, Passes, Through, long_room, none_passes, then_passes, choice_passes, with_passes, then_through, if_through, put_through, changed_through}
use Rattle.reach.proofs.Distributor.{sources_through}

module _ {shape : Shape} {wrap : List ℕ → List ℕ} (around : Around shape wrap) (v : ℕ) (exists : v < shape.count) where
  there : {n : ℕ} → n < shape.limit → RecordThere shape v n
  there below = record { numbered = below; banked = λ low. exists }

  pub interface_through : (k : InterfaceValue) (x : ℕ) → Through shape wrap (with_interface shape v k x)
  interface_through k x = put_through around (Interface v k) (λ s. kept k x) exists (omega arith) (λ s h. refl)

  pub deactivated_through : (n : ℕ) → Through shape wrap (deactivated shape v n)
  unfolding deactivated
  deactivated_through n = λ s h.
      choice_passes (λ r. ltb n shape.limit && served_here v (record_at shape v n r)) (tested_alike (around.alike s h) v exists n (served_here v))
      (λ e. changed_through around v n retire (own (served_here v (record_at shape v n s)) e) s h)
      (λ e. choice_passes (λ r. ltb n shape.limit && only_active (record_at shape v n r)) (tested_alike (around.alike s h) v exists n only_active)
      (λ q. changed_through around v n complete (own (only_active (record_at shape v n s)) q) s h)
      (λ q. none_passes s))
    where
      own : (c : Bool) → (ltb n shape.limit && c) ≡ true → RecordThere shape v n
      own c e = there (ltb-true n shape.limit (left_true (ltb n shape.limit) c e))

  module _ (s : List ℕ) (h : Served shape v s) where
    abbrev same : Alike shape (wrap s) s
    same = around.alike s h.state

    abbrev depth : ℕ
    depth = depth_at shape v s

    deep : depth ≤ stack_capacity
    deep = h.deep

    depth_alike : depth_at shape v (wrap s) ≡ depth
    depth_alike = interface_alike same v exists Depth

    -- an acknowledge
    source_through : (n source : ℕ) → RecordThere shape v n → Through shape wrap (source_taken shape v n source)
    unfolding source_taken pend_if_left
    source_through n source own =
        if_through (ltb n 16)
        (λ e.
        let sgi : n < 16 = ltb-true n 16 e in
        then_through (sources_through around h.state.limits v n exists sgi (λ x. merged_sources false x (2 ^ source)))
        (λ r k. choice_passes (λ q. eqb (sources_at shape v n q) 0) (ap (λ (x : ℕ). eqb x 0) (sources_alike (around.alike r k) v exists n sgi))
        (λ q. none_passes r) (λ q. changed_through around v n (λ q. set_pending q true) own r k)))

    pushed_passes : (e : Entry) → depth < stack_capacity → Passes wrap (pushed shape v e) s
    unfolding pushed
    pushed_passes e room =
        with_passes (depth_at shape v) (λ d r. with_entry shape v d e (with_interface shape v Depth (d + 1) r)) depth_alike
        (then_through (interface_through Depth (depth + 1)) (put_through around (Stack v depth) (λ r. entry_word e) (exists, room) (omega arith) (λ r k. refl)) s h.state)

    given_passes : (e : Candidate) → depth < stack_capacity → e.intid.0 < shape.limit → Passes wrap (given shape v e) s
    unfolding given
    given_passes e room below =
        let n : ℕ = e.intid.0 in
        let entry : Entry = pushed_for shape v s e in
        let push : Passes wrap (pushed shape v entry) s = pushed_passes entry room in
        with_passes (λ r. group_of shape v r e) (λ q r. source_taken shape v n (source_of shape v n r) (changed shape v n (given_record v) (pushed shape v (record { intid = e.intid; priority = record { 0 = q } }) r))) (group_of_alike same v exists e)
        (with_passes (source_of shape v n) (λ source r. source_taken shape v n source (changed shape v n (given_record v) (pushed shape v entry r))) (source_of_alike same v exists n)
        (then_passes push (then_through (changed_through around v n (given_record v) (there below)) (source_through n (source_of shape v n s) (there below)) (pushed shape v entry s) (long_room push.long h.state))))

    taken_passes : (b : Option Candidate) → offer shape v s ≡ b → Passes wrap (λ r. taken shape v r b) s
    unfolding taken
    taken_passes None p = none_passes s
    taken_passes (Some e) p =
        choice_passes (λ r. ltb (depth_at shape v r) stack_capacity) (ap (λ (d : ℕ). ltb d stack_capacity) depth_alike)
        (λ q. given_passes e (ltb-true depth stack_capacity q) (offer_below shape v s e p)) (λ q. none_passes s)

    pub acknowledged_passes : Passes wrap (acknowledged shape v) s
    acknowledged_passes = with_passes (offer shape v) (λ b r. taken shape v r b) (offer_alike same v exists deep) (taken_passes (offer shape v s) refl)

    -- EOIR
    popped_passes : 0 < depth → Passes wrap (popped shape v) s
    unfolding popped
    popped_passes some =
        with_passes (depth_at shape v) (λ d r. with_interface shape v Depth (d - 1) (without_entry shape v (d - 1) r)) depth_alike
        (then_through (put_through around (Stack v (depth - 1)) (λ r. 0) (exists, omega (arith, deep)) (omega arith) (λ r k. refl)) (interface_through Depth (depth - 1)) s h.state)

    module _ (n : ℕ) where
      dropped_passes : Passes wrap (dropped shape v n) s
      unfolding dropped
      dropped_passes =
          choice_passes (λ r. is_newest n (stack_at shape v r)) (ap (is_newest n) (stack_alike same v exists deep))
          (λ e. popped_passes (newest_some shape v s n e)) (λ e. none_passes s)

      dropped_room : Room shape (dropped shape v n s)
      dropped_room = long_room dropped_passes.long h.state

      pub ended_passes : Passes wrap (ended shape v n) s
      unfolding ended
      ended_passes =
          choice_passes (deactivates shape v n) (deactivates_alike same v exists deep n)
          (λ e. then_passes dropped_passes (deactivated_through n (dropped shape v n s) dropped_room)) (λ e. dropped_passes)

      pub end_retired_alike : end_retired shape v n (wrap s) ≡ end_retired shape v n s
      unfolding end_retired
      end_retired_alike =
          (λ i. cond (deactivates_alike same v exists deep n i) (retired shape v n (dropped_passes.same i)) 1023)
          ∙ ap (λ (x : ℕ). cond (deactivates shape v n s) x 1023) (retired_alike (around.alike (dropped shape v n s) dropped_room) v exists n)
