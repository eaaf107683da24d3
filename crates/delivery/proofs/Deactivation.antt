-- Deactivate, and so DIR: the record of the number becomes what document 01 says, and no other slot changes. Assumes nothing.
use mathlib.Core.Path.{◌≡◌, refl, ap}
use mathlib.Core.Bool.{Bool, true, false, cond, ◌&&◌}
use mathlib.Core.List.{List}
use Prim.Native.Nat.{ℕ, ◌≤◌, ◌<◌}
use lib.Dec.{ltb}
use borrow.Author.Tests.{lt-ltb, ltb-true}
use Rattle.interrupt.specs.Record.{deactivate_inflight, complete, set_owner}
use Rattle.interrupt.specs.declared.record.InterruptRecord.{InterruptRecord}
use Rattle.word.specs.Word.{record_of, word_of, InRange}
use Rattle.word.proofs.RecordWord.{decoded_in_range}
use Rattle.state.specs.declared.layout.Shape.{Shape}
use Rattle.state.specs.declared.layout.InterfaceValue.TheVariants.{Depth}
use Rattle.state.specs.Layout.{Slot, Interface, Stack, Exists, Room, stack_capacity}
use Rattle.state.specs.Words.{word_at, record_slot, RecordThere, record_at, changed}
use Rattle.state.proofs.Accessors.{put_room, put_other, record_exists, record_same}
use Rattle.state.proofs.SlotKinds.{apart_record}
use Rattle.service.specs.Service.{depth_at, stack_at}
use Rattle.service.proofs.Stacks.{stack_same}
use Rattle.end.specs.End.{served_here, only_active, retire, deactivated}
use Rattle.delivery.specs.Delivery.{deactivate}

retire_in_range : (r : InterruptRecord) → InRange r → InRange (retire r)
unfolding retire set_owner deactivate_inflight
retire_in_range r i = record { priority_byte = i.priority_byte; mask_byte_lem = i.mask_byte_lem; owner_byte_lem = tt }

complete_in_range : (r : InterruptRecord) → InRange r → InRange (complete r)
unfolding complete
complete_in_range r i = record { priority_byte = i.priority_byte; mask_byte_lem = i.mask_byte_lem; owner_byte_lem = i.owner_byte_lem }

module _ (shape : Shape) (v n : ℕ) (s : List ℕ) (h : Room shape s) (exists : v < shape.count) where
  there : n < shape.limit → RecordThere shape v n
  there b = record { numbered = b; banked = λ c. exists }

  -- the three cases, below the limit or not
  module _ (P : List ℕ → Type 0) (same : P s) (written : n < shape.limit → (f : InterruptRecord → InterruptRecord) → ((r : InterruptRecord) → InRange r → InRange (f r)) → P (changed shape v n f s)) where
    pub deactivated_cases : P (deactivated shape v n s)
    unfolding deactivated
    deactivated_cases = go (ltb n shape.limit) refl (served_here v (record_at shape v n s)) (only_active (record_at shape v n s))
      where
        go : (b : Bool) → ltb n shape.limit ≡ b → (c d : Bool) → P (cond (b && c) (changed shape v n retire s) (cond (b && d) (changed shape v n complete s) s))
        go true e true d = written (ltb-true n shape.limit e) retire retire_in_range
        go true e false true = written (ltb-true n shape.limit e) complete complete_in_range
        go true e false false = same
        go false e c d = same

  pub deactivated_room : Room shape (deactivated shape v n s)
  deactivated_room = deactivated_cases (Room shape) h (λ b f k. put_room shape s (record_slot v n) (word_of (f (record_at shape v n s))) h)

  pub deactivated_others : (t : Slot) → Exists shape t → (t ≡ record_slot v n → ⊥) → word_at shape t (deactivated shape v n s) ≡ word_at shape t s
  deactivated_others t x apart =
      deactivated_cases (λ r. word_at shape t r ≡ word_at shape t s) refl
      (λ b f k. put_other shape s t (record_slot v n) (word_of (f (record_at shape v n s))) x (record_exists shape v n (there b)) apart)

  -- no record but its own, and no stack
  pub deactivated_records : (u m : ℕ) → RecordThere shape u m → (record_slot u m ≡ record_slot v n → ⊥) → record_at shape u m (deactivated shape v n s) ≡ record_at shape u m s
  deactivated_records u m x apart = ap record_of (deactivated_others (record_slot u m) (record_exists shape u m x) apart)

  pub deactivated_stacks : (u : ℕ) → u < shape.count → depth_at shape u s ≤ stack_capacity → stack_at shape u (deactivated shape v n s) ≡ stack_at shape u s
  deactivated_stacks u x deep =
      stack_same shape u s (deactivated shape v n s) deep
      (deactivated_others (Interface u Depth) x (apart_record (Interface u Depth) v n refl))
      (λ i b. deactivated_others (Stack u i) (x, b) (apart_record (Stack u i) v n refl))

  -- its own record
  pub deactivated_record : n < shape.limit → record_at shape v n (deactivated shape v n s) ≡ deactivate v (record_at shape v n s)
  unfolding deactivated
  deactivated_record b = simp (lt-ltb n shape.limit b) (go (served_here v (record_at shape v n s)) (only_active (record_at shape v n s)))
    where
      old : InRange (record_at shape v n s)
      old = decoded_in_range (word_at shape (record_slot v n) s)

      go : (c d : Bool) → record_at shape v n (cond c (changed shape v n retire s) (cond d (changed shape v n complete s) s))
          ≡ cond c (retire (record_at shape v n s)) (cond d (complete (record_at shape v n s)) (record_at shape v n s))
      go true d = record_same shape s v n (retire (record_at shape v n s)) h (record_exists shape v n (there b)) (retire_in_range (record_at shape v n s) old)
      go false true = record_same shape s v n (complete (record_at shape v n s)) h (record_exists shape v n (there b)) (complete_in_range (record_at shape v n s) old)
      go false false = refl
