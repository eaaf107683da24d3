-- An input that passed its tests has a record, and makes no state one that refusal 6 is for. Assumes nothing.
use Rattle.std.specs.Prelude.{Option, Some, None}
use mathlib.Core.Path.{◌≡◌, refl, subst}
use mathlib.Core.Bool.{Bool, true, false, not, cond, ◌&&◌}
use mathlib.Core.List.{List}
use Prim.Native.Nat.{ℕ, ◌<◌}
use lib.Dec.{ltb}
use borrow.Author.Tests.{ltb-true, lt-ltb}
use Rattle.interrupt.specs.declared.types.IntId.{IntId}
use Rattle.interrupt.specs.declared.record.InterruptRecord.{InterruptRecord}
use Rattle.state.specs.declared.layout.Shape.{Shape}
use Rattle.state.specs.declared.layout.InterfaceValue.TheVariants.{Depth}
use Rattle.state.specs.Layout.{Interface}
use Rattle.state.specs.Words.{RecordThere, record_slot, changed}
use Rattle.state.proofs.Accessors.{put_room, put_other, record_exists}
use Rattle.state.proofs.SlotKinds.{apart_record}
use Rattle.state.proofs.Tests.{right_true}
use Rattle.service.specs.Service.{Sound}
use Rattle.places.proofs.Sounds.{depths_sound}
use Rattle.answer.specs.Answer.{absent}
use Rattle.input.specs.Input.{input_of}
use Rattle.answer.proofs.Present.{present}

pub changed_sound : (shape : Shape) (v n : ℕ) (f : InterruptRecord → InterruptRecord) (s : List ℕ) → Sound shape s → RecordThere shape v n → Sound shape (changed shape v n f s)
changed_sound shape v n f s h there =
    depths_sound shape s _ h (put_room shape s (record_slot v n) _ h.state)
    (λ u x. put_other shape s (Interface u Depth) (record_slot v n) _ x (record_exists shape v n there) (apart_record (Interface u Depth) v n refl))

abbrev Below : Shape → Option IntId → Type 0
Below shape (Some n) = n.0 < shape.limit
Below shape None = Unit

pub input_there : (shape : Shape) (v number : ℕ) (n : IntId) → input_of shape number ≡ Some n → absent (ltb n.0 32) shape v ≡ false → RecordThere shape v n.0
unfolding input_of
input_there shape v number n p e = record {
  numbered = subst (Below shape) p (go (not (ltb number 16) && ltb number shape.limit) refl);
  banked = λ low. present (ltb n.0 32) shape v e (lt-ltb n.0 32 low);
}
  where
    go : (b : Bool) → (not (ltb number 16) && ltb number shape.limit) ≡ b → Below shape (cond b (Some (record { 0 = number })) None)
    go true q = ltb-true number shape.limit (right_true (not (ltb number 16)) (ltb number shape.limit) q)
    go false q = tt
