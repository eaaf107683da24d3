-- No write to the Distributor makes a state one that refusal 6 is for: no depth is its to change. Assumes nothing.
use mathlib.Core.Path.{◌≡◌, refl, sym}
use mathlib.Core.Bool.{Bool, true, false, cond}
use mathlib.Core.List.{List}
use mathlib.Core.Logic.{inl, inr}
use Prim.Native.Nat.{ℕ, ◌%◌, ◌<◌}
use native.Mathlib.Omega.{arith}
use Rattle.register.specs.declared.frame.AccessWidth.{AccessWidth}
use Rattle.register.specs.declared.ranges.Class.{Class}
use Rattle.register.specs.declared.ranges.Class.TheVariants.{Ctlr, Typer, Iidr, Sgir, Bits, Bytes, Other}
use Rattle.register.specs.declared.distributor.Place.{Place}
use Rattle.state.specs.declared.layout.Shape.{Shape}
use Rattle.state.specs.declared.layout.InterfaceValue.TheVariants.{Depth}
use Rattle.state.specs.Layout.{DistributorControl, Interface, Sources, Room}
use Rattle.state.specs.Words.{word_at}
use Rattle.state.proofs.Accessors.{put_room, put_other}
use Rattle.state.proofs.Numbers.{Of}
use Rattle.state.proofs.SlotKinds.{kinds_apart, record_apart}
use Rattle.service.specs.Service.{Sound}
use Rattle.bits.proofs.Registers.{bits_room, bits_others}
use Rattle.sgi.specs.Sgi.{sgi_target, write_sgir}
use Rattle.sgi.proofs.Rings.{sgi_room, sgi_others}
use Rattle.distributor.specs.Values.{write_control}
use Rattle.distributor.proofs.Registers.{bytes_room, bytes_others}
use Rattle.places.specs.Places.{sends, write_class, write_place, PlaceWritten}
use Rattle.places.proofs.Fits.{bit_word_lem, byte_run}

-- a state with the same depths
pub depths_sound : (shape : Shape) (s r : List ℕ) → Sound shape s → Room shape r
    → ((u : ℕ) → u < shape.count → word_at shape (Interface u Depth) r ≡ word_at shape (Interface u Depth) s) → Sound shape r
depths_sound shape s r h room same = record { state = room; depths = λ u x. rw (same u x) (h.depths u x) }

pub record SameDepths (shape : Shape) (s r : List ℕ) : Type 0 where
  pub room : Room shape r
  pub depth : (u : ℕ) → u < shape.count → word_at shape (Interface u Depth) r ≡ word_at shape (Interface u Depth) s

-- a number has a record and a source set, and no depth
pub no_depth : (u v n : ℕ) → Of v n (Interface u Depth) → ⊥
no_depth u v n (inl p) = record_apart v n (Interface u Depth) refl (sym p)
no_depth u v n (inr p) = kinds_apart (Interface u Depth) (Sources v n) refl p

module _ (shape : Shape) (v : ℕ) (place : Place) (w : AccessWidth) (value : ℕ) (s : List ℕ) (at : PlaceWritten shape v place w value s) where
  stays : SameDepths shape s s
  stays = record { room = at.state; depth = λ u x. refl }

  control_depths : SameDepths shape s (write_control shape value s)
  control_depths = record {
    room = put_room shape s DistributorControl _ at.state;
    depth = λ u x. put_other shape s (Interface u Depth) DistributorControl _ x tt (kinds_apart (Interface u Depth) DistributorControl refl);
  }

  ring_depths : SameDepths shape s (write_sgir shape v value s)
  unfolding write_sgir
  ring_depths = record {
    room = sgi_room shape v (value % 16) (sgi_target value) s at.state (omega arith);
    depth = λ u x. sgi_others shape v (value % 16) (sgi_target value) s at.state (omega arith) (Interface u Depth) x (λ t b. no_depth u t (value % 16));
  }

  ringed_depths : (b : Bool) → SameDepths shape s (cond b (write_sgir shape v value s) s)
  ringed_depths true = ring_depths
  ringed_depths false = stays

  by_class : (c : Class) → place.class ≡ c → SameDepths shape s (write_class shape v c place.first.0 w value s)
  by_class Ctlr e = control_depths
  by_class Typer e = stays
  by_class Iidr e = stays
  by_class Sgir e = ringed_depths (sends value)
  by_class (Bits register) e =
      let word = bit_word_lem shape v place w s at.state at.located register e (λ q. at.looked (simp e q)) in
      record {
        room = bits_room shape register v place.first.0 value s word;
        depth = λ u x. bits_others shape register v place.first.0 value s word (Interface u Depth) x (λ i b. no_depth u v _);
      }
  by_class (Bytes register) e =
      let run = byte_run shape v place w s at.state at.located register e (λ q. at.looked (simp e q)) in
      record {
        room = bytes_room shape register v place.first.0 _ value s run;
        depth = λ u x. bytes_others shape register v place.first.0 _ value s run (Interface u Depth) x (λ i b. no_depth u v _);
      }
  by_class Other e = stays

  pub place_depths : SameDepths shape s (write_place shape v place w value s)
  place_depths = by_class place.class refl

pub place_sound : (shape : Shape) (v : ℕ) (place : Place) (w : AccessWidth) (value : ℕ) (s : List ℕ) → Sound shape s → PlaceWritten shape v place w value s → Sound shape (write_place shape v place w value s)
place_sound shape v place w value s h at = let same = place_depths shape v place w value s at in depths_sound shape s (write_place shape v place w value s) h same.room same.depth
