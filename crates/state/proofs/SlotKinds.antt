-- Slots of two kinds are two slots. Assumes nothing.
use mathlib.Core.Path.{◌≡◌, refl, sym, ap, ◌∙◌}
use mathlib.Core.Bool.{Bool, true, false, cond}
use lib.Dec.{ltb}
use borrow.Author.Tests.{eqb-false}
use Prim.Native.Nat.{ℕ}
use Rattle.state.specs.Layout.{Slot, Private, Spi, kind_of, same_kind, is_record}
use Rattle.state.specs.Words.{record_slot}

pub kinds_apart : (t u : Slot) → same_kind t u ≡ false → t ≡ u → ⊥
kinds_apart t u apart p = eqb-false (kind_of t) (kind_of u) apart (ap kind_of p)

pub record_kind : (v n : ℕ) → kind_of (record_slot v n) ≡ kind_of (Spi n)
unfolding record_slot
record_kind v n = go (ltb n 32)
  where
    go : (b : Bool) → kind_of (cond b (Private v n) (Spi n)) ≡ kind_of (Spi n)
    go true = refl
    go false = refl

-- a record's slot is of no other kind
pub record_apart : (v n : ℕ) (u : Slot) → is_record u ≡ false → record_slot v n ≡ u → ⊥
record_apart v n u apart p = eqb-false (kind_of u) (kind_of (Spi 0)) apart (ap kind_of (sym p) ∙ record_kind v n)

pub apart_record : (u : Slot) (v n : ℕ) → is_record u ≡ false → u ≡ record_slot v n → ⊥
apart_record u v n apart p = record_apart v n u apart (sym p)
