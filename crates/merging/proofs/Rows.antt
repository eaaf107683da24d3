-- Any number of writes by one vCPU at one place, with nothing between them, are one write. They are merged from the first on, so that only the state before
-- them need be one that demand 3 describes: the state after the first need not be, for an enable may pend an SGI that is level with its line high. Assumes
-- nothing.
use mathlib.Core.Path.{◌≡◌, refl, sym, ap, ◌∙◌}
use mathlib.Core.Bool.{Bool, true, ◌||◌}
use mathlib.Core.List.{List, [], ◌∷◌}
use Prim.Native.Nat.{ℕ, ◌+◌, ◌^◌, ◌<◌}
use native.Mathlib.Omega.{arith}
use lib.Bits.{bit_or, or_zero_r, or_lt}
use lib.Pow.{pow_mono}
use Rattle.register.specs.declared.frame.AccessWidth.{AccessWidth}
use Rattle.register.specs.declared.ranges.ByteRegister.TheVariants.{Ipriorityr, Itargetsr, Cpendsgir, Spendsgir}
use Rattle.register.specs.declared.ranges.Class.{Class}
use Rattle.register.specs.declared.ranges.Class.TheVariants.{Ctlr, Typer, Iidr, Sgir, Bits, Bytes, Other}
use Rattle.word.specs.Word.{flag}
use Rattle.state.proofs.WordBits.{by_bits, under_power}
use Rattle.merging.specs.Merging.{Described, PlacedAs, write_there, MayMerge, as_one, Supposes, wakes_add, row_state, row_wakes, row_as_one, RowMayMerge}
use Rattle.merging.proofs.Calls.{two_writes_are_one, wake_sets_add_up}
use Rattle.merging.proofs.Joined.{flag_or, or_either}
use Rattle.merging.proofs.Rings.{both_filter, both_number}

-- sets joined in any order
or_assoc : (a b c : ℕ) → bit_or (bit_or a b) c ≡ bit_or a (bit_or b c)
or_assoc a b c =
    by_bits n (bit_or (bit_or a b) c) (bit_or a (bit_or b c)) (or_lt n (bit_or a b) c (or_lt n a b wide_a wide_b) wide_c) (or_lt n a (bit_or b c) wide_a (or_lt n b c wide_b wide_c))
    (λ i l. flag_or i (bit_or a b) c ∙ ap (λ (p : Bool). p || flag i c) (flag_or i a b) ∙ or_either (flag i a) (flag i b) (flag i c) ∙ sym (flag_or i a (bit_or b c) ∙ ap (λ (p : Bool). flag i a || p) (flag_or i b c)))
  where
    n : ℕ
    n = a + b + c

    wide_a : a < 2 ^ n
    wide_a = let p = under_power a in let q = pow_mono {i = a} {j = n} (omega arith) in omega arith

    wide_b : b < 2 ^ n
    wide_b = let p = under_power b in let q = pow_mono {i = b} {j = n} (omega arith) in omega arith

    wide_c : c < 2 ^ n
    wide_c = let p = under_power c in let q = pow_mono {i = c} {j = n} (omega arith) in omega arith

-- what may be merged with the first of two may be merged with the one that they are
may_again : (c : Class) (a b d : ℕ) → MayMerge c a b → MayMerge c a d → MayMerge c (as_one c a b) d
may_again Ctlr a b d p q = tt
may_again Typer a b d p q = tt
may_again Iidr a b d p q = tt
may_again Sgir a b d p q = record { filter = both_filter a b p ∙ q.filter; number = both_number a b p ∙ q.number }
may_again (Bits register) a b d p q = tt
may_again (Bytes register) a b d p q = tt
may_again Other a b d p q = tt

row_again : (c : Class) (a b : ℕ) (bs : List ℕ) → MayMerge c a b → RowMayMerge c a bs → RowMayMerge c (as_one c a b) bs
row_again c a b [] p q = tt
row_again c a b (d ∷ bs) p q = (may_again c a b d p q.0, row_again c a b bs p q.1)

described_supposes : (c : Class) (s : List ℕ) → Described s → Supposes c s
described_supposes Ctlr s d = tt
described_supposes Typer s d = tt
described_supposes Iidr s d = tt
described_supposes Sgir s d = tt
described_supposes (Bits register) s d = tt
described_supposes (Bytes Ipriorityr) s d = tt
described_supposes (Bytes Itargetsr) s d = tt
described_supposes (Bytes Cpendsgir) s d = d
described_supposes (Bytes Spendsgir) s d = tt
described_supposes Other s d = tt

module _ (v offset : ℕ) (width : AccessWidth) (class : Class) (at : PlacedAs offset width class) (s : List ℕ) where
  pub a_row_is_one : (a : ℕ) (bs : List ℕ) → RowMayMerge class a bs → Supposes class s → row_state (write_there v offset width) (a ∷ bs) s ≡ (write_there v offset width (row_as_one class a bs) s).state
  a_row_is_one a [] may d = refl
  a_row_is_one a (b ∷ bs) may d =
      ap (row_state (write_there v offset width) bs) (two_writes_are_one v offset width class at a b may.0 s d).state ∙ a_row_is_one (as_one class a b) bs (row_again class a b bs may.0 may.1) d

  pub row_wake_sets_add_up : wakes_add class ≡ true → (a : ℕ) (bs : List ℕ) → RowMayMerge class a bs → Described s
      → row_wakes (write_there v offset width) (a ∷ bs) s ≡ (write_there v offset width (row_as_one class a bs) s).wake
  row_wake_sets_add_up adds a [] may d = or_zero_r (write_there v offset width a s).wake
  row_wake_sets_add_up adds a (b ∷ bs) may d =
      let write = write_there v offset width in
      sym (or_assoc (write a s).wake (write b (write a s).state).wake (row_wakes write bs (write b (write a s).state).state))
      ∙ (λ i. bit_or (wake_sets_add_up v offset width class at adds a b may.0 s d i) (row_wakes write bs ((two_writes_are_one v offset width class at a b may.0 s (described_supposes class s d)).state i)))
      ∙ row_wake_sets_add_up adds (as_one class a b) bs (row_again class a b bs may.0 may.1) d
