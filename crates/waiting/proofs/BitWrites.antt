-- What a write to a bit register makes of the record of a number, as any vCPU meets it: for all eight registers. Assumes nothing.
use mathlib.Core.Path.{◌≡◌, refl, sym, ap, subst, ◌∙◌}
use mathlib.Core.Bool.{Bool, true, false, cond, ◌&&◌, true≢false}
use mathlib.Core.List.{List}
use mathlib.Core.Logic.{inl, inr}
use Prim.Native.Nat.{ℕ, ◌+◌, ◌-◌, ◌<◌}
use native.Mathlib.Omega.{arith}
use Rattle.word.specs.Fields.{field_at}
use Rattle.word.specs.Word.{record_of}
use Rattle.register.specs.declared.frame.AccessWidth.{AccessWidth}
use Rattle.register.specs.declared.ranges.BitRegister.{BitRegister}
use Rattle.register.specs.declared.ranges.Class.TheVariants.{Bits}
use Rattle.register.specs.declared.distributor.Place.{Place}
use Rattle.state.specs.declared.layout.Shape.{Shape}
use Rattle.state.specs.Layout.{Room, Sources}
use Rattle.state.specs.Words.{record_slot, RecordThere, record_at}
use Rattle.state.proofs.Accessors.{record_exists}
use Rattle.state.proofs.Numbers.{Of}
use Rattle.state.proofs.SlotKinds.{record_apart}
use Rattle.state.proofs.Tests.{left_true, right_true}
use Rattle.bits.specs.Bits.{field_bits, per_word, write_bits, BitWordAt}
use Rattle.bits.proofs.Registers.{written, record_written, bits_others}
use Rattle.places.specs.Places.{write_place_looks_up, Located}
use Rattle.places.proofs.Fits.{private_word, bit_word_lem}
use Rattle.waiting.specs.Waiting.{meets, is_class, among}
use Rattle.waiting.proofs.Keeping.{is_class_lem, run_at, among_is}
use Rattle.waiting.proofs.RecordMoves.{met, met_record}

module _ (shape : Shape) (register : BitRegister) (v n : ℕ) (there : RecordThere shape v n) (u first value : ℕ) (s : List ℕ) (at : BitWordAt shape register u first s) where
  abbrev after : List ℕ
  after = write_bits shape register u first value s

  abbrev field : ℕ
  field = field_at (field_bits register) (n - first) value

  -- a word that the number stands in, as u meets it
  inside : meets v n u ≡ true → among n first (per_word register) ≡ true → record_at shape v n after ≡ written register n field (record_at shape v n s)
  inside meeting run =
      let place = among_is n first (per_word register) run in
      sym (met_record v n shape u meeting after)
      ∙ subst (λ (m : ℕ). record_at shape u m after ≡ written register m field (record_at shape u m s)) place.0
      (record_written shape register u first value s at (n - first) place.1 (rw place.0 there.numbered))
      ∙ ap (written register n field) (met_record v n shape u meeting s)

  -- and any other
  outside : (meets v n u && among n first (per_word register)) ≡ false → record_at shape v n after ≡ record_at shape v n s
  outside e = ap record_of (bits_others shape register u first value s at (record_slot v n) (record_exists shape v n there) apart)
    where
      apart : (i : ℕ) → i < per_word register → Of u (first + i) (record_slot v n) → ⊥
      apart i b (inl p) = true≢false (simp ((met v n u (first + i) p).meeting, (run_at n first i (per_word register) b (met v n u (first + i) p).number).0) at e)
      apart i b (inr p) = record_apart v n (Sources u (first + i)) refl p

  pub bit_record : record_at shape v n after ≡ cond (meets v n u && among n first (per_word register)) (written register n field (record_at shape v n s)) (record_at shape v n s)
  bit_record = go (meets v n u && among n first (per_word register)) refl
    where
      go : (b : Bool) → (meets v n u && among n first (per_word register)) ≡ b → record_at shape v n after ≡ cond b (written register n field (record_at shape v n s)) (record_at shape v n s)
      go true e = inside (left_true (meets v n u) (among n first (per_word register)) e) (right_true (meets v n u) (among n first (per_word register)) e)
      go false e = outside e

-- where a write falls on the number n in such a register, and its field is as it should be: the vCPU that meets n makes it, and is not refused
module _ (shape : Shape) (register : BitRegister) (n : ℕ) (s : List ℕ) (h : Room shape s) (u : ℕ) (there : RecordThere shape u n) (place : Place) (width : AccessWidth) (set : Bool)
    (hits : (is_class (Bits register) place.class && among n place.first.0 (per_word register) && set) ≡ true) (located : Located place width) where
  front : (is_class (Bits register) place.class && among n place.first.0 (per_word register)) ≡ true
  front = left_true (is_class (Bits register) place.class && among n place.first.0 (per_word register)) set hits

  pub hit_class : place.class ≡ Bits register
  hit_class = is_class_lem (Bits register) place.class (left_true (is_class (Bits register) place.class) (among n place.first.0 (per_word register)) front)

  pub hit_run : among n place.first.0 (per_word register) ≡ true
  hit_run = right_true (is_class (Bits register) place.class) (among n place.first.0 (per_word register)) front

  pub hit_field : set ≡ true
  hit_field = right_true (is_class (Bits register) place.class && among n place.first.0 (per_word register)) set hits

  own_private : place.private ≡ true → u < shape.count
  own_private q = there.banked (omega (arith, private_word shape u place width s h located register hit_class q, among_is n place.first.0 (per_word register) hit_run))

  pub hit_found : (value : ℕ) → write_place_looks_up place.class place.private value ≡ true → u < shape.count
  hit_found value q = own_private (rw hit_class at q)

  pub hit_word : BitWordAt shape register u place.first.0 s
  hit_word = bit_word_lem shape u place width s h located register hit_class own_private
