-- An access to the Distributor case by case, for any property of where it falls: refused by 1 or 2, of a width that a private register does not
-- take, at a single register or no register, at a word of a bit register, or at bytes of a byte array. Assumes nothing.
use mathlib.Core.Path.{◌≡◌, refl}
use mathlib.Core.Bool.{Bool, true, false, cond}
use Prim.Native.Nat.{ℕ, ◌≤◌}
use native.Mathlib.Omega.{arith}
use Rattle.register.specs.declared.frame.AccessWidth.{AccessWidth}
use Rattle.register.specs.declared.frame.Refusal.{Refusal}
use Rattle.register.specs.declared.frame.Refusal.TheVariants.{Access, Width}
use Rattle.register.specs.declared.ranges.BitRegister.{BitRegister}
use Rattle.register.specs.declared.ranges.ByteRegister.{ByteRegister}
use Rattle.register.specs.declared.ranges.Class.{Class}
use Rattle.register.specs.declared.ranges.Class.TheVariants.{Ctlr, Typer, Iidr, Sgir, Bits, Bytes, Other}
use Rattle.register.specs.declared.distributor.DistributorAccess.{DistributorAccess}
use Rattle.register.specs.declared.distributor.DistributorAccess.TheVariants.{Refused, PrivateWidth, At}
use Rattle.register.specs.Distributor.{place_at, plain, other_place, word_start, unfit, single, bit_word, byte_array, within, locate_in_frame, locate_distributor}
use Rattle.register.specs.Frame.{refusal_number, is_dword, is_qword, aligned, in_frame}
use Rattle.register.specs.Ranges.{class_at}
use Rattle.register.proofs.Access.{in_frame_aligned}

-- a class without numbers: a single register, or none
abbrev pub is_single : Class → Bool
is_single Ctlr = true
is_single Typer = true
is_single Iidr = true
is_single Sgir = true
is_single (Bits register) = false
is_single (Bytes register) = false
is_single Other = true

module _ (o : ℕ) (w : AccessWidth) (P : DistributorAccess → Type 0)
    (refuses : (r : Refusal) → refusal_number r ≤ 2 → P (Refused r))
    (looks_up_lem : P PrivateWidth)
    (alone : (c : Class) → is_single c ≡ true → P (At (plain c)))
    (word : (register : BitRegister) → class_at o ≡ Bits register → aligned o w ≡ true → is_dword w ≡ true → P (At (place_at o)))
    (bytes : (register : ByteRegister) → class_at o ≡ Bytes register → aligned o w ≡ true → is_qword w ≡ false → P (At (place_at o))) where
  chosen : (b : Bool) (x y : DistributorAccess) → (b ≡ true → P x) → (b ≡ false → P y) → P (cond b x y)
  chosen true x y p q = p refl
  chosen false x y p q = q refl

  by_width : P (Refused Width)
  by_width = refuses Width (omega arith)

  unfitted : P (unfit (place_at o))
  unfolding unfit
  unfitted = chosen (place_at o).private PrivateWidth (Refused Width) (λ e. looks_up_lem) (λ e. by_width)

  singly : (c : Class) → is_single c ≡ true → P (single c o w)
  unfolding single
  singly c e =
      chosen (word_start o) (cond (is_dword w) (At (plain c)) (Refused Width)) other_place
      (λ s. chosen (is_dword w) (At (plain c)) (Refused Width) (λ d. alone c e) (λ d. by_width))
      (λ s. alone Other refl)

  by_class : aligned o w ≡ true → (c : Class) → class_at o ≡ c → P (within c o w)
  unfolding bit_word byte_array
  by_class a Ctlr e = singly Ctlr refl
  by_class a Typer e = singly Typer refl
  by_class a Iidr e = singly Iidr refl
  by_class a Sgir e = singly Sgir refl
  by_class a (Bits register) e =
      chosen (word_start o) (cond (is_dword w) (At (place_at o)) (unfit (place_at o))) (Refused Width)
      (λ s. chosen (is_dword w) (At (place_at o)) (unfit (place_at o)) (λ d. word register e a d) (λ d. unfitted))
      (λ s. by_width)
  by_class a (Bytes register) e = chosen (is_qword w) (unfit (place_at o)) (At (place_at o)) (λ q. unfitted) (λ q. bytes register e a q)
  by_class a Other e = alone Other refl

  pub each_access : P (locate_distributor o w)
  unfolding locate_distributor locate_in_frame
  each_access =
      chosen (in_frame 0x1000 o w) (within (class_at o) o w) (Refused Access)
      (λ e. by_class (in_frame_aligned 0x1000 o w e) (class_at o) refl)
      (λ e. refuses Access (omega arith))
