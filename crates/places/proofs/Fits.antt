-- What the map makes sure of at a place that it gives: a bit register's word is met at 4 bytes, a byte array at no more, and the numbers that
-- are reached lie in the registers, at a private place below 32. So the registers' own loops may be called. Assumes nothing.
use mathlib.Core.Path.{◌≡◌, refl, sym, subst, ◌∙◌}
use mathlib.Core.Bool.{Bool, true, false, cond, ◌&&◌, true≢false}
use mathlib.Core.List.{List}
use Prim.Native.Nat.{ℕ, ◌+◌, ◌*◌, ◌≤◌, ◌<◌}
use native.Mathlib.Omega.{arith}
use lib.Dec.{ltb}
use borrow.Author.Tests.{lt-ltb}
use Rattle.register.specs.declared.frame.AccessWidth.{AccessWidth}
use Rattle.register.specs.declared.frame.AccessWidth.TheVariants.{Byte, Word, Dword, Qword}
use Rattle.register.specs.declared.frame.Refusal.{Refusal}
use Rattle.register.specs.declared.ranges.BitRegister.{BitRegister}
use Rattle.register.specs.declared.ranges.BitRegister.TheVariants.{Igroupr, Isenabler, Icenabler, Ispendr, Icpendr, Isactiver, Icactiver, Icfgr}
use Rattle.register.specs.declared.ranges.ByteRegister.{ByteRegister}
use Rattle.register.specs.declared.ranges.ByteRegister.TheVariants.{Ipriorityr, Itargetsr, Cpendsgir, Spendsgir}
use Rattle.register.specs.declared.ranges.Class.{Class}
use Rattle.register.specs.declared.ranges.Class.TheVariants.{Ctlr, Typer, Iidr, Sgir, Bits, Bytes, Other}
use Rattle.register.specs.declared.distributor.Place.{Place}
use Rattle.register.specs.declared.distributor.DistributorAccess.{DistributorAccess}
use Rattle.register.specs.declared.distributor.DistributorAccess.TheVariants.{Refused, PrivateWidth, At}
use Rattle.register.specs.Distributor.{bit_numbers_per_byte, place_at, plain, locate_distributor}
use Rattle.register.specs.Finding.{is_priority}
use Rattle.register.specs.Frame.{refusal_number, bytes, is_dword, is_qword}
use Rattle.register.specs.Ranges.{ranges, class_at, range_numbered, range_of}
use Rattle.register.proofs.Access.{some_bytes}
use Rattle.register.proofs.Private.{is_banked, private_below}
use Rattle.register.proofs.Ways.{is_single, each_access}
use Rattle.register.proofs.Reach.{reach, numbers, reach_bound}
use Rattle.state.specs.declared.layout.Shape.{Shape}
use Rattle.state.specs.Layout.{Room}
use Rattle.bits.specs.Bits.{per_word, BitWordAt}
use Rattle.distributor.specs.Bytes.{ByteThere, BytesAt}
use Rattle.places.specs.Places.{byte_looks_up, Located}

abbrev WidthFits : Class → AccessWidth → Type 0
WidthFits Ctlr w = Unit
WidthFits Typer w = Unit
WidthFits Iidr w = Unit
WidthFits Sgir w = Unit
WidthFits (Bits register) w = is_dword w ≡ true
WidthFits (Bytes register) w = is_qword w ≡ false
WidthFits Other w = Unit

record Placement (w : AccessWidth) (p : Place) : Type 0 where
  private_is : p.private ≡ (is_banked p.class && ltb p.first.0 32)
  width_fits : WidthFits p.class w

abbrev Fitted : AccessWidth → DistributorAccess → Type 0
Fitted w (Refused r) = refusal_number r ≤ 2
Fitted w PrivateWidth = Unit
Fitted w (At p) = Placement w p

placed : (o : ℕ) (w : AccessWidth) (c : Class) → class_at o ≡ c → WidthFits c w → Placement w (place_at o)
unfolding place_at
placed o w c e f = record { private_is = private_below o; width_fits = subst (λ (k : Class). WidthFits k w) (sym e) f }

alone : (w : AccessWidth) (c : Class) → is_single c ≡ true → Placement w (plain c)
alone w Ctlr e = record { private_is = refl; width_fits = tt }
alone w Typer e = record { private_is = refl; width_fits = tt }
alone w Iidr e = record { private_is = refl; width_fits = tt }
alone w Sgir e = record { private_is = refl; width_fits = tt }
alone w (Bits register) e = absurd (true≢false (sym e))
alone w (Bytes register) e = absurd (true≢false (sym e))
alone w Other e = record { private_is = refl; width_fits = tt }

fitting : (o : ℕ) (w : AccessWidth) → Fitted w (locate_distributor o w)
fitting o w =
    each_access o w (Fitted w) (λ r k. k) tt (alone w) (λ register e a d. placed o w (Bits register) e d) (λ register e a q. placed o w (Bytes register) e q)

-- what the map refuses it refuses by 1 or 2
pub refused_access : (o : ℕ) (w : AccessWidth) (r : Refusal) → locate_distributor o w ≡ Refused r → refusal_number r ≤ 2
refused_access o w r p = subst (Fitted w) p (fitting o w)

dword_bytes : (w : AccessWidth) → is_dword w ≡ true → bytes w ≡ 4
dword_bytes Byte d = absurd (true≢false (sym d))
dword_bytes Word d = absurd (true≢false (sym d))
dword_bytes Dword d = refl
dword_bytes Qword d = absurd (true≢false (sym d))

few_bytes : (w : AccessWidth) → is_qword w ≡ false → bytes w ≤ 4
few_bytes Byte q = omega arith
few_bytes Word q = omega arith
few_bytes Dword q = omega arith
few_bytes Qword q = absurd (true≢false q)

pub bytes_few : (w : AccessWidth) → bytes w ≤ 8
bytes_few Byte = omega arith
bytes_few Word = omega arith
bytes_few Dword = omega arith
bytes_few Qword = omega arith

per_word_lem : (register : BitRegister) → per_word register ≡ bit_numbers_per_byte register * 4
per_word_lem Igroupr = refl
per_word_lem Isenabler = refl
per_word_lem Icenabler = refl
per_word_lem Ispendr = refl
per_word_lem Icpendr = refl
per_word_lem Isactiver = refl
per_word_lem Icactiver = refl
per_word_lem Icfgr = refl

-- how many bytes a byte array has
abbrev array_bytes : ByteRegister → ℕ
array_bytes Ipriorityr = 1020
array_bytes Itargetsr = 1020
array_bytes Cpendsgir = 16
array_bytes Spendsgir = 16

array_bytes_lem : (r : ByteRegister) → (range_of (Bytes r)).length ≡ array_bytes r
unfolding range_of range_numbered ranges
array_bytes_lem Ipriorityr = refl
array_bytes_lem Itargetsr = refl
array_bytes_lem Cpendsgir = refl
array_bytes_lem Spendsgir = refl

module _ (shape : Shape) (v : ℕ) (p : Place) (w : AccessWidth) (s : List ℕ) (h : Room shape s) (located : Located p w) where
  abbrev first : ℕ
  first = p.first.0

  placement : Placement w p
  placement = subst (Fitted w) located.at (fitting located.offset w)

  bound : reach p w ≤ numbers p
  bound = reach_bound located.offset w p located.at

  -- a number below 32 that each vCPU has its own of is a private place's
  own : (c : Class) → p.class ≡ c → is_banked c ≡ true → first < 32 → p.private ≡ true
  own c e b low = placement.private_is ∙ simp (e, b, lt-ltb first 32 low)

  -- a private word of a bit register ends below 32
  pub private_word : (register : BitRegister) → p.class ≡ Bits register → p.private ≡ true → p.first.0 + per_word register ≤ 32
  private_word register e q = rw (per_word_lem register) (simp (q, e, dword) at bound)
    where
      dword : bytes w ≡ 4
      dword = dword_bytes w (subst (λ (c : Class). WidthFits c w) e placement.width_fits)

  pub bit_word_lem : (register : BitRegister) → p.class ≡ Bits register → (p.private ≡ true → v < shape.count) → BitWordAt shape register v p.first.0 s
  bit_word_lem register e looked = record {
    state = h;
    together = λ low. private_word register e (own (Bits register) e refl low);
    banked = λ low. looked (own (Bits register) e refl low);
  }

  module _ (register : ByteRegister) (e : p.class ≡ Bytes register) (looked : byte_looks_up register p.private ≡ true → v < shape.count) where
    not_qword : is_qword w ≡ false
    not_qword = subst (λ (c : Class). WidthFits c w) e placement.width_fits

    reached : (r : ByteRegister) (own : Bool) → own ≡ (is_priority r && ltb first 32) → first + 1 * bytes w ≤ cond own 32 (array_bytes r * 1) → first + bytes w ≤ array_bytes r
    reached Ipriorityr true q b = omega arith
    reached Ipriorityr false q b = omega arith
    reached Itargetsr true q b = absurd (true≢false q)
    reached Itargetsr false q b = omega arith
    reached Cpendsgir true q b = absurd (true≢false q)
    reached Cpendsgir false q b = omega arith
    reached Spendsgir true q b = absurd (true≢false q)
    reached Spendsgir false q b = omega arith

    ended : first + bytes w ≤ array_bytes register
    ended = reached register p.private (simp e at placement.private_is) (simp (e, array_bytes_lem register) at bound)

    few : (r : ByteRegister) → array_bytes r ≤ 1020
    few Ipriorityr = omega arith
    few Itargetsr = omega arith
    few Cpendsgir = omega arith
    few Spendsgir = omega arith

    there : (r : ByteRegister) → p.class ≡ Bytes r → (byte_looks_up r p.private ≡ true → v < shape.count) → first + bytes w ≤ array_bytes r → (i : ℕ) → i < bytes w → ByteThere shape r v (first + i)
    there Ipriorityr q l b i k = λ low. l (own (Bytes Ipriorityr) q refl (omega arith))
    there Itargetsr q l b i k = tt
    there Cpendsgir q l b i k = (l refl, omega arith)
    there Spendsgir q l b i k = (l refl, omega arith)

    pub byte_run : BytesAt shape register v p.first.0 (bytes w) s
    byte_run = record {
      state = h;
      short = few_bytes w not_qword;
      numbered = let a : 0 < bytes w = some_bytes w in let b : array_bytes register ≤ 1020 = few register in let k : first + bytes w ≤ array_bytes register = ended in omega arith;
      there = there register e looked ended;
    }
