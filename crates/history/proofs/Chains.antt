-- A write to the Distributor is a chain of moves, register by register and number by number. Assumes nothing.
use mathlib.Core.Path.{◌≡◌, refl, ap, subst}
use mathlib.Core.Bool.{Bool, true, false, not, cond, ◌&&◌, false≢true}
use mathlib.Core.List.{List}
use mathlib.Core.Logic.{inl, inr}
use Prim.Native.Nat.{ℕ, zero, suc, ◌+◌, ◌*◌, ◌/◌, ◌%◌, ◌^◌, ◌≤◌, ◌<◌}
use native.Mathlib.Nat.{mod-lt}
use native.Mathlib.Omega.{arith}
use lib.Bits.{bit_or}
use lib.Dec.{eqb, ltb}
use lib.Pow.{pow_pos, pow-lt}
use borrow.Author.Tests.{ltb-true, ne_eqb}
use Rattle.interrupt.specs.Record.{set_pending}
use Rattle.register.specs.declared.frame.AccessWidth.{AccessWidth}
use Rattle.register.specs.declared.ranges.BitRegister.{BitRegister}
use Rattle.register.specs.declared.ranges.BitRegister.TheVariants.{Igroupr, Isenabler, Icenabler, Ispendr, Icpendr, Isactiver, Icactiver, Icfgr}
use Rattle.register.specs.declared.ranges.ByteRegister.{ByteRegister}
use Rattle.register.specs.declared.ranges.ByteRegister.TheVariants.{Ipriorityr, Itargetsr, Cpendsgir, Spendsgir}
use Rattle.register.specs.declared.ranges.Class.{Class}
use Rattle.register.specs.declared.ranges.Class.TheVariants.{Ctlr, Typer, Iidr, Sgir, Bits, Bytes, Other}
use Rattle.register.specs.declared.distributor.Place.{Place}
use Rattle.register.specs.Frame.{bytes}
use Rattle.word.specs.Fields.{field_at}
use Rattle.state.specs.declared.layout.Shape.{Shape}
use Rattle.state.specs.Loop.{up_to}
use Rattle.state.specs.Words.{RecordThere, record_at, with_record, changed, sources_at, with_sources}
use Rattle.state.proofs.Accessors.{sources_same}
use Rattle.state.proofs.Tests.{left_true, right_true, not_below}
use Rattle.bits.specs.Bits.{field_bits, per_word, acts, act, clear_active, write_number, write_bits, BitWordAt}
use Rattle.targets.specs.Targets.{existing_bits, write_target}
use Rattle.sgi.specs.Sgi.{merged_sources, write_sources, sourced, pend_sgi, includes, sgi_target, sent_to, send_sgi, write_sgir}
use Rattle.sgi.proofs.Rings.{joined_some, merged_fits}
use Rattle.distributor.specs.Bytes.{write_priority, write_byte, write_bytes, ByteThere, BytesAt}
use Rattle.places.specs.Places.{sends, write_class, write_place, PlaceWritten}
use Rattle.places.proofs.Fits.{bit_word_lem, byte_run}
use Rattle.service.specs.Service.{Sound}
use Rattle.moves.specs.Moves as moves
use Rattle.moves.specs.Moves.{Change, Move, Changed, Sourced, Switched, becomes, Fits, resourced, moved, Open, Chain, none, more}
use Rattle.moves.proofs.Sounds.{chain_sound}
use Rattle.history.specs.Made.{BitMakes, byte_move, BitMade, ByteMade, RingMade, ClassMade}

module _ {shape : Shape} {May : Move → Type 0} where
  pub one : {s : List ℕ} (m : Move) → May m → Open shape m s → Chain shape May s (moved shape m s)
  one m may o = more none m may o

  pub join : {s r t : List ℕ} → Chain shape May s r → Chain shape May r t → Chain shape May s t
  join a none = a
  join a (more b m may o) = more (join a b) m may o

  -- a step, or none
  pub if_chain : {s r : List ℕ} (b : Bool) → (b ≡ true → Chain shape May s r) → Chain shape May s (cond b r s)
  if_chain true f = f refl
  if_chain false f = none

  pub each_chain : (f : ℕ → List ℕ → List ℕ) (n : ℕ) → ((i : ℕ) → i < n → (r : List ℕ) → Sound shape r → Chain shape May r (f i r))
      → (s : List ℕ) → Sound shape s → Chain shape May s (up_to f n s)
  unfolding up_to
  each_chain f zero steps s h = none
  each_chain f (suc n) steps s h =
      let before = each_chain f n (λ i b. steps i (omega (arith, b))) s h in
      join before (steps n (omega arith) (up_to f n s) (chain_sound before h))

-- a field of a bit register: in flight or not, the record that ICACTIVER leaves is one of two changes'
module _ (shape : Shape) (v n : ℕ) (there : RecordThere shape v n) (r : List ℕ) where
  changes : {May : Move → Type 0} (c : Change) → May (Changed v n c) → Fits shape v n c (record_at shape v n r) → Chain shape May r (changed shape v n (becomes c) r)
  changes c may fits = one (Changed v n c) may (record { there = there; fits = fits })

  module _ {May : Move → Type 0} (x : ℕ) where
    cleared_chain : ((c : Change) → BitMakes Icactiver x c → May (Changed v n c)) → Chain shape May r (changed shape v n clear_active r)
    unfolding clear_active
    cleared_chain may = go (record_at shape v n r).inflight refl
      where
        go : (b : Bool) → (record_at shape v n r).inflight ≡ b
            → Chain shape May r (with_record shape v n (cond b (becomes moves.CancelInflight (record_at shape v n r)) (becomes (moves.SetActive false) (record_at shape v n r))) r)
        go true e = changes moves.CancelInflight (may moves.CancelInflight (inr refl)) e
        go false e = changes (moves.SetActive false) (may (moves.SetActive false) (inl refl)) e

    -- "Pend bits of SGIs ignore writes, and so do their ICFGR bits"
    acted_chain : (register : BitRegister) → acts register n x ≡ true → ((c : Change) → BitMakes register x c → May (Changed v n c))
        → Chain shape May r (changed shape v n (act register x) r)
    acted_chain Igroupr e may = absurd (false≢true e)
    acted_chain Isenabler e may = changes (moves.SetEnabled true) (may _ refl) tt
    acted_chain Icenabler e may = changes (moves.SetEnabled false) (may _ refl) tt
    acted_chain Ispendr e may = changes (moves.SetPending true) (may _ refl) (not_below n 16 (right_true (eqb x 1) (not (ltb n 16)) e))
    acted_chain Icpendr e may = changes (moves.SetPending false) (may _ refl) (not_below n 16 (right_true (eqb x 1) (not (ltb n 16)) e))
    acted_chain Isactiver e may = changes (moves.SetActive true) (may _ refl) tt
    acted_chain Icactiver e may = cleared_chain may
    acted_chain Icfgr e may = changes (moves.SetTrigger _) (may _ refl) (not_below n 16 e)

-- a source set, by SPENDSGIR, CPENDSGIR or SGIR: its pending bit is what its sources then say
module _ (shape : Shape) (v n : ℕ) (exists : v < shape.count) (sgi : n < 16) (r : List ℕ) (h : Sound shape r) where
  sourced_is : (x : ℕ) → x < 256 → sourced shape v n x r ≡ resourced shape v n x r
  sourced_is x b =
      ap (λ (y : ℕ). changed shape v n (λ q. set_pending q (not (eqb y 0))) (with_sources shape v n x r)) (sources_same shape r v n x h.state (exists, sgi) b)

  sources_chain : {May : Move → Type 0} (on : Bool) (byte : ℕ) → byte < 256 → May (Sourced v n on byte) → Chain shape May r (write_sources shape v n on byte r)
  unfolding write_sources
  sources_chain {May} on byte b may = go (eqb byte 0)
    where
      x : ℕ
      x = merged_sources on (sources_at shape v n r) byte

      go : (q : Bool) → Chain shape May r (cond q r (sourced shape v n x r))
      go true = none
      go false = rw (sourced_is x (merged_fits on (sources_at shape v n r) byte (omega arith) b)) (one (Sourced v n on byte) may (record { exists = exists; sgi = sgi; fits = b }))

  -- a ring leaves a source, so it is pending
  some_source : (x source : ℕ) → not (eqb (bit_or x (2 ^ source)) 0) ≡ true
  some_source x source = simp (ne_eqb (bit_or x (2 ^ source)) 0 (joined_some x source))

  ring_chain : {May : Move → Type 0} (source : ℕ) → source < 8 → May (Sourced v n true (2 ^ source)) → Chain shape May r (pend_sgi shape v source n r)
  unfolding pend_sgi
  ring_chain {May} source b may =
      subst (λ (p : Bool). Chain shape May r (changed shape v n (λ q. set_pending q p) (with_sources shape v n (bit_or (sources_at shape v n r) (2 ^ source)) r)))
      (some_source (sources_at shape v n r) source)
      (one (Sourced v n true (2 ^ source)) may (record { exists = exists; sgi = sgi; fits = pow-lt b }))

-- a byte of a byte register
byte_chain : (shape : Shape) (register : ByteRegister) (v n byte : ℕ) → ByteThere shape register v n → byte < 2 ^ 8 → (r : List ℕ) → Sound shape r
    → {May : Move → Type 0} → May (byte_move shape register v n byte) → Chain shape May r (write_byte shape register v n byte r)
unfolding write_priority write_target
byte_chain shape Ipriorityr v n byte at b r h may =
    if_chain (ltb n shape.limit) (λ e. changes shape v n (record { numbered = ltb-true n shape.limit e; banked = at }) r (moves.SetPriority byte) may b)
byte_chain shape Itargetsr v n byte at b r h may =
    if_chain (not (ltb n 32) && ltb n shape.limit)
    (λ e.
    let high : 32 ≤ n = not_below n 32 (left_true (not (ltb n 32)) (ltb n shape.limit) e) in
    let below : n < shape.limit = ltb-true n shape.limit (right_true (not (ltb n 32)) (ltb n shape.limit) e) in
    changes shape v n (record { numbered = below; banked = λ low. absurd (omega (arith, high, low)) }) r (moves.SetCpuTargetMask (existing_bits shape byte)) may (high, mod-lt byte (pow_pos shape.count)))
byte_chain shape Cpendsgir v n byte at b r h may = sources_chain shape v n at.0 at.1 r h false byte b may
byte_chain shape Spendsgir v n byte at b r h may = sources_chain shape v n at.0 at.1 r h true byte b may

-- an accepted write to the Distributor
module _ (shape : Shape) (v : ℕ) (width : AccessWidth) (value : ℕ) (s : List ℕ) (h : Sound shape s) where
  bits_chain : (register : BitRegister) (first : ℕ) → BitWordAt shape register v first s → Chain shape (BitMade register v first value) s (write_bits shape register v first value s)
  unfolding write_bits write_number
  bits_chain register first at =
      each_chain (λ i. write_number shape register v (first + i) (x i)) (per_word register)
      (λ i b r c. if_chain (ltb (first + i) shape.limit && acts register (first + i) (x i))
      (λ e.
      let below = ltb-true (first + i) shape.limit (left_true (ltb (first + i) shape.limit) (acts register (first + i) (x i)) e) in
      let acting = right_true (ltb (first + i) shape.limit) (acts register (first + i) (x i)) e in
      acted_chain shape v (first + i) (record { numbered = below; banked = λ low. at.banked (omega (arith, low)) }) r (x i) register acting
      (λ change makes. record { at = i; in_word = b; acting = acting; change = change; makes = makes; is = refl })))
      s h
    where
      x : ℕ → ℕ
      x i = field_at (field_bits register) i value

  bytes_chain : (register : ByteRegister) (first count : ℕ) → BytesAt shape register v first count s
      → Chain shape (ByteMade shape register v first count value) s (write_bytes shape register v first count value s)
  unfolding write_bytes
  bytes_chain register first count at =
      each_chain (λ i. write_byte shape register v (first + i) (field_at 8 i value)) count
      (λ i b r c. byte_chain shape register v (first + i) (field_at 8 i value) (at.there i b) (mod-lt (value / 2 ^ (8 * i)) (pow_pos 8)) r c (record { at = i; in_run = b; is = refl }))
      s h

  rings_chain : v < shape.count → Chain shape (RingMade v value) s (write_sgir shape v value s)
  unfolding write_sgir send_sgi
  rings_chain exists =
      each_chain (sent_to shape (sgi_target value) v (value % 16)) shape.count
      (λ u b r c. if_chain (includes (sgi_target value) v u)
      (λ e. ring_chain shape u (value % 16) b (omega arith) r c v (omega (arith, exists, h.state.limits.few_vcpus)) (record { to = u; named = e; is = refl })))
      s h

  pub place_chain : (place : Place) → PlaceWritten shape v place width value s
      → Chain shape (ClassMade shape v place.class place.first.0 width value) s (write_place shape v place width value s)
  place_chain place at = by_class place.class refl
    where
      by_class : (c : Class) → place.class ≡ c → Chain shape (ClassMade shape v c place.first.0 width value) s (write_class shape v c place.first.0 width value s)
      by_class Ctlr e = one (Switched value) refl tt
      by_class Typer e = none
      by_class Iidr e = none
      by_class Sgir e = if_chain (sends value) (λ p. rings_chain (at.looked (simp e p)))
      by_class (Bits register) e = bits_chain register place.first.0 (bit_word_lem shape v place width s at.state at.located register e (λ q. at.looked (simp e q)))
      by_class (Bytes register) e = bytes_chain register place.first.0 (bytes width) (byte_run shape v place width s at.state at.located register e (λ q. at.looked (simp e q)))
      by_class Other e = none
