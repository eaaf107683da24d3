-- Two writes at a place of the Distributor are one, and which way they go, for every class of place. Assumes nothing.
use mathlib.Core.Path.{◌≡◌, refl, sym, ap, ◌∙◌}
use mathlib.Core.Bool.{Bool, true, false, not, cond, true≢false}
use mathlib.Core.List.{List}
use Prim.Native.Nat.{ℕ, ◌+◌, ◌%◌, ◌^◌, ◌<◌}
use native.Mathlib.Omega.{arith}
use lib.Bits.{bit_or, or_mod}
use borrow.Author.Tests.{ne_eqb}
use Rattle.interrupt.specs.Record.{set_pending}
use Rattle.interrupt.specs.declared.record.InterruptRecord.{InterruptRecord}
use Rattle.register.specs.declared.frame.AccessWidth.{AccessWidth}
use Rattle.register.specs.declared.ranges.BitRegister.{BitRegister}
use Rattle.register.specs.declared.ranges.ByteRegister.{ByteRegister}
use Rattle.register.specs.declared.ranges.ByteRegister.TheVariants.{Ipriorityr, Itargetsr, Cpendsgir, Spendsgir}
use Rattle.register.specs.declared.ranges.Class.{Class}
use Rattle.register.specs.declared.ranges.Class.TheVariants.{Ctlr, Typer, Iidr, Sgir, Bits, Bytes, Other}
use Rattle.register.specs.declared.distributor.Place.{Place}
use Rattle.register.specs.Frame.{bytes}
use Rattle.word.specs.Fields.{field_at}
use Rattle.word.proofs.Cases.{same_or}
use Rattle.state.specs.declared.layout.Shape.{Shape}
use Rattle.state.specs.Layout.{DistributorControl, Sources, Exists, Room}
use Rattle.state.specs.Words.{record_at, sources_at, kept_distributor_control, Exact}
use Rattle.state.proofs.Numbers.{Of, numbers_apart}
use Rattle.state.proofs.Ready.{Summed, put_put}
use Rattle.bits.specs.Bits.{is_config, BitWordAt}
use Rattle.sgi.specs.Sgi.{merged_sources, write_sources, sgi_target, send_sgi, write_sgir}
use Rattle.sgi.proofs.Rings.{written_sources, written_pends}
use Rattle.distributor.specs.Bytes.{write_byte, write_bytes, ByteThere, BytesAt}
use Rattle.distributor.proofs.Registers.{run_own, bytes_written}
use Rattle.places.specs.Places.{sends, ringed, write_class, write_place, PlaceWritten}
use Rattle.places.proofs.Fits.{bit_word_lem, byte_run}
use Rattle.merging.specs.Merging.{SameRing, MayMerge, as_one, wakes_add, wakes_nobody}
use Rattle.merging.proofs.Bits.{bits_as_one_lem}
use Rattle.merging.proofs.Bytes.{ByteNeeds, needs_kept, bytes_as_one_lem}
use Rattle.merging.proofs.Rings.{sent_as_one, sent_way, both_number, both_includes, first_sends, second_sends}
use Rattle.merging.proofs.Rising.{Way, Rising, way_none, run_way}
use Rattle.merging.proofs.Sources.{Pends}
use Rattle.merging.proofs.Ways.{bits_way, source_way}

-- what a write is, of its low 32 bits
pub mod_as_one : (c : Class) (a b : ℕ) → as_one c a b % 2 ^ 32 ≡ as_one c (a % 2 ^ 32) (b % 2 ^ 32)
mod_as_one Ctlr a b = refl
mod_as_one Typer a b = refl
mod_as_one Iidr a b = refl
mod_as_one Sgir a b = or_mod a b 32
mod_as_one (Bits register) a b = go (is_config register)
  where
    go : (config : Bool) → cond config b (bit_or a b) % 2 ^ 32 ≡ cond config (b % 2 ^ 32) (bit_or (a % 2 ^ 32) (b % 2 ^ 32))
    go true = refl
    go false = or_mod a b 32
mod_as_one (Bytes Ipriorityr) a b = refl
mod_as_one (Bytes Itargetsr) a b = refl
mod_as_one (Bytes Cpendsgir) a b = or_mod a b 32
mod_as_one (Bytes Spendsgir) a b = or_mod a b 32
mod_as_one Other a b = refl

pub mod_may_merge : (c : Class) (a b : ℕ) → MayMerge c a b → MayMerge c (a % 2 ^ 32) (b % 2 ^ 32)
mod_may_merge Ctlr a b may = tt
mod_may_merge Typer a b may = tt
mod_may_merge Iidr a b may = tt
mod_may_merge Sgir a b may =
    record { filter = omega (arith, may.filter); number = omega (arith, may.number) }
mod_may_merge (Bits register) a b may = tt
mod_may_merge (Bytes register) a b may = tt
mod_may_merge Other a b may = tt

-- what the words must have at the bytes that are written
abbrev pub ClassNeeds : Shape → ℕ → Class → ℕ → AccessWidth → List ℕ → Type 0
ClassNeeds shape v Ctlr first w s = Unit
ClassNeeds shape v Typer first w s = Unit
ClassNeeds shape v Iidr first w s = Unit
ClassNeeds shape v Sgir first w s = Unit
ClassNeeds shape v (Bits register) first w s = Unit
ClassNeeds shape v (Bytes register) first w s = (i : ℕ) → i < bytes w → ByteNeeds shape register v (first + i) s
ClassNeeds shape v Other first w s = Unit

-- two rings of one number by one filter
rings_as_one : (shape : Shape) (v x y : ℕ) (s : List ℕ) → Room shape s → (sends x ≡ true → v < shape.count) → SameRing x y → ringed shape v y (ringed shape v x s) ≡ ringed shape v (bit_or x y) s
rings_as_one shape v x y s h looked may = go (sends x) refl
  where
    sent : v < shape.count → write_sgir shape v y (write_sgir shape v x s) ≡ write_sgir shape v (bit_or x y) s
    sent exists =
        unfold write_sgir in
        (ap (λ (n : ℕ). send_sgi shape v n (sgi_target y) (send_sgi shape v (x % 16) (sgi_target x) s)) (sym may.number)
        ∙ sent_as_one shape v (x % 16) (omega (arith, exists, h.limits.few_vcpus)) (omega arith) s h.limits (sgi_target x) (sgi_target y) (sgi_target (bit_or x y)) (both_includes x y may v) h
        ∙ ap (λ (n : ℕ). send_sgi shape v n (sgi_target (bit_or x y)) s) (sym (both_number x y may)))

    one : sends (bit_or x y) ≡ sends x
    one = sym (first_sends x y may)

    two : sends y ≡ sends x
    two = second_sends x y may ∙ one

    go : (b : Bool) → sends x ≡ b → ringed shape v y (ringed shape v x s) ≡ ringed shape v (bit_or x y) s
    go true e = simp (one, two, e) (sent (looked e))
    go false e = simp (one, two, e)

-- one byte: which way, and what it leaves
abbrev byte_raises : ByteRegister → Bool
byte_raises register = not (wakes_nobody (Bytes register))

byte_way : (shape : Shape) (register : ByteRegister) (v n byte : ℕ) → wakes_add (Bytes register) ≡ true → byte < 256 → ByteThere shape register v n → (s : List ℕ) → Summed shape s
    → ByteNeeds shape register v n s → Way (byte_raises register) (Rising shape) s (write_byte shape register v n byte s) × Summed shape (write_byte shape register v n byte s)
byte_way shape Ipriorityr v n byte adds fits there s h need = absurd (true≢false (sym adds))
byte_way shape Itargetsr v n byte adds fits there s h need = absurd (true≢false (sym adds))
byte_way shape Cpendsgir v n byte adds fits there s h need = source_way shape v n h.0.limits there false byte fits s h (λ e. need)
byte_way shape Spendsgir v n byte adds fits there s h need = source_way shape v n h.0.limits there true byte fits s h (λ e. absurd (true≢false e))

cleared_pends : (shape : Shape) (v n byte : ℕ) → byte < 256 → Exists shape (Sources v n) → (s : List ℕ) → Room shape s → Pends shape v n s → Pends shape v n (write_sources shape v n false byte s)
cleared_pends shape v n byte fits e s h need = same_or byte 0 (λ z. unfold write_sources in rw z need) (λ some left. leaves some (λ none. left (written_sources shape v n s h e false byte fits some ∙ none)))
  where
    leaves : (byte ≡ 0 → ⊥) → (merged_sources false (sources_at shape v n s) byte ≡ 0 → ⊥) → (record_at shape v n (write_sources shape v n false byte s)).pending ≡ true
    leaves some left =
        ap (λ (r : InterruptRecord). r.pending) (written_pends shape v n s h e false byte fits some)
        ∙ unfold set_pending in simp (ne_eqb (merged_sources false (sources_at shape v n s) byte) 0 left)

byte_leaves : (shape : Shape) (register : ByteRegister) (v n byte : ℕ) → byte < 256 → ByteThere shape register v n → (s : List ℕ) → Room shape s → ByteNeeds shape register v n s
    → ByteNeeds shape register v n (write_byte shape register v n byte s)
byte_leaves shape Ipriorityr v n byte fits there s h need = tt
byte_leaves shape Itargetsr v n byte fits there s h need = tt
byte_leaves shape Cpendsgir v n byte fits there s h need = cleared_pends shape v n byte fits there s h need
byte_leaves shape Spendsgir v n byte fits there s h need = tt

-- a run of bytes
module _ (shape : Shape) (register : ByteRegister) (v first count value : ℕ) (s : List ℕ) (at : BytesAt shape register v first count s) (need : (i : ℕ) → i < count → ByteNeeds shape register v (first + i) s) where
  bytes_way : wakes_add (Bytes register) ≡ true → Exact shape s → Way (byte_raises register) (Rising shape) s (write_bytes shape register v first count value s) × Summed shape (write_bytes shape register v first count value s)
  unfolding write_bytes
  bytes_way adds x =
      run_way (byte_raises register) shape (λ i. Of v (first + i)) (numbers_apart v first) (λ i. write_byte shape register v (first + i) (field_at 8 i value)) s (at.state, x) count
      (λ i h. (run_own shape register v first count value s at i h).local)
      (λ i h r k agree. byte_way shape register v (first + i) (field_at 8 i value) adds (omega arith) (at.there i h) r k (needs_kept shape register v (first + i) at.state.limits (at.there i h) s r agree (need i h)))

  bytes_leave : (i : ℕ) → i < count → ByteNeeds shape register v (first + i) (write_bytes shape register v first count value s)
  bytes_leave i h =
      let byte = field_at 8 i value in
      needs_kept shape register v (first + i) at.state.limits (at.there i h) (write_byte shape register v (first + i) byte s) (write_bytes shape register v first count value s)
      (bytes_written shape register v first count value s at i h) (byte_leaves shape register v (first + i) byte (omega arith) (at.there i h) s at.state (need i h))

-- a write at a place
abbrev pub class_raises : Class → Bool
class_raises c = not (wakes_nobody c)

module _ (shape : Shape) (v : ℕ) (place : Place) (w : AccessWidth) (x : ℕ) (s : List ℕ) (at : PlaceWritten shape v place w x s) where
  abbrev first : ℕ
  first = place.first.0

  word_at : (register : BitRegister) → place.class ≡ Bits register → BitWordAt shape register v first s
  word_at register e = bit_word_lem shape v place w s at.state at.located register e (λ q. at.looked (simp e q))

  run_at : (register : ByteRegister) → place.class ≡ Bytes register → BytesAt shape register v first (bytes w) s
  run_at register e = byte_run shape v place w s at.state at.located register e (λ q. at.looked (simp e q))

  rings : place.class ≡ Sgir → sends x ≡ true → v < shape.count
  rings e sent = at.looked (simp e sent)

  as_one_by : (c : Class) → place.class ≡ c → (y : ℕ) → MayMerge c x y → ClassNeeds shape v c first w s
      → write_class shape v c first w y (write_class shape v c first w x s) ≡ write_class shape v c first w (as_one c x y) s
  as_one_by Ctlr e y may need = put_put shape s at.state DistributorControl (kept_distributor_control x) (kept_distributor_control y) tt
  as_one_by Typer e y may need = refl
  as_one_by Iidr e y may need = refl
  as_one_by Sgir e y may need = rings_as_one shape v x y s at.state (rings e) may
  as_one_by (Bits register) e y may need = bits_as_one_lem shape register v first s (word_at register e) x y
  as_one_by (Bytes register) e y may need = bytes_as_one_lem shape register v first (bytes w) s (run_at register e) x y need
  as_one_by Other e y may need = refl

  way_by : (c : Class) → place.class ≡ c → wakes_add c ≡ true → ClassNeeds shape v c first w s → Exact shape s
      → Way (class_raises c) (Rising shape) s (write_class shape v c first w x s) × Summed shape (write_class shape v c first w x s)
  way_by Ctlr e adds need exact = absurd (true≢false (sym adds))
  way_by Typer e adds need exact = (way_none false shape s, (at.state, exact))
  way_by Iidr e adds need exact = (way_none false shape s, (at.state, exact))
  way_by Sgir e adds need exact = go (sends x) refl
    where
      go : (b : Bool) → sends x ≡ b → Rising shape s (cond b (write_sgir shape v x s) s) × Summed shape (cond b (write_sgir shape v x s) s)
      go true sent =
          unfold write_sgir in sent_way shape v (x % 16) (omega (arith, rings e sent, at.state.limits.few_vcpus)) (omega arith) s at.state.limits (sgi_target x) (at.state, exact)
      go false sent = (way_none true shape s, (at.state, exact))
  way_by (Bits register) e adds need exact = bits_way shape register v first x s (word_at register e) exact
  way_by (Bytes register) e adds need exact = bytes_way shape register v first (bytes w) x s (run_at register e) need adds exact
  way_by Other e adds need exact = (way_none false shape s, (at.state, exact))

  leaves_by : (c : Class) → place.class ≡ c → ClassNeeds shape v c first w s → ClassNeeds shape v c first w (write_class shape v c first w x s)
  leaves_by Ctlr e need = tt
  leaves_by Typer e need = tt
  leaves_by Iidr e need = tt
  leaves_by Sgir e need = tt
  leaves_by (Bits register) e need = tt
  leaves_by (Bytes register) e need = bytes_leave shape register v first (bytes w) x s (run_at register e) need
  leaves_by Other e need = tt

  pub place_as_one : (y : ℕ) → MayMerge place.class x y → ClassNeeds shape v place.class place.first.0 w s
      → write_place shape v place w y (write_place shape v place w x s) ≡ write_place shape v place w (as_one place.class x y) s
  place_as_one y may need = as_one_by place.class refl y may need

  pub place_way : wakes_add place.class ≡ true → ClassNeeds shape v place.class place.first.0 w s → Exact shape s
      → Way (class_raises place.class) (Rising shape) s (write_place shape v place w x s) × Summed shape (write_place shape v place w x s)
  place_way adds need exact = way_by place.class refl adds need exact

  pub place_leaves : ClassNeeds shape v place.class place.first.0 w s → ClassNeeds shape v place.class place.first.0 w (write_place shape v place w x s)
  place_leaves need = leaves_by place.class refl need
