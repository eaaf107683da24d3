-- A ring of an SGI stays until it is given, or until its target writes it to CPENDSGIR, or until all starts anew. Assumes nothing.
use mathlib.Core.Path.{◌≡◌, refl}
use mathlib.Core.Bool.{Bool, true, false, ◌&&◌, true≢false}
use mathlib.Core.List.{List}
use mathlib.Core.Logic.{inl, inr}
use Prim.Native.Nat.{ℕ, ◌+◌, ◌*◌, ◌-◌, ◌<◌}
use native.Mathlib.Omega.{arith}
use lib.Dec.{eqb}
use borrow.Author.Tests.{lt-ltb, eq-eqb}
use Rattle.word.specs.Fields.{field_at}
use Rattle.word.proofs.Cases.{same_or}
use Rattle.register.specs.declared.frame.AccessWidth.{AccessWidth}
use Rattle.register.specs.declared.ranges.ByteRegister.TheVariants.{Ipriorityr, Itargetsr, Cpendsgir, Spendsgir}
use Rattle.register.specs.declared.ranges.Class.{Class}
use Rattle.register.specs.declared.ranges.Class.TheVariants.{Ctlr, Typer, Iidr, Sgir, Bits, Bytes, Other}
use Rattle.register.specs.Frame.{bytes}
use Rattle.state.specs.declared.layout.Shape.{Shape}
use Rattle.state.specs.Layout.{DistributorControl, Interface, Sources}
use Rattle.state.specs.Words.{sources_at}
use Rattle.state.proofs.Numbers.{Of}
use Rattle.state.proofs.SlotKinds.{kinds_apart, apart_record}
use Rattle.sgi.specs.Sgi.{merged_sources}
use Rattle.select.specs.declared.Candidate.{Candidate}
use Rattle.acknowledge.specs.Acknowledge.{lowest_source, source_of}
use Rattle.delivery.proofs.Given.{given_sources}
use Rattle.lawful.specs.Lawful.{Controls}
use Rattle.moves.specs.Moves.{Move, Changed, Sourced, Kept, Switched, Given, Popped, moved, Open, Sourcing, Giving}
use Rattle.moves.proofs.Controllers.{sourced_sources}
use Rattle.moves.proofs.Slots.{off_stack, Touches, givable, move_others}
use Rattle.moves.proofs.Sounds.{lawful_sound}
use Rattle.history.specs.History.{Call, called, run}
use Rattle.history.specs.Made.{ClassMade, WriteMade}
use Rattle.waiting.specs.Waiting.{bit, rung, is_class, among, ring_taker, takes_ring, never}
use Rattle.waiting.proofs.BitLaws.{bit_below, bit_or_lem, bit_cleared, bit_left}
use Rattle.waiting.proofs.Keeping.{run_at, handed_out, spared_write, Waits, call_keeps, history_controls, history_keeps}

module _ (shape : Shape) (t n u : ℕ) (exists : t < shape.count) (sgi : n < 16) where
  -- a move that leaves the ring: it clears no bit of it, and gives no SGI with it
  abbrev Spares : Move → List ℕ → Type 0
  Spares (Changed v m c) s = Unit
  Spares (Sourced v m true byte) s = Unit
  Spares (Sourced v m false byte) s = v ≡ t → m ≡ n → bit u byte ≡ false
  Spares (Kept v k x) s = Unit
  Spares (Switched value) s = Unit
  Spares (Given v e) s = v ≡ t → e.intid.0 ≡ n → lowest_source (sources_at shape t n s) ≡ u → ⊥
  Spares (Popped v) s = Unit

  module _ (s : List ℕ) (h : Controls shape s) (now : rung shape t n u s ≡ true) where
    untouched : (m : Move) → Open shape m s → (Touches m (Sources t n) → ⊥) → rung shape t n u (moved shape m s) ≡ true
    untouched m o away = rw (move_others shape s (lawful_sound h.lawful) m o (Sources t n) (exists, sgi) away) now

    -- another SGI, or another vCPU's
    apart : (v m : ℕ) → ((v ≡ t) × (m ≡ n) → ⊥) → Of v m (Sources t n) → ⊥
    apart v m away (inl p) = apart_record (Sources t n) v m refl p
    apart v m away (inr p) = away (cc, cc)

    own_or_other : (v m : ℕ) (r : List ℕ) → (v ≡ t → m ≡ n → rung shape v m u r ≡ true) → (((v ≡ t) × (m ≡ n) → ⊥) → rung shape t n u r ≡ true) → rung shape t n u r ≡ true
    own_or_other v m r own other = same_or v t (λ p. same_or m n (λ q. rw (← p, ← q) (own p q)) (λ d. other (λ x. d x.1))) (λ d. other (λ x. d x.0))

    same : (v m : ℕ) → v ≡ t → m ≡ n → rung shape v m u s ≡ true
    same v m p q = rw (p, q) now

    merged : (v m : ℕ) (on : Bool) (byte : ℕ) → byte < 256 → v ≡ t → m ≡ n → Spares (Sourced v m on byte) s → bit u (merged_sources on (sources_at shape v m s) byte) ≡ true
    merged v m true byte b p q spares = bit_or_lem u (sources_at shape v m s) byte (same v m p q)
    merged v m false byte b p q spares =
        bit_cleared u (sources_at shape v m s) byte (bit_below (sources_at shape v m s) u (omega arith) (same v m p q)) b (same v m p q) (spares p q)

    sourced_kept : (v m : ℕ) (on : Bool) (byte : ℕ) → Sourcing shape v m byte → Spares (Sourced v m on byte) s → rung shape t n u (moved shape (Sourced v m on byte) s) ≡ true
    sourced_kept v m on byte o spares =
        own_or_other v m (moved shape (Sourced v m on byte) s)
        (λ p q. rw (sourced_sources shape s h.lawful v m on byte o) (merged v m on byte o.fits p q spares))
        (λ away. untouched (Sourced v m on byte) o (apart v m away))

    given_kept : (v : ℕ) (e : Candidate) → Giving shape v e s → Spares (Given v e) s → rung shape t n u (moved shape (Given v e) s) ≡ true
    given_kept v e o spares =
        own_or_other v e.intid.0 (moved shape (Given v e) s)
        (λ p q. rw (given_sources shape v e s (givable shape s (lawful_sound h.lawful) v e o) (rw q sgi)) (bit_left (sources_at shape v e.intid.0 s) u (omega arith) (same v e.intid.0 p q) (λ x. spares p q (rw (← p, ← q) x))))
        (λ away. untouched (Given v e) o (off away))
      where
        off : ((v ≡ t) × (e.intid.0 ≡ n) → ⊥) → Touches (Given v e) (Sources t n) → ⊥
        off away (inl p) = apart v e.intid.0 away p
        off away (inr p) = off_stack v (Sources t n) refl p

    ring_kept : (m : Move) → Open shape m s → Spares m s → rung shape t n u (moved shape m s) ≡ true
    ring_kept (Changed v m c) o spares = untouched (Changed v m c) o (apart_record (Sources t n) v m refl)
    ring_kept (Sourced v m on byte) o spares = sourced_kept v m on byte o spares
    ring_kept (Kept v k x) o spares = untouched (Kept v k x) o (kinds_apart (Sources t n) (Interface v k) refl)
    ring_kept (Switched value) o spares = untouched (Switched value) o (kinds_apart (Sources t n) DistributorControl refl)
    ring_kept (Given v e) o spares = given_kept v e o spares
    ring_kept (Popped v) o spares = untouched (Popped v) o (off_stack v (Sources t n) refl)

  -- a write to the Distributor: only CPENDSGIR clears, in the bytes that it writes, where they have a 1
  module _ (v : ℕ) (width : AccessWidth) (value : ℕ) (m : Move) (s : List ℕ) where
    byte_spares : (first at : ℕ) → at < bytes width → (eqb v t && (among n first (bytes width) && bit u (field_at 8 (n - first) value))) ≡ false
        → Spares (Sourced v (first + at) false (field_at 8 at value)) s
    byte_spares first at inside e p q =
        let here = run_at n first at (bytes width) inside q in
        simp (eq-eqb v t p, here.0, here.1) at e

    class_spares : (c : Class) (first : ℕ) → (eqb v t && (is_class (Bytes Cpendsgir) c && among n first (bytes width) && bit u (field_at 8 (n - first) value))) ≡ false
        → ClassMade shape v c first width value m → Spares m s
    class_spares Ctlr first e made = rw made tt
    class_spares Typer first e made = absurd made
    class_spares Iidr first e made = absurd made
    class_spares Sgir first e made = rw made.is tt
    class_spares (Bits register) first e made = rw made.is tt
    class_spares (Bytes Ipriorityr) first e made = rw made.is tt
    class_spares (Bytes Itargetsr) first e made = rw made.is tt
    class_spares (Bytes Cpendsgir) first e made = rw made.is (byte_spares first made.at made.in_run e)
    class_spares (Bytes Spendsgir) first e made = rw made.is tt
    class_spares Other first e made = absurd made

  -- a write to a CPU interface takes none
  write_spares : (v : ℕ) (m : Move) → WriteMade v m → (s : List ℕ) → Spares m s
  write_spares v (Changed w k c) made s = tt
  write_spares v (Sourced w k on byte) made s = absurd made
  write_spares v (Kept w k x) made s = tt
  write_spares v (Switched value) made s = tt
  write_spares v (Given w e) made s = absurd made
  write_spares v (Popped w) made s = tt

  -- a read that answers another number, or this one with another source
  read_spares : (s : List ℕ) (v : ℕ) (e : Candidate) → (eqb v t && eqb (handed_out shape v e s) (n + 1024 * u)) ≡ false → Spares (Given v e) s
  unfolding source_of
  read_spares s v e free p q lowest =
      true≢false (simp (eq-eqb v t p, eq-eqb (handed_out shape v e s) (n + 1024 * u) (rw (p, q) (simp (lt-ltb n 16 sgi, lowest) refl))) at free)

  keeps : (m : Move) (s : List ℕ) → Controls shape s → Open shape m s → Spares m s → rung shape t n u s ≡ true → rung shape t n u (moved shape m s) ≡ true
  keeps m s h o spares now = ring_kept s h now m o spares

  ring_waits : Waits shape (rung shape t n u) (λ r. ring_taker t n u) Spares
  ring_waits = record {
    kept = keeps;
    read = read_spares;
    ended = write_spares;
    written = λ s h now v place width value at e.
        spared_write {holds = rung shape t n u} keeps s h now v place width value at (λ m made r. class_spares v width value m r place.class place.first.0 e made);
    signalled = λ s v m signal e. tt;
  }

  pub ring_stays : (c : Call) (s : List ℕ) → Controls shape s → rung shape t n u s ≡ true → takes_ring t n u c (called c s) ≡ false → rung shape t n u (called c s).state ≡ true
  ring_stays = call_keeps ring_waits

  pub a_ring_waits : (cs : List Call) (s : List ℕ) → Controls shape s → rung shape t n u s ≡ true → never (λ r. takes_ring t n u) cs s ≡ true → rung shape t n u (run cs s) ≡ true
  a_ring_waits = history_keeps ring_waits

-- .. in a controller of the same count and limit
pub ring_controls : (shape : Shape) (t n u : ℕ) (cs : List Call) (s : List ℕ) → Controls shape s → never (λ r. takes_ring t n u) cs s ≡ true → Controls shape (run cs s)
ring_controls shape t n u = history_controls (λ r. ring_taker t n u)
