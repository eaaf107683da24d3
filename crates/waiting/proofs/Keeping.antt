-- What holds of a state until a call takes it, whatever it is: if each move that spares it keeps it, and the moves of each call that does not
-- take it spare it, then it holds after every history that never takes it. Assumes nothing.
use Rattle.std.specs.Prelude.{Ok}
use mathlib.Core.Path.{◌≡◌, sym, ap, ◌∙◌}
use mathlib.Core.Bool.{Bool, true, false, not, ◌&&◌, true≢false}
use mathlib.Core.List.{List, [], ◌∷◌}
use Prim.Native.Nat.{ℕ, ◌+◌, ◌*◌, ◌-◌, ◌≤◌, ◌<◌}
use native.Mathlib.Omega.{arith}
use lib.Dec.{leb, ltb}
use borrow.Author.Tests.{eqb-true, not-true, le-leb, lt-ltb, leb-true, ltb-true}
use Rattle.register.specs.declared.frame.AccessWidth.{AccessWidth}
use Rattle.register.specs.declared.cpu_interface.CpuInterfaceRegister.{CpuInterfaceRegister}
use Rattle.register.specs.declared.distributor.Place.{Place}
use Rattle.register.specs.declared.distributor.DistributorAccess.TheVariants as distributor
use Rattle.register.specs.declared.ranges.Class.{Class}
use Rattle.register.specs.Ranges.{class_number, class_of}
use Rattle.register.proofs.Map.{class_of_number}
use Rattle.state.specs.declared.layout.Shape.{Shape}
use Rattle.state.specs.Words.{RecordThere, enabled_at, changed}
use Rattle.state.proofs.Tests.{left_true, right_true}
use Rattle.select.specs.declared.Candidate.{Candidate}
use Rattle.acknowledge.specs.Acknowledge.{source_of, given, acknowledge, acknowledged}
use Rattle.cpu_interface.specs.CpuInterface.{acknowledging}
use Rattle.places.specs.Places.{write_place, PlaceWritten}
use Rattle.answer.specs.Answer.{Outcome, gave, went}
use Rattle.cpu_interface_frame.specs.CpuInterfaceFrame.{read_answer}
use Rattle.input.specs.declared.Signal.{Signal}
use Rattle.input.specs.declared.Signal.TheVariants.{Level, Edge}
use Rattle.input.specs.Input as input
use Rattle.lawful.specs.Lawful.{Controls}
use Rattle.lawful.proofs.Depths.{offer_room}
use Rattle.moves.specs.Moves as moves
use Rattle.moves.specs.Moves.{Move, Changed, Given, moved, Giving, Open, Chain}
use Rattle.moves.proofs.Acknowledges.{each_acknowledge}
use Rattle.moves.proofs.Controllers.{chain_keeps}
use Rattle.moves.proofs.Sounds.{lawful_sound}
use Rattle.history.specs.History.{Call, ReadsRegister, Signals, Deed, Acts, deed, is_start, called, run}
use Rattle.history.specs.Made.{ClassMade, WriteMade, signal_change}
use Rattle.history.proofs.Always.{each_start, every_other_call}
use Rattle.history.proofs.Calls.{write_chain}
use Rattle.history.proofs.Chains.{place_chain}
use Rattle.history.proofs.Each.{start_or_act, valid, each_call}
use Rattle.waiting.specs.Waiting.{is_class, among, Taker, taken_by, never}

-- a class is known by its number
pub is_class_lem : (this c : Class) → is_class this c ≡ true → c ≡ this
is_class_lem this c e = sym (class_of_number c) ∙ ap class_of (eqb-true (class_number c) (class_number this) e) ∙ class_of_number this

-- a number of a run, by its place there
pub run_at : (n first at count : ℕ) → at < count → first + at ≡ n → (among n first count ≡ true) × (n - first ≡ at)
run_at n first at count inside p = (simp (le-leb first n (omega (arith, p)), lt-ltb n (first + count) (omega (arith, p, inside))), omega (arith, p))

-- .. and the place by the number
pub among_is : (n first count : ℕ) → among n first count ≡ true → (first + (n - first) ≡ n) × (n - first < count)
among_is n first count e =
    let low : first ≤ n = leb-true first n (left_true (leb first n) (ltb n (first + count)) e) in
    let high : n < first + count = ltb-true n (first + count) (right_true (leb first n) (ltb n (first + count)) e) in
    (omega (arith, low), omega (arith, low, high))

-- what an acknowledge answers that gives v this interrupt, and what it comes to
abbrev pub handed_out : Shape → ℕ → Candidate → List ℕ → ℕ
handed_out shape v e s = e.intid.0 + 1024 * source_of shape v e.intid.0 s

abbrev pub handing_out : Shape → ℕ → Candidate → List ℕ → Outcome
handing_out shape v e s = gave (handed_out shape v e s) (given shape v e s)

-- a controller's acknowledge gives something, or answers 1023 and changes nothing: there is always room
pub acknowledge_cases : (shape : Shape) (s : List ℕ) → Controls shape s → (v : ℕ) → (enabled_at shape s ≡ true → v < shape.count) → (P : Outcome → Type 0)
    → P (gave 1023 s) → ((e : Candidate) → Giving shape v e s → P (handing_out shape v e s)) → P (read_answer (acknowledge shape v s) s (acknowledged shape v s))
acknowledge_cases shape s h v looked P none =
    each_acknowledge shape s (lawful_sound h.lawful) v looked (λ a r. P (read_answer a s r)) none
    (λ e exists p full. absurd (omega (arith, full, offer_room shape v s h.lawful.orderly exists e p)))

-- what each call keeps that is none of these, a history without them keeps
pub never_keeps : (f : List ℕ → Call → Outcome → Bool) (P : List ℕ → Type 0) → ((c : Call) (s : List ℕ) → P s → f s c (called c s) ≡ false → P (called c s).state)
    → (cs : List Call) (s : List ℕ) → P s → never f cs s ≡ true → P (run cs s)
unfolding run
never_keeps f P keeps [] s p e = p
never_keeps f P keeps (c ∷ cs) s p e =
    let taken : Bool = f s c (called c s) in
    let after : List ℕ = (called c s).state in
    never_keeps f P keeps cs after (keeps c s p (not-true taken (left_true (not taken) (never f cs after) e))) (right_true (not taken) (never f cs after) e)

-- calls that take it, by their kind
abbrev pub taking : (List ℕ → Taker) → List ℕ → Call → Outcome → Bool
taking taker s c o = taken_by (taker s) (deed c) o

-- a history that never takes it ends in a controller of the same count and limit
module _ (taker : List ℕ → Taker) where
  -- a start that does not take it is refused, and changes nothing
  refused_start : (P : List ℕ → Type 0) (s : List ℕ) → P s → (c : Call) → is_start c ≡ true → taking taker s c (called c s) ≡ false → P (called c s).state
  refused_start P s p = each_start s (λ c d o. taken_by (taker s) d o ≡ false → P o.state) (λ c d r may e. p) (λ c count limit after controls e. absurd (true≢false e))

  pub call_controls : {shape : Shape} (c : Call) (s : List ℕ) → Controls shape s → taking taker s c (called c s) ≡ false → Controls shape (called c s).state
  call_controls {shape} c s h =
      start_or_act (λ d. taking taker s d (called d s) ≡ false → Controls shape (called d s).state) (refused_start (Controls shape) s h) (λ d other e. every_other_call shape d other s h) c

  pub history_controls : {shape : Shape} (cs : List Call) (s : List ℕ) → Controls shape s → never (taking taker) cs s ≡ true → Controls shape (run cs s)
  history_controls {shape} = never_keeps (taking taker) (Controls shape) call_controls

-- a chain of moves that spare it keeps it, and so does a write to the Distributor all of whose moves do
module _ {shape : Shape} {holds : List ℕ → Bool} {Spares : Move → List ℕ → Type 0}
    (kept : (m : Move) (s : List ℕ) → Controls shape s → Open shape m s → Spares m s → holds s ≡ true → holds (moved shape m s) ≡ true) where
  spared_chain : {May : Move → Type 0} {s r : List ℕ} → ((m : Move) → May m → (t : List ℕ) → Spares m t) → Chain shape May s r → Controls shape s → holds s ≡ true → holds r ≡ true
  spared_chain spares c h now = chain_keeps (λ t. holds t ≡ true) (λ m t may o controls p. kept m t controls o (spares m may t) p) c h now

  pub spared_write : (s : List ℕ) → Controls shape s → holds s ≡ true → (v : ℕ) (place : Place) (width : AccessWidth) (value : ℕ) → PlaceWritten shape v place width value s
      → ((m : Move) → ClassMade shape v place.class place.first.0 width value m → (t : List ℕ) → Spares m t) → holds (write_place shape v place width value s) ≡ true
  spared_write s h now v place width value at spares = spared_chain spares (place_chain shape v width value s (lawful_sound h.lawful) place at) h now

-- all that is asked of what waits in controllers of this shape: `holds` of a state, `takes` of a call in a state, `Spares` of a move in a state
pub record Waits (shape : Shape) (holds : List ℕ → Bool) (taker : List ℕ → Taker) (Spares : Move → List ℕ → Type 0) : Type 0 where
  pub kept : (m : Move) (s : List ℕ) → Controls shape s → Open shape m s → Spares m s → holds s ≡ true → holds (moved shape m s) ≡ true
  pub read : (s : List ℕ) (v : ℕ) (e : Candidate) → ((taker s).by v && (taker s).answer (handed_out shape v e s)) ≡ false → Spares (Given v e) s
  pub ended : (v : ℕ) (m : Move) → WriteMade v m → (r : List ℕ) → Spares m r
  pub written : (s : List ℕ) → Controls shape s → holds s ≡ true → (v : ℕ) (place : Place) (width : AccessWidth) (value : ℕ) → PlaceWritten shape v place width value s
      → ((taker s).by v && (taker s).write (distributor.At place) width value) ≡ false → holds (write_place shape v place width value s) ≡ true
  pub signalled : (s : List ℕ) (v n : ℕ) (signal : Signal) → ((taker s).by v && (taker s).signal n signal) ≡ false → Spares (Changed v n (signal_change signal)) s

module _ {shape : Shape} {holds : List ℕ → Bool} {taker : List ℕ → Taker} {Spares : Move → List ℕ → Type 0} (w : Waits shape holds taker Spares) where
  module _ (s : List ℕ) (h : Controls shape s) (now : holds s ≡ true) where
    -- a call that comes to this takes it, or it holds
    abbrev Keeps : Deed → Outcome → Type 0
    Keeps d o = taken_by (taker s) d o ≡ false → holds o.state ≡ true

    acknowledges : (v : ℕ) (register : CpuInterfaceRegister) → acknowledging register ≡ true
        → (enabled_at shape s ≡ true → v < shape.count) → Keeps (Acts (ReadsRegister v (Ok register))) (read_answer (acknowledge shape v s) s (acknowledged shape v s))
    acknowledges v register is looked =
        acknowledge_cases shape s h v looked (Keeps (Acts (ReadsRegister v (Ok register)))) (λ e. now)
        (λ e o q. w.kept (Given v e) s h o (w.read s v e (rw is at q)) now)

    signals : (v n : ℕ) → RecordThere shape v n → 16 ≤ n → (signal : Signal) → Keeps (Acts (Signals v n signal)) (went shape 1023 s (changed shape v n (input.signalled signal) s))
    signals v n there past (Level asserted) e = w.kept (Changed v n (moves.SetLevel asserted)) s h (record { there = there; fits = past }) (w.signalled s v n (Level asserted) e) now
    signals v n there past Edge e = w.kept (Changed v n moves.Pulse) s h (record { there = there; fits = past }) (w.signalled s v n Edge e) now

    other_stays : (c : Call) → is_start c ≡ false → Keeps (deed c) (called c s)
    other_stays =
        each_call shape s (valid shape s h) (λ c. Keeps) (λ c d r may bar e. now) (λ c by x e. now) (λ c v register x no e. now) (λ c v register is looked full. acknowledges v register is looked)
        (λ c v register value looked e. spared_chain w.kept (w.ended v) (write_chain shape s (valid shape s h) v value register looked) h now)
        (λ c v place width value at e. w.written s h now v place width value at e)
        (λ c v n signal there past. signals v n there past signal)

  -- one call
  pub call_keeps : (c : Call) (s : List ℕ) → Controls shape s → holds s ≡ true → taking taker s c (called c s) ≡ false → holds (called c s).state ≡ true
  call_keeps c s h now =
      start_or_act (λ d. taking taker s d (called d s) ≡ false → holds (called d s).state ≡ true) (refused_start taker (λ r. holds r ≡ true) s now) (other_stays s h now) c

  pub history_keeps : (cs : List Call) (s : List ℕ) → Controls shape s → holds s ≡ true → never (taking taker) cs s ≡ true → holds (run cs s) ≡ true
  history_keeps cs s h now e =
      (never_keeps (taking taker) (λ r. Controls shape r × (holds r ≡ true)) (λ c r p q. (call_controls taker c r p.0 q, call_keeps c r p.0 p.1 q)) cs s (h, now) e).1
