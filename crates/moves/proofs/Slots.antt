-- Which slots a move touches: every other slot stays, and so does the room, in any words that pass the test of refusal 6. Assumes nothing.
use Rattle.std.specs.Prelude.{Some}
use mathlib.Core.Path.{◌≡◌, refl, sym, subst, ◌∙◌}
use mathlib.Core.Bool.{true, false, not, true≢false}
use mathlib.Core.List.{List}
use mathlib.Core.Logic.{◌⊎◌, inl, inr}
use Prim.Native.Nat.{ℕ, ◌-◌, ◌<◌}
use native.Mathlib.Omega.{arith}
use lib.Dec.{eqb}
use Rattle.interrupt.specs.Record.{set_pending}
use Rattle.word.specs.Word.{word_of}
use Rattle.state.specs.declared.layout.Shape.{Shape}
use Rattle.state.specs.declared.layout.InterfaceValue.TheVariants.{Depth}
use Rattle.state.specs.Layout.{Slot, DistributorControl, Interface, Sources, Stack, Exists, Room, is_record, is_sources, vcpu_of, on_stack}
use Rattle.state.specs.Words.{word_at, kept, kept_distributor_control, record_slot, record_at, sources_at, with_sources, Exact}
use Rattle.state.proofs.Accessors.{put_other, record_exists}
use Rattle.state.proofs.Numbers.{Of}
use Rattle.state.proofs.Places.{Inner}
use Rattle.state.proofs.Ready.{PutKeeps, room_kept, Summed, summed_kept}
use Rattle.state.proofs.SlotKinds.{kinds_apart, record_kind, apart_record}
use Rattle.sgi.specs.Sgi.{merged_sources}
use Rattle.select.specs.declared.Candidate.{Candidate}
use Rattle.sgi.proofs.Rings.{sgi_exists}
use Rattle.service.specs.Service.{depth_at, Served, Sound}
use Rattle.service.proofs.Soundness.{sound_served}
use Rattle.service.proofs.Stacks.{popped_keeps, popped_others}
use Rattle.acknowledge.specs.Acknowledge.{Givable}
use Rattle.acknowledge.proofs.Offers.{offer_below}
use Rattle.delivery.proofs.Given.{given_keeps, given_others}
use Rattle.moves.specs.Moves.{Move, Changed, Sourced, Kept, Switched, Given, Popped, becomes, moved, Giving, Open}

-- the slots of a vCPU's stack: its depth and its entries
pub record EntryOf (v : ℕ) (t : Slot) : Type 0 where
  pub index : ℕ
  pub is : t ≡ Stack v index

abbrev pub StackOf : ℕ → Slot → Type 0
StackOf v t = (t ≡ Interface v Depth) ⊎ EntryOf v t

pub each_stack : (v : ℕ) (P : Slot → Type 0) → P (Interface v Depth) → ((i : ℕ) → P (Stack v i)) → (t : Slot) → StackOf v t → P t
each_stack v P depth entries t (inl p) = subst P (sym p) depth
each_stack v P depth entries t (inr e) = subst P (sym e.is) (entries e.index)

-- no other slot is a stack's, and it is one vCPU's
pub off_stack : (v : ℕ) (t : Slot) → on_stack t ≡ false → StackOf v t → ⊥
off_stack v t off p = true≢false (sym (each_stack v (λ x. on_stack x ≡ true) refl (λ i. refl) t p) ∙ off)

pub stack_vcpu : (v u : ℕ) (t : Slot) → vcpu_of t ≡ Some u → StackOf v t → u ≡ v
stack_vcpu v u t own p = let e : Some v ≡ Some u = sym (each_stack v (λ x. vcpu_of x ≡ Some v) refl (λ i. refl) t p) ∙ own in cc

abbrev pub Touches : Move → Slot → Type 0
Touches (Changed v n c) t = t ≡ record_slot v n
Touches (Sourced v n on byte) t = Of v n t
Touches (Kept v k x) t = t ≡ Interface v k
Touches (Switched y) t = t ≡ DistributorControl
Touches (Given v e) t = Of v e.intid.0 t ⊎ StackOf v t
Touches (Popped v) t = StackOf v t

module _ (shape : Shape) (s : List ℕ) (h : Sound shape s) where
  pub served : (v : ℕ) → v < shape.count → Served shape v s
  served v exists = sound_served v h exists

  pub givable : (v : ℕ) (e : Candidate) → Giving shape v e s → Givable shape v e s
  givable v e o = record { served = served v o.exists; room = o.room; numbered = offer_below shape v s e o.offered }

  -- what the writes of the slots that it touches keep, a move keeps
  move_keeps : (m : Move) (P : List ℕ → Type 0) → PutKeeps shape (Touches m) P → Open shape m s → P s → P (moved shape m s)
  move_keeps (Changed v n c) P keeps o p = keeps (record_slot v n) (word_of (becomes c (record_at shape v n s))) s (record_exists shape v n o.there) refl p
  move_keeps (Sourced v n on byte) P keeps o p =
      let x = merged_sources on (sources_at shape v n s) byte in
      let after = with_sources shape v n x s in
      let slot : Exists shape (Sources v n) = (o.exists, o.sgi) in
      keeps (record_slot v n) (word_of (set_pending (record_at shape v n after) (not (eqb x 0)))) after (sgi_exists shape v n h.state.limits slot) (inl refl) (keeps (Sources v n) x s slot (inr refl) p)
  move_keeps (Kept v k x) P keeps o p = keeps (Interface v k) (kept k x) s o.exists refl p
  move_keeps (Switched y) P keeps o p = keeps DistributorControl (kept_distributor_control y) s tt refl p
  move_keeps (Given v e) P keeps o p =
      given_keeps shape v e s (givable v e o) (Touches (Given v e)) (inl (inl refl)) (inl (inr refl)) P keeps (inr (inl refl)) (inr (inr (record { index = depth_at shape v s; is = refl }))) p
  move_keeps (Popped v) P keeps o p =
      popped_keeps shape v s (served v o.exists) o.some (Touches (Popped v)) (inl refl) (inr (record { index = depth_at shape v s - 1; is = refl })) P keeps p

  pub move_room : (m : Move) → Open shape m s → Room shape (moved shape m s)
  move_room m o = move_keeps m (Room shape) (room_kept shape (Touches m)) o h.state

  -- so an exact summary stays exact, and the bit of an SPI whose record is not touched stays
  pub move_exact : (m : Move) → Open shape m s → Exact shape s → Exact shape (moved shape m s)
  move_exact m o x = (move_keeps m (Summed shape) (summed_kept shape (Touches m)) o (h.state, x)).1

  pub move_others : (m : Move) → Open shape m s → (t : Slot) → Exists shape t → (Touches m t → ⊥) → word_at shape t (moved shape m s) ≡ word_at shape t s
  move_others (Changed v n c) o t x away = put_other shape s t (record_slot v n) (word_of (becomes c (record_at shape v n s))) x (record_exists shape v n o.there) away
  move_others (Sourced v n on byte) o t x away =
      let y = merged_sources on (sources_at shape v n s) byte in
      let after = with_sources shape v n y s in
      let slot : Exists shape (Sources v n) = (o.exists, o.sgi) in
      put_other shape after t (record_slot v n) (word_of (set_pending (record_at shape v n after) (not (eqb y 0)))) x (sgi_exists shape v n h.state.limits slot) (λ p. away (inl p))
      ∙ put_other shape s t (Sources v n) y x slot (λ p. away (inr p))
  move_others (Kept v k y) o t x away = put_other shape s t (Interface v k) (kept k y) x o.exists away
  move_others (Switched y) o t x away = put_other shape s t DistributorControl (kept_distributor_control y) x tt away
  move_others (Given v e) o t x away =
      given_others shape v e s (givable v e o) t x (λ p. away (inl (inl p))) (λ p. away (inl (inr p)))
      (λ p. away (inr (inl p))) (λ p. away (inr (inr (record { index = depth_at shape v s; is = p }))))
  move_others (Popped v) o t x away =
      popped_others shape v s (served v o.exists) o.some t x (λ p. away (inl p)) (λ p. away (inr (record { index = depth_at shape v s - 1; is = p })))

-- what is neither a record nor a source set is no number's
pub no_number : (v n : ℕ) (t : Slot) → is_record t ≡ false → is_sources t ≡ false → Of v n t → ⊥
no_number v n t a b (inl p) = apart_record t v n a p
no_number v n t a b (inr p) = kinds_apart t (Sources v n) b p

-- no move touches the stored count and limit
of_kind : (v n : ℕ) (t : Slot) → Of v n t → Inner t
of_kind v n t (inl p) = rw (p, record_kind v n) (omega arith)
of_kind v n t (inr p) = rw p (omega arith)

stack_kind : (v : ℕ) (t : Slot) → StackOf v t → Inner t
stack_kind v = each_stack v (λ t. Inner t) (omega arith) (λ i. omega arith)

pub touched_kind : (m : Move) (t : Slot) → Touches m t → Inner t
touched_kind (Changed v n c) t p = of_kind v n t (inl p)
touched_kind (Sourced v n on byte) t p = of_kind v n t p
touched_kind (Kept v k x) t p = rw p (omega arith)
touched_kind (Switched y) t p = rw p (omega arith)
touched_kind (Given v e) t (inl p) = of_kind v e.intid.0 t p
touched_kind (Given v e) t (inr p) = stack_kind v t p
touched_kind (Popped v) t p = stack_kind v t p
