-- Calls elsewhere leave the SGI n at t, its enabling and t's stack as they were: none of their moves touches a slot of these. Assumes nothing.
use mathlib.Core.Path.{◌≡◌, refl, sym, subst, ◌∙◌}
use mathlib.Core.Bool.{Bool, true, false, not, cond, ◌&&◌, ◌||◌, false≢true, true≢false}
use mathlib.Core.List.{List, [], ◌∷◌}
use mathlib.Core.Logic.{◌⊎◌, inl, inr}
use Prim.Native.Nat.{ℕ, ◌+◌, ◌%◌, ◌<◌}
use native.Mathlib.Omega.{arith}
use lib.Dec.{eqb, ltb}
use borrow.Author.Tests.{eqb-true, eqb-false, eq-eqb, not-true}
use Rattle.register.specs.declared.frame.AccessWidth.{AccessWidth}
use Rattle.register.specs.declared.ranges.ByteRegister.{ByteRegister}
use Rattle.register.specs.declared.ranges.ByteRegister.TheVariants.{Ipriorityr, Itargetsr, Cpendsgir, Spendsgir}
use Rattle.register.specs.declared.ranges.Class.{Class}
use Rattle.register.specs.declared.ranges.Class.TheVariants.{Ctlr, Typer, Iidr, Sgir, Bits, Bytes, Other}
use Rattle.register.specs.declared.distributor.DistributorAccess.{DistributorAccess}
use Rattle.register.specs.declared.distributor.DistributorAccess.TheVariants.{Refused, PrivateWidth, At}
use Rattle.word.specs.Fields.{field_at}
use Rattle.state.specs.declared.layout.Shape.{Shape}
use Rattle.state.specs.declared.layout.InterfaceValue.{InterfaceValue}
use Rattle.state.specs.declared.layout.InterfaceValue.TheVariants.{Depth}
use Rattle.state.specs.Layout.{Slot, DistributorControl, Interface, Sources, Private, Spi, Stack, number_of, is_record, is_sources}
use Rattle.state.specs.Words.{record_slot}
use Rattle.state.proofs.Accessors.{number_of_record}
use Rattle.state.proofs.SlotKinds.{kinds_apart, record_kind, record_apart}
use Rattle.state.proofs.Steps.{Agree}
use Rattle.state.proofs.Tests.{left_true, right_true}
use Rattle.sgi.specs.Sgi.{sgi_target, includes}
use Rattle.lawful.specs.Lawful.{Controls}
use Rattle.moves.specs.Moves.{Move, Changed, Sourced, Kept, Switched, Given, Popped, Open}
use Rattle.moves.proofs.Slots.{StackOf, each_stack, Touches}
use Rattle.moves.proofs.Sounds.{lawful_sound, chain_others}
use Rattle.input.specs.declared.Signal.{Signal}
use Rattle.input.specs.declared.Signal.TheVariants.{Level, Edge}
use Rattle.history.specs.History.{Call, Looks, ReadsRegister, WritesRegister, WritesPlace, Signals, Deed, Starts, Acts, deed, is_start, called, run}
use Rattle.history.specs.Made.{byte_move, ClassMade, PlaceMade, ReadMade, WriteMade, signal_change, DeedMade}
use Rattle.history.specs.Touch.{belongs_to}
use Rattle.history.proofs.Always.{every_other_call}
use Rattle.history.proofs.Calls.{call_chain}
use Rattle.history.proofs.Each.{is_act, valid}
use Rattle.stories.specs.Stories.{leaves_at, leaves, is_elsewhere, elsewhere, all_elsewhere}

-- the slots that tell how the SGI n stands at t: the Distributor's switch, and t's own, of numbers only n's
pub record Own (t n : ℕ) (x : Slot) : Type 0 where
  pub whose : belongs_to t x ≡ true
  pub number : (is_sources x || is_record x) ≡ true → number_of x ≡ n

abbrev pub Concerns : ℕ → ℕ → Slot → Type 0
Concerns t n x = (x ≡ DistributorControl) ⊎ Own t n x

-- an interface value, an entry of the stack, a source set
module _ (t n : ℕ) where
  pub own_value : (k : InterfaceValue) → Concerns t n (Interface t k)
  own_value k = inr (record { whose = eq-eqb t t refl; number = λ e. absurd (false≢true e) })

  pub own_entry : (i : ℕ) → Concerns t n (Stack t i)
  own_entry i = inr (record { whose = eq-eqb t t refl; number = λ e. absurd (false≢true e) })

  pub own_sources : Concerns t n (Sources t n)
  own_sources = inr (record { whose = eq-eqb t t refl; number = λ e. refl })

-- a move that is away from them
abbrev Away : ℕ → ℕ → Move → Type 0
Away t n (Changed v k c) = v ≡ t → k ≡ n → ⊥
Away t n (Sourced v k on byte) = v ≡ t → k ≡ n → ⊥
Away t n (Kept v k x) = v ≡ t → ⊥
Away t n (Switched value) = ⊥
Away t n (Given v e) = v ≡ t → ⊥
Away t n (Popped v) = v ≡ t → ⊥

module _ (t n : ℕ) where
  record_vcpu : (v k : ℕ) → belongs_to t (record_slot v k) ≡ true → v ≡ t
  unfolding record_slot
  record_vcpu v k = go (ltb k 32)
    where
      go : (b : Bool) → belongs_to t (cond b (Private v k) (Spi k)) ≡ true → v ≡ t
      go true q = eqb-true v t q
      go false q = absurd (false≢true q)

  of_record : (v k : ℕ) (x : Slot) → x ≡ record_slot v k → Concerns t n x → (v ≡ t) × (k ≡ n)
  of_record v k x p (inl q) = absurd (record_apart v k DistributorControl refl (sym p ∙ q))
  of_record v k x p (inr own) =
      let here = subst (Own t n) p own in
      let numbered : (is_sources (record_slot v k) || is_record (record_slot v k)) ≡ true = simp (record_kind v k) in
      (record_vcpu v k here.whose, sym (number_of_record v k) ∙ here.number numbered)

  of_sources : (v k : ℕ) (x : Slot) → x ≡ Sources v k → Concerns t n x → (v ≡ t) × (k ≡ n)
  of_sources v k x p (inl q) = absurd (kinds_apart (Sources v k) DistributorControl refl (sym p ∙ q))
  of_sources v k x p (inr own) =
      let here = subst (Own t n) p own in
      (eqb-true v t here.whose, here.number refl)

  of_value : (v : ℕ) (k : InterfaceValue) → Concerns t n (Interface v k) → v ≡ t
  of_value v k (inl q) = absurd (kinds_apart (Interface v k) DistributorControl refl q)
  of_value v k (inr own) = eqb-true v t own.whose

  of_stack : (v : ℕ) (x : Slot) → StackOf v x → Concerns t n x → v ≡ t
  of_stack v = each_stack v (λ x. Concerns t n x → v ≡ t) (of_value v Depth) (λ i. of_entry i)
    where
      of_entry : (i : ℕ) → Concerns t n (Stack v i) → v ≡ t
      of_entry i (inl q) = absurd (kinds_apart (Stack v i) DistributorControl refl q)
      of_entry i (inr own) = eqb-true v t own.whose

  untouched : (m : Move) → Away t n m → (x : Slot) → Concerns t n x → Touches m x → ⊥
  untouched (Changed v k c) away x con p = let q = of_record v k x p con in away q.0 q.1
  untouched (Sourced v k on byte) away x con (inl p) = let q = of_record v k x p con in away q.0 q.1
  untouched (Sourced v k on byte) away x con (inr p) = let q = of_sources v k x p con in away q.0 q.1
  untouched (Kept v k y) away x con p = away (of_value v k (subst (Concerns t n) p con))
  untouched (Switched value) away x con p = away
  untouched (Given v e) away x con (inl (inl p)) = away (of_record v e.intid.0 x p con).0
  untouched (Given v e) away x con (inl (inr p)) = away (of_sources v e.intid.0 x p con).0
  untouched (Given v e) away x con (inr p) = away (of_stack v x p con)
  untouched (Popped v) away x con p = away (of_stack v x p con)

  -- the moves of a write to the Distributor by another vCPU
  byte_away : (shape : Shape) (v : ℕ) → (v ≡ t → ⊥) → (register : ByteRegister) (k byte : ℕ) → Away t n (byte_move shape register v k byte)
  byte_away shape v apart Ipriorityr k byte = λ p q. apart p
  byte_away shape v apart Itargetsr k byte = λ p q. apart p
  byte_away shape v apart Cpendsgir k byte = λ p q. apart p
  byte_away shape v apart Spendsgir k byte = λ p q. apart p

  class_away : (shape : Shape) (v : ℕ) → (v ≡ t → ⊥) → (c : Class) (first : ℕ) (width : AccessWidth) (value : ℕ) → leaves_at t n v value c ≡ true
      → (m : Move) → ClassMade shape v c first width value m → Away t n m
  class_away shape v apart Ctlr first width value e m made = absurd (false≢true e)
  class_away shape v apart Typer first width value e m made = absurd made
  class_away shape v apart Iidr first width value e m made = absurd made
  class_away shape v apart Sgir first width value e m made =
      subst (Away t n) (sym made.is)
      (λ p q. absurd (true≢false (sym (both made.named p q) ∙ not-true (eqb (value % 16) n && includes (sgi_target value) v t) e)))
    where
      both : {u : ℕ} → includes (sgi_target value) v u ≡ true → u ≡ t → value % 16 ≡ n → (eqb (value % 16) n && includes (sgi_target value) v t) ≡ true
      both {u} i p q = simp (eq-eqb (value % 16) n q, subst (λ (k : ℕ). includes (sgi_target value) v k ≡ true) p i)
  class_away shape v apart (Bits register) first width value e m made = subst (Away t n) (sym made.is) (λ p q. apart p)
  class_away shape v apart (Bytes register) first width value e m made = subst (Away t n) (sym made.is) (byte_away shape v apart register (first + made.at) (field_at 8 made.at value))
  class_away shape v apart Other first width value e m made = absurd made

  place_away : (shape : Shape) (v : ℕ) → (v ≡ t → ⊥) → (a : DistributorAccess) (width : AccessWidth) (value : ℕ) → leaves t n v value a ≡ true
      → (m : Move) → PlaceMade shape v a width value m → Away t n m
  place_away shape v apart (Refused r) width value e m made = absurd made
  place_away shape v apart PrivateWidth width value e m made = absurd made
  place_away shape v apart (At place) width value e m made = class_away shape v apart place.class place.first.0 width value e m made

  -- of an access to another's CPU interface
  read_away : (v : ℕ) → (v ≡ t → ⊥) → (m : Move) → ReadMade v m → Away t n m
  read_away v apart (Changed u k c) made = absurd made
  read_away v apart (Sourced u k on byte) made = absurd made
  read_away v apart (Kept u k x) made = absurd made
  read_away v apart (Switched value) made = made
  read_away v apart (Given u e) made = λ p. apart (sym made ∙ p)
  read_away v apart (Popped u) made = absurd made

  write_away : (v : ℕ) → (v ≡ t → ⊥) → (m : Move) → WriteMade v m → Away t n m
  write_away v apart (Changed u k c) made = λ p q. apart (sym made.0 ∙ p)
  write_away v apart (Sourced u k on byte) made = absurd made
  write_away v apart (Kept u k x) made = λ p. apart (sym made ∙ p)
  write_away v apart (Switched value) made = made
  write_away v apart (Given u e) made = absurd made
  write_away v apart (Popped u) made = λ p. apart (sym made ∙ p)

  other_vcpu : (v : ℕ) → not (eqb v t) ≡ true → v ≡ t → ⊥
  other_vcpu v e = eqb-false v t (not-true (eqb v t) e)

  module _ (sgi : n < 16) where
    -- no SGI has a signal
    signal_away : (shape : Shape) (v k : ℕ) (r : List ℕ) (signal : Signal) → Open shape (Changed v k (signal_change signal)) r → v ≡ t → k ≡ n → ⊥
    signal_away shape v k r (Level asserted) o p q = omega (arith, sgi, q, o.fits)
    signal_away shape v k r Edge o p q = omega (arith, sgi, q, o.fits)

    made_away : (shape : Shape) (d : Deed) → is_elsewhere t n d ≡ true → (m : Move) (r : List ℕ) → DeedMade shape d m → Open shape m r → Away t n m
    made_away shape (Starts count limit) e m r made o = absurd made
    made_away shape (Acts (Looks by)) e m r made o = absurd made
    made_away shape (Acts (ReadsRegister v a)) e m r made o = read_away v (other_vcpu v e) m made
    made_away shape (Acts (WritesRegister v a value)) e m r made o = write_away v (other_vcpu v e) m made
    made_away shape (Acts (WritesPlace v a width value)) e m r made o =
        let keeps : Bool = leaves t n v value a in
        place_away shape v (other_vcpu v (left_true (not (eqb v t)) keeps e)) a width value (right_true (not (eqb v t)) keeps e) m made
    made_away shape (Acts (Signals v k signal)) e m r made o = subst (Away t n) (sym made) (signal_away shape v k r signal (subst (λ (x : Move). Open shape x r) made o))

    no_start : (c : Call) → elsewhere t n c ≡ true → is_start c ≡ false
    no_start = is_act (is_elsewhere t n) (λ count limit. refl)

    call_agrees : (shape : Shape) (c : Call) → elsewhere t n c ≡ true → (s : List ℕ) → Controls shape s → Agree shape (Concerns t n) (called c s).state s
    call_agrees shape c e s h = record {
      agree = λ x exists con.
          chain_others x exists (λ m r made o. untouched m (made_away shape (deed c) e m r made o) x con) (call_chain shape s (valid shape s h) c (no_start c e)) (lawful_sound h.lawful);
    }

    -- over a history: a controller still, and all as it was
    pub elsewhere_controls : (shape : Shape) (cs : List Call) → all_elsewhere t n cs ≡ true → (s : List ℕ) → Controls shape s → Controls shape (run cs s)
    unfolding run
    elsewhere_controls shape [] e s h = h
    elsewhere_controls shape (c ∷ cs) e s h =
        let here = left_true (elsewhere t n c) (all_elsewhere t n cs) e in
        elsewhere_controls shape cs (right_true (elsewhere t n c) (all_elsewhere t n cs) e) (called c s).state (every_other_call shape c (no_start c here) s h)

    pub elsewhere_agrees : (shape : Shape) (cs : List Call) → all_elsewhere t n cs ≡ true → (s : List ℕ) → Controls shape s → Agree shape (Concerns t n) (run cs s) s
    unfolding run
    elsewhere_agrees shape [] e s h = record { agree = λ x exists con. refl }
    elsewhere_agrees shape (c ∷ cs) e s h =
        let here = left_true (elsewhere t n c) (all_elsewhere t n cs) e in
        let after = every_other_call shape c (no_start c here) s h in
        let later = elsewhere_agrees shape cs (right_true (elsewhere t n c) (all_elsewhere t n cs) e) (called c s).state after in
        record { agree = λ x exists con. later.agree x exists con ∙ (call_agrees shape c here s h).agree x exists con }
