-- What keeps an entry of a vCPU's stack and the vCPU's binary point from growing: every call but a start that is accepted, a write that raises the
-- vCPU's BPR, and the EOIR that pops the entry. Assumes nothing.
use Rattle.std.specs.Prelude.{Option, Some, None, Ok}
use mathlib.Core.Path.{◌≡◌, refl, sym, ap, subst, ◌∙◌}
use mathlib.Core.Bool.{Bool, true, false, cond, ◌&&◌, ◌||◌, true≢false}
use mathlib.Core.List.{List}
use Prim.Native.Nat.{ℕ, ◌+◌, ◌-◌, ◌%◌, ◌≤◌, ◌<◌}
use native.Mathlib.Omega.{arith}
use native.Mathlib.Numerals.{add-one}
use lib.Dec.{eqb, ltb}
use borrow.Author.Tests.{eq-eqb, eqb-true, ltb-true, ltb-false}
use Rattle.interrupt.specs.Types.{decoded, is_valid}
use Rattle.interrupt.specs.declared.types.IntId.{IntId}
use Rattle.register.specs.declared.frame.AccessWidth.{AccessWidth}
use Rattle.register.specs.declared.ranges.ByteRegister.{ByteRegister}
use Rattle.register.specs.declared.ranges.ByteRegister.TheVariants.{Ipriorityr, Itargetsr, Cpendsgir, Spendsgir}
use Rattle.register.specs.declared.ranges.Class.{Class}
use Rattle.register.specs.declared.ranges.Class.TheVariants.{Ctlr, Typer, Iidr, Sgir, Bits, Bytes, Other}
use Rattle.word.specs.Fields.{field_at}
use Rattle.word.proofs.Cases.{same_or}
use Rattle.state.specs.declared.layout.Shape.{Shape}
use Rattle.state.specs.declared.layout.InterfaceValue.{InterfaceValue}
use Rattle.state.specs.declared.layout.InterfaceValue.TheVariants.{Control, PriorityMask, BinaryPoint, Depth}
use Rattle.state.specs.declared.words.Entry.{Entry}
use Rattle.state.specs.Layout.{DistributorControl, Interface, Sources, Stack, Room, number_of, interface_number, on_stack, stack_capacity}
use Rattle.state.specs.Words.{RecordThere, word_at, changed, with_interface, kept, interface_at, entry_of, entry_at}
use Rattle.state.proofs.Accessors.{put_other, interface_same}
use Rattle.state.proofs.SlotKinds.{kinds_apart, apart_record}
use Rattle.select.specs.declared.Candidate.{Candidate}
use Rattle.service.specs.Service.{depth_at, stack_at, is_newest, popped, Sound}
use Rattle.service.proofs.Stacks.{stack_newest, popped_room, popped_others, popped_depth}
use Rattle.end.specs.End.{decoded_eoi, deactivated, ended, eoi_state, dir_state}
use Rattle.delivery.proofs.Deactivation.{deactivated_others}
use Rattle.delivery.proofs.Ended.{ended_unchanged, ended_keeps}
use Rattle.delivery.proofs.Given.{given_others, given_depth}
use Rattle.delivery.proofs.Registers.{OffDepths, off_depths}
use Rattle.cpu_interface.specs.CpuInterface.{WriteRule, Ignored, Keeps, Ends, Deactivates, rule_of, write_by, write_by_looks_up}
use Rattle.answer.specs.Answer.{Outcome}
use Rattle.input.specs.declared.Signal.{Signal}
use Rattle.input.specs.declared.Signal.TheVariants.{Level, Edge}
use Rattle.input.specs.Input.{signalled}
use Rattle.lawful.specs.Lawful.{Controls}
use Rattle.moves.specs.Moves as moves
use Rattle.moves.specs.Moves.{Move, Changed, Sourced, Kept, Switched, Given, Popped, moved, Open}
use Rattle.moves.proofs.Controllers.{chain_keeps}
use Rattle.moves.proofs.Slots.{no_number, Touches, served, givable, move_others}
use Rattle.moves.proofs.Sounds.{lawful_sound}
use Rattle.history.specs.History.{Call, ReadsRegister, Deed, Acts, deed, is_start, called}
use Rattle.history.specs.Made.{byte_move, ClassMade}
use Rattle.history.proofs.Always.{each_start, every_other_call}
use Rattle.history.proofs.Chains.{place_chain}
use Rattle.history.proofs.Each.{start_or_act, valid, each_call}
use Rattle.waiting.proofs.Keeping.{acknowledge_cases}
use Rattle.handlers.specs.Handlers.{Handler, point_of, raises_point, is_its_end, ends_story}

-- a binary point is no other value
other_value : (k : InterfaceValue) (u v : ℕ) → (interface_number BinaryPoint ≡ interface_number k → ⊥) → Interface v BinaryPoint ≡ Interface u k → ⊥
other_value k u v differ q = differ (ap number_of q)

pub point_apart : (u v : ℕ) → Interface v BinaryPoint ≡ Interface u Depth → ⊥
point_apart u v = other_value Depth u v (λ e. omega (arith, e))

-- entry i of v's stack is e, and v's binary point at most b
pub record Stands (shape : Shape) (v i : ℕ) (e : Entry) (b : ℕ) (s : List ℕ) : Type 0 where
  pub deeper : i < depth_at shape v s
  pub entry : entry_at shape v i s ≡ e
  pub point : interface_at shape v BinaryPoint s ≤ b

-- the moves that leave it so: all but pops, and another binary point
abbrev Leaves : ℕ → Move → Type 0
Leaves v (Changed u n c) = Unit
Leaves v (Sourced u n on byte) = Unit
Leaves v (Kept u k x) = Interface v BinaryPoint ≡ Interface u k → ⊥
Leaves v (Switched value) = Unit
Leaves v (Given u c) = Unit
Leaves v (Popped u) = ⊥

-- the moves of a write to the Distributor do
byte_leaves : (shape : Shape) (v u : ℕ) (register : ByteRegister) (n byte : ℕ) → Leaves v (byte_move shape register u n byte)
byte_leaves shape v u Ipriorityr n byte = tt
byte_leaves shape v u Itargetsr n byte = tt
byte_leaves shape v u Cpendsgir n byte = tt
byte_leaves shape v u Spendsgir n byte = tt

class_leaves : (shape : Shape) (v u : ℕ) (c : Class) (first : ℕ) (width : AccessWidth) (value : ℕ) (m : Move) → ClassMade shape u c first width value m → Leaves v m
class_leaves shape v u Ctlr first width value m made = subst (Leaves v) (sym made) tt
class_leaves shape v u Typer first width value m made = absurd made
class_leaves shape v u Iidr first width value m made = absurd made
class_leaves shape v u Sgir first width value m made = subst (Leaves v) (sym made.is) tt
class_leaves shape v u (Bits register) first width value m made = subst (Leaves v) (sym made.is) tt
class_leaves shape v u (Bytes register) first width value m made = subst (Leaves v) (sym made.is) (byte_leaves shape v u register (first + made.at) (field_at 8 made.at value))
class_leaves shape v u Other first width value m made = absurd made

module _ (shape : Shape) (v i : ℕ) (e : Entry) (b : ℕ) (exists : v < shape.count) (inside : i < stack_capacity) where
  abbrev It : List ℕ → Type 0
  It = Stands shape v i e b

  -- the two words stay, and the stack is still as deep
  same : {s r : List ℕ} → It s → i < depth_at shape v r → word_at shape (Stack v i) r ≡ word_at shape (Stack v i) s
      → word_at shape (Interface v BinaryPoint) r ≡ word_at shape (Interface v BinaryPoint) s → It r
  same p deep entry point = record { deeper = deep; entry = ap entry_of entry ∙ p.entry; point = subst (λ (w : ℕ). kept BinaryPoint w ≤ b) (sym point) p.point }

  module _ (s : List ℕ) (h : Sound shape s) (p : It s) where
    stays : (m : Move) → Open shape m s → (Touches m (Interface v Depth) → ⊥) → (Touches m (Stack v i) → ⊥) → (Touches m (Interface v BinaryPoint) → ⊥) → It (moved shape m s)
    stays m o no_depth no-entry no-point =
        same p (rw (move_others shape s h m o (Interface v Depth) exists no_depth) p.deeper) (move_others shape s h m o (Stack v i) (exists, inside) no-entry)
        (move_others shape s h m o (Interface v BinaryPoint) exists no-point)

    -- what is given to v goes on top
    given_deeper : (u : ℕ) (c : Candidate) → Open shape (Given u c) s → i < depth_at shape v (moved shape (Given u c) s)
    given_deeper u c o =
        let lent = givable shape s h u c o in
        same_or u v
        (λ q. subst (λ (w : ℕ). i < depth_at shape w (moved shape (Given u c) s)) q (rw (given_depth shape u c s lent) (omega (arith, p.deeper, ap (λ (w : ℕ). depth_at shape w s) q))))
        (λ q. rw (given_others shape u c s lent (Interface v Depth) exists (apart_record (Interface v Depth) u c.intid.0 refl) (kinds_apart (Interface v Depth) (Sources u c.intid.0) refl)
        (λ w. q (sym (cc))) (kinds_apart (Interface v Depth) (Stack u (depth_at shape u s)) refl)) p.deeper)

    pub move_stands : (m : Move) → Leaves v m → Open shape m s → It (moved shape m s)
    move_stands (Changed u n c) leaves o = stays (Changed u n c) o (apart_record (Interface v Depth) u n refl) (apart_record (Stack v i) u n refl) (apart_record (Interface v BinaryPoint) u n refl)
    move_stands (Sourced u n on byte) leaves o =
        stays (Sourced u n on byte) o (no_number u n (Interface v Depth) refl refl) (no_number u n (Stack v i) refl refl) (no_number u n (Interface v BinaryPoint) refl refl)
    move_stands (Kept u k x) leaves o = stays (Kept u k x) o (λ q. true≢false (ap on_stack q ∙ o.off_depth)) (kinds_apart (Stack v i) (Interface u k) refl) leaves
    move_stands (Switched x) leaves o =
        stays (Switched x) o (kinds_apart (Interface v Depth) DistributorControl refl) (kinds_apart (Stack v i) DistributorControl refl) (kinds_apart (Interface v BinaryPoint) DistributorControl refl)
    move_stands (Given u c) leaves o =
        let lent = givable shape s h u c o in
        let n : ℕ = c.intid.0 in
        same p (given_deeper u c o)
        (given_others shape u c s lent (Stack v i) (exists, inside) (apart_record (Stack v i) u n refl) (kinds_apart (Stack v i) (Sources u n) refl) (kinds_apart (Stack v i) (Interface u Depth) refl)
        (λ q. let whose : u ≡ v = cc in let top : i ≡ depth_at shape u s = cc in omega (arith, p.deeper, top, ap (λ (w : ℕ). depth_at shape w s) whose)))
        (given_others shape u c s lent (Interface v BinaryPoint) exists (apart_record (Interface v BinaryPoint) u n refl) (kinds_apart (Interface v BinaryPoint) (Sources u n) refl)
        (point_apart u v) (kinds_apart (Interface v BinaryPoint) (Stack u (depth_at shape u s)) refl))
    move_stands (Popped u) leaves o = absurd leaves

    -- a pop of another vCPU's, or of a newer entry
    popped_stands : (u : ℕ) → u < shape.count → 0 < depth_at shape u s → (u ≡ v → i + 1 < depth_at shape v s) → It (popped shape u s)
    popped_stands u there some newer =
        let lent = served shape s h u there in
        same p
        (same_or u v
        (λ q. subst (λ (w : ℕ). i < depth_at shape w (popped shape u s)) q (rw (popped_depth shape u s lent some) (omega (arith, newer q, ap (λ (w : ℕ). depth_at shape w s) q))))
        (λ q. rw (popped_others shape u s lent some (Interface v Depth) exists (λ w. q (sym (cc))) (kinds_apart (Interface v Depth) (Stack u (depth_at shape u s - 1)) refl)) p.deeper))
        (popped_others shape u s lent some (Stack v i) (exists, inside) (kinds_apart (Stack v i) (Interface u Depth) refl)
        (λ q. let whose : u ≡ v = cc in let top : i ≡ depth_at shape u s - 1 = cc in omega (arith, newer whose, top, ap (λ (w : ℕ). depth_at shape w s) whose)))
        (popped_others shape u s lent some (Interface v BinaryPoint) exists (point_apart u v)
        (kinds_apart (Interface v BinaryPoint) (Stack u (depth_at shape u s - 1)) refl))

  -- a write to BPR that does not raise it
  point_stands : (s : List ℕ) (x : ℕ) → It s → kept BinaryPoint x ≤ b → Room shape s → It (with_interface shape v BinaryPoint x s)
  point_stands s x p less room = record {
    deeper = rw (put_other shape s (Interface v Depth) (Interface v BinaryPoint) (kept BinaryPoint x) exists exists (λ q. point_apart v v (sym q))) p.deeper;
    entry = ap entry_of (put_other shape s (Stack v i) (Interface v BinaryPoint) (kept BinaryPoint x) (exists, inside) exists (kinds_apart (Stack v i) (Interface v BinaryPoint) refl)) ∙ p.entry;
    point = rw (interface_same shape s v BinaryPoint x room exists) less;
  }

  -- Deactivate changes a record alone
  deactivated_stands : (u n : ℕ) (s : List ℕ) → Room shape s → u < shape.count → It s → It (deactivated shape u n s)
  deactivated_stands u n s room there p =
      let stay = deactivated_others shape u n s room there in
      same p (rw (stay (Interface v Depth) exists (apart_record (Interface v Depth) u n refl)) p.deeper) (stay (Stack v i) (exists, inside) (apart_record (Stack v i) u n refl))
      (stay (Interface v BinaryPoint) exists (apart_record (Interface v BinaryPoint) u n refl))

is_number : Option IntId → Type 0
is_number None = ⊥
is_number (Some k) = Unit

-- what decodes is the number itself
decoded_number : (x : ℕ) (k : IntId) → decoded x ≡ Some k → x ≡ k.0
unfolding decoded is_number
decoded_number x k = go (ltb x 1020)
  where
    go : (q : Bool) → cond q (Some (record { 0 = x })) None ≡ Some k → x ≡ k.0
    go true e = cc
    go false e = absurd (subst is_number (sym e) tt)

-- a handler's entry, and its binary point
module _ (h : Handler) (e : Entry) (is : e.intid.0 ≡ h.interrupt) (exists : h.vcpu < h.shape.count) (inside : depth_at h.shape h.vcpu h.words < stack_capacity) where
  abbrev shape : Shape
  shape = h.shape

  abbrev v : ℕ
  v = h.vcpu

  abbrev i : ℕ
  i = depth_at shape v h.words

  abbrev b : ℕ
  b = point_of h

  abbrev Holds : List ℕ → Type 0
  Holds = Stands shape v i e b

  module _ (s : List ℕ) (controls : Controls shape s) (p : Holds s) where
    sound : Sound shape s
    sound = lawful_sound controls.lawful

    -- a write of the vCPU u to its CPU interface, by its register's rule
    module _ (u value : ℕ) where
      abbrev spared : WriteRule → Type 0
      spared r = (eqb u v && (raises_point h r value || is_its_end h r value s)) ≡ false

      disturbed : (r : WriteRule) → u ≡ v → (raises_point h r value || is_its_end h r value s) ≡ true → spared r → ⊥
      disturbed r q w z = true≢false (sym (simp (eq-eqb u v q, w)) ∙ z)

      -- a number that is v's newest and does not end the story is newer than the entry
      newer : spared Ends → (n : ℕ) → value % 1024 ≡ n → is_newest n (stack_at shape u s) ≡ true → u ≡ v → i + 1 < depth_at shape v s
      newer z n number newest q = go (ltb (i + 1) (depth_at shape v s)) refl
        where
          go : (c : Bool) → ltb (i + 1) (depth_at shape v s) ≡ c → i + 1 < depth_at shape v s
          go true w = ltb-true (i + 1) (depth_at shape v s) w
          go false w =
              let depth : depth_at shape v s ≡ i + 1 = omega (arith, ltb-false (i + 1) (depth_at shape v s) w, p.deeper) in
              let top = stack_newest shape v s i (depth ∙ add-one i) in
              let here : is_newest n (stack_at shape v s) ≡ true = subst (λ (w : ℕ). is_newest n (stack_at shape w s) ≡ true) q newest in
              let its : eqb e.intid.0 n ≡ true = subst (λ (x : Entry). eqb x.intid.0 n ≡ true) p.entry (rw top at here) in
              let own : value % 1024 ≡ h.interrupt = number ∙ sym (eqb-true e.intid.0 n its) ∙ is in
              absurd (disturbed Ends q (simp (eq-eqb (value % 1024) h.interrupt own, eq-eqb (depth_at shape v s) (i + 1) depth)) z)

      end_stands : spared Ends → (n : ℕ) → value % 1024 ≡ n → u < shape.count → Holds (ended shape u n s)
      end_stands z n number there = go (is_newest n (stack_at shape u s)) refl
        where
          go : (c : Bool) → is_newest n (stack_at shape u s) ≡ c → Holds (ended shape u n s)
          go true w =
              let lent = served shape s sound u there in
              ended_keeps shape u n s lent Holds p (λ some. popped_stands shape v i e b exists inside s sound p u there some (newer z n number w))
              (λ some pop. deactivated_stands shape v i e b exists inside u n (popped shape u s) (popped_room shape u s lent some) there pop)
          go false w = rw (ended_unchanged shape u n s (served shape s sound u there) w) p

      by_number : spared Ends → (number : Option IntId) → decoded_eoi value ≡ number → (is_valid number ≡ true → u < shape.count) → Holds (eoi_state shape u number s)
      by_number z None q there = p
      by_number z (Some k) q there = end_stands z k.0 (decoded_number (value % 1024) k q) (there refl)

      by_dir : (number : Option IntId) → (is_valid number ≡ true → u < shape.count) → Holds (dir_state shape u number s)
      by_dir None there = p
      by_dir (Some k) there = deactivated_stands shape v i e b exists inside u k.0 s sound.state (there refl) p

      -- a value of u's interface: v's binary point, which is not raised, or another
      kept_stands : (k : InterfaceValue) → on_stack (Interface u k) ≡ false → u < shape.count → spared (Keeps k) → Holds (with_interface shape u k value s)
      kept_stands k off there z = same_or u v
          (go k off z)
          (λ q. other k off (λ w. q (cc)))
        where
          other : (k : InterfaceValue) → on_stack (Interface u k) ≡ false → (Interface v BinaryPoint ≡ Interface u k → ⊥) → Holds (with_interface shape u k value s)
          other k off apart = move_stands shape v i e b exists inside s sound p (Kept u k value) apart (record { exists = there; off_depth = off })

          low : (x : ℕ) → u ≡ v → spared (Keeps BinaryPoint) → x ≡ kept BinaryPoint value → x ≤ b
          low x q z w = le_of (ltb b x) refl
            where
              le_of : (c : Bool) → ltb b x ≡ c → x ≤ b
              le_of true g = absurd (disturbed (Keeps BinaryPoint) q (simp (rw w at g)) z)
              le_of false g = ltb-false b x g

          go : (k : InterfaceValue) → on_stack (Interface u k) ≡ false → spared (Keeps k) → u ≡ v → Holds (with_interface shape u k value s)
          go BinaryPoint off z q = rw q (point_stands shape v i e b exists inside s value p (low (kept BinaryPoint value) q z refl) sound.state)
          go Control off z q = other Control off (other_value Control u v (λ e. omega (arith, e)))
          go PriorityMask off z q = other PriorityMask off (other_value PriorityMask u v (λ e. omega (arith, e)))
          go Depth off z q = other Depth off (other_value Depth u v (λ e. omega (arith, e)))

      by_rule : (r : WriteRule) → OffDepths u r → (write_by_looks_up r value ≡ true → u < shape.count) → spared r → Holds (write_by shape u r value s)
      by_rule Ignored off there z = p
      by_rule (Keeps k) off there z = kept_stands k off (there refl) z
      by_rule Ends off there z = by_number z (decoded_eoi value) refl there
      by_rule Deactivates off there z = by_dir (decoded_eoi value) there

    -- a call that comes to this ends the story, or all stands
    abbrev Spared : Deed → Outcome → Type 0
    Spared d o = ends_story h s d o ≡ false → Holds o.state

    other_stands : (c : Call) → is_start c ≡ false → Spared (deed c) (called c s)
    other_stands =
        each_call shape s (valid shape s controls) (λ c. Spared) (λ c d r may bar z. p) (λ c by x z. p) (λ c u register x no z. p)
        (λ c u register acknowledges looked full.
        acknowledge_cases shape s controls u looked (Spared (Acts (ReadsRegister u (Ok register)))) (λ z. p) (λ d o z. move_stands shape v i e b exists inside s sound p (Given u d) tt o))
        (λ c u register value looked z. by_rule u value (rule_of register).writes (off_depths u register) looked z)
        (λ c u place width value at z.
        chain_keeps Holds (λ m t made o here now. move_stands shape v i e b exists inside t (lawful_sound here.lawful) now m (class_leaves shape v u place.class place.first.0 width value m made) o)
        (place_chain shape u width value s sound place at) controls p)
        (λ c u n signal there past z. signal_stands u n there past signal)
      where
        signal_stands : (u n : ℕ) → RecordThere shape u n → 16 ≤ n → (signal : Signal) → Holds (changed shape u n (signalled signal) s)
        signal_stands u n there past (Level asserted) = move_stands shape v i e b exists inside s sound p (Changed u n (moves.SetLevel asserted)) tt (record { there = there; fits = past })
        signal_stands u n there past Edge = move_stands shape v i e b exists inside s sound p (Changed u n moves.Pulse) tt (record { there = there; fits = past })

    pub call_stands : (c : Call) → ends_story h s (deed c) (called c s) ≡ false → Controls shape (called c s).state × Holds (called c s).state
    call_stands =
        start_or_act (λ c. ends_story h s (deed c) (called c s) ≡ false → Controls shape (called c s).state × Holds (called c s).state)
        (each_start s (λ c d o. ends_story h s d o ≡ false → Controls shape o.state × Holds o.state) (λ c d r may z. (controls, p)) (λ c count limit after new z. absurd (true≢false z)))
        (λ c other z. (every_other_call shape c other s controls, other_stands c other z))
