-- A word of a bit register written twice: each number is written twice, and of that the record's transition is its last, or once is as good as twice.
-- In any words that hold a state. Assumes nothing.
use Rattle.std.specs.Prelude.{None}
use mathlib.Core.Path.{◌≡◌, refl, sym, ap, ◌∙◌}
use mathlib.Core.Bool.{Bool, true, false, not, cond, ◌&&◌, ◌||◌, true≢false}
use mathlib.Core.List.{List}
use Prim.Native.Nat.{ℕ, ◌+◌, ◌*◌, ◌<◌}
use lib.Bits.{bit_or}
use lib.Dec.{eqb, ltb}
use borrow.Author.Tests.{ltb-true}
use Rattle.interrupt.specs.Types.{is_sgi, is_level}
use Rattle.interrupt.specs.With.{with_enabled, with_pending, with_redelivery}
use Rattle.interrupt.specs.Record.{set_enabled, held, set_pending, set_active, cancel_inflight, set_trigger, set_owner}
use Rattle.interrupt.specs.declared.record.InterruptRecord.{InterruptRecord}
use Rattle.register.specs.declared.ranges.BitRegister.{BitRegister}
use Rattle.register.specs.declared.ranges.BitRegister.TheVariants.{Igroupr, Isenabler, Icenabler, Ispendr, Icpendr, Isactiver, Icactiver, Icfgr}
use Rattle.word.specs.Fields.{field_at}
use Rattle.word.specs.Word.{word_of, InRange}
use Rattle.word.proofs.RecordWord.{decoded_in_range}
use Rattle.state.specs.declared.layout.Shape.{Shape}
use Rattle.state.specs.Layout.{Exists, Room}
use Rattle.state.specs.Words.{word_at, put, record_slot, record_at, changed}
use Rattle.state.proofs.Accessors.{record_same}
use Rattle.state.proofs.Numbers.{Of, numbers_apart}
use Rattle.state.proofs.Own.{Own, runs_merge}
use Rattle.state.proofs.Ready.{put_put}
use Rattle.bits.specs.Bits.{field_bits, per_word, acts, clear_active, act, write_number, write_bits, BitWordAt}
use Rattle.bits.proofs.Registers.{act_in_range, word_there, field_own}
use Rattle.merging.specs.Merging.{bits_as_one}
use Rattle.merging.proofs.Joined.{flag_or, or_same}

-- a record changed twice
pub changed_twice : (shape : Shape) (v n : ℕ) (f g k : InterruptRecord → InterruptRecord) (s : List ℕ) → Room shape s → Exists shape (record_slot v n)
    → ((r : InterruptRecord) → InRange r → InRange (f r)) → g (f (record_at shape v n s)) ≡ k (record_at shape v n s) → changed shape v n g (changed shape v n f s) ≡ changed shape v n k s
changed_twice shape v n f g k s h e ranged same =
    let t = record_slot v n in
    let old = record_at shape v n s in
    ap (λ (r : InterruptRecord). put shape t (word_of (g r)) (changed shape v n f s)) (record_same shape s v n (f old) h e (ranged old (decoded_in_range (word_at shape t s))))
    ∙ put_put shape s h t (word_of (f old)) (word_of (g (f old))) e
    ∙ ap (λ (r : InterruptRecord). put shape t (word_of r) s) same

bit_or_lem : (i a b : ℕ) → eqb (field_at 1 i (bit_or a b)) 1 ≡ (eqb (field_at 1 i a) 1 || eqb (field_at 1 i b) 1)
bit_or_lem i a b = flag_or (1 * i) a b

-- a transition that follows itself is its last
late : (l p : Bool) → cond l true (cond l true p) ≡ cond l true p
late true p = refl
late false p = refl

kept : (l p : Bool) → cond l (cond l p false) false ≡ cond l p false
kept true p = refl
kept false p = refl

cleared_again : (r : InterruptRecord) → clear_active (clear_active r) ≡ clear_active r
unfolding clear_active set_owner cancel_inflight set_active
cleared_again r = go r.inflight refl
  where
    go : (b : Bool) → r.inflight ≡ b
        → clear_active (cond b (set_owner (cancel_inflight (set_active r false)) None) (set_active r false)) ≡ cond b (set_owner (cancel_inflight (set_active r false)) None) (set_active r false)
    go true e = refl
    go false e = simp e

pub act_again : (register : BitRegister) (x y : ℕ) (r : InterruptRecord) → act register y (act register x r) ≡ act register y r
unfolding set_enabled set_pending held set_active set_trigger
act_again Igroupr x y r = refl
act_again Isenabler x y r = ap (λ (p : Bool). with_pending p (with_enabled true r)) (late r.line_asserted r.pending)
act_again Icenabler x y r = refl
act_again Ispendr x y r = refl
act_again Icpendr x y r = ap (λ (p : Bool). with_redelivery false (with_pending p r)) (kept (is_level r.trigger && r.line_asserted) r.pending)
act_again Isactiver x y r = refl
act_again Icactiver x y r = cleared_again r
act_again Icfgr x y r = refl

-- the field m does what x and then y do
record Fused (register : BitRegister) (n x y m : ℕ) : Type 0 where
  either : acts register n m ≡ (acts register n x || acts register n y)
  second : (r : InterruptRecord) → acts register n y ≡ true → act register m r ≡ act register y r
  first : (r : InterruptRecord) → acts register n y ≡ false → acts register n x ≡ true → act register m r ≡ act register x r

or_and : (p q k : Bool) → ((p || q) && k) ≡ ((p && k) || (q && k))
or_and true true true = refl
or_and true true false = refl
or_and true false true = refl
or_and true false false = refl
or_and false q k = refl

-- "Pend bits of SGIs ignore writes"
pend_or : (n i a b : ℕ) → acts Ispendr n (field_at 1 i (bit_or a b)) ≡ (acts Ispendr n (field_at 1 i a) || acts Ispendr n (field_at 1 i b))
pend_or n i a b =
    let others = not (is_sgi (record { 0 = n })) in
    ap (λ (p : Bool). p && others) (bit_or_lem i a b) ∙ or_and (eqb (field_at 1 i a) 1) (eqb (field_at 1 i b) 1) others

fused : (register : BitRegister) (n i a b : ℕ)
    → Fused register n (field_at (field_bits register) i a) (field_at (field_bits register) i b) (field_at (field_bits register) i (bits_as_one register a b))
fused Igroupr n i a b = record { either = refl; second = λ r e. refl; first = λ r e f. refl }
fused Isenabler n i a b = record { either = bit_or_lem i a b; second = λ r e. refl; first = λ r e f. refl }
fused Icenabler n i a b = record { either = bit_or_lem i a b; second = λ r e. refl; first = λ r e f. refl }
fused Ispendr n i a b = record { either = pend_or n i a b; second = λ r e. refl; first = λ r e f. refl }
fused Icpendr n i a b = record { either = pend_or n i a b; second = λ r e. refl; first = λ r e f. refl }
fused Isactiver n i a b = record { either = bit_or_lem i a b; second = λ r e. refl; first = λ r e f. refl }
fused Icactiver n i a b = record { either = bit_or_lem i a b; second = λ r e. refl; first = λ r e f. refl }
fused Icfgr n i a b = record { either = or_same (not (is_sgi (record { 0 = n }))); second = λ r e. refl; first = λ r e f. absurd (true≢false (sym f ∙ e)) }

-- a number
module _ (shape : Shape) (register : BitRegister) (v n : ℕ) (there : n < shape.limit → Exists shape (record_slot v n)) where
  number_twice : (x y m : ℕ) → Fused register n x y m → (s : List ℕ) → Room shape s → write_number shape register v n y (write_number shape register v n x s) ≡ write_number shape register v n m s
  unfolding write_number
  number_twice x y m fuse s h = go (ltb n shape.limit) refl
    where
      f : ℕ → List ℕ → List ℕ
      f z r = changed shape v n (act register z) r

      both : n < shape.limit → (p q : Bool) → acts register n x ≡ p → acts register n y ≡ q → cond q (f y (cond p (f x s) s)) (cond p (f x s) s) ≡ cond (p || q) (f m s) s
      both below true true e d =
          changed_twice shape v n (act register x) (act register y) (act register m) s h (there below) (act_in_range register x)
          (act_again register x y (record_at shape v n s) ∙ sym (fuse.second (record_at shape v n s) d))
      both below true false e d = ap (λ (r : InterruptRecord). put shape (record_slot v n) (word_of r) s) (sym (fuse.first (record_at shape v n s) d e))
      both below false true e d = ap (λ (r : InterruptRecord). put shape (record_slot v n) (word_of r) s) (sym (fuse.second (record_at shape v n s) d))
      both below false false e d = refl

      go : (b : Bool) → ltb n shape.limit ≡ b
          → cond (b && acts register n y) (f y (cond (b && acts register n x) (f x s) s)) (cond (b && acts register n x) (f x s) s) ≡ cond (b && acts register n m) (f m s) s
      go true e = both (ltb-true n shape.limit e) (acts register n x) (acts register n y) refl refl ∙ ap (λ (b : Bool). cond b (f m s) s) (sym fuse.either)
      go false e = refl

-- a word
module _ (shape : Shape) (register : BitRegister) (v first : ℕ) (s : List ℕ) (at : BitWordAt shape register v first s) where
  pub bits_as_one_lem : (a b : ℕ) → write_bits shape register v first b (write_bits shape register v first a s) ≡ write_bits shape register v first (bits_as_one register a b) s
  unfolding write_bits
  bits_as_one_lem a b =
      runs_merge shape (λ i. Of v (first + i)) (numbers_apart v first) (steps a) (steps b) (steps (bits_as_one register a b)) s at.state (per_word register)
      (λ i h. own a i) (λ i h. own b i) (λ i h. own (bits_as_one register a b) i)
      (λ i h r k agree. number_twice shape register v (first + i) (word_there shape register v first s at i) _ _ _ (fused register (first + i) i a b) r k)
    where
      steps : ℕ → ℕ → List ℕ → List ℕ
      steps value i = write_number shape register v (first + i) (field_at (field_bits register) i value)

      own : (value i : ℕ) → Own shape (Of v (first + i)) (steps value i)
      own value i = field_own shape register v first value s at i
