-- Which way a write goes: set-enable, set-pending and clear-active only make records readier, clear-enable, clear-pending and set-active only less ready,
-- ICFGR does neither; and so with SPENDSGIR and CPENDSGIR. The summary is exact, and stays so. Assumes nothing.
use Rattle.std.specs.Prelude.{None}
use mathlib.Core.Path.{◌≡◌, refl, sym, ap, subst, ◌∙◌}
use mathlib.Core.Bool.{Bool, true, false, not, cond, ◌&&◌, ◌||◌, true≢false}
use mathlib.Core.List.{List}
use Prim.Native.Nat.{ℕ, ◌+◌, ◌-◌, ◌<◌}
use native.Mathlib.Omega.{arith}
use lib.Bits.{and_le_l}
use lib.Dec.{eqb, ltb}
use borrow.Author.Tests.{ne_eqb, ltb-true}
use Rattle.interrupt.specs.Types.{every_vcpu, is_level}
use Rattle.interrupt.specs.Record.{set_enabled, held, set_pending, set_active, cancel_inflight, set_trigger, set_owner}
use Rattle.interrupt.specs.declared.record.InterruptRecord.{InterruptRecord}
use Rattle.register.specs.declared.ranges.BitRegister.{BitRegister}
use Rattle.register.specs.declared.ranges.BitRegister.TheVariants.{Igroupr, Isenabler, Icenabler, Ispendr, Icpendr, Isactiver, Icactiver, Icfgr}
use Rattle.word.specs.Fields.{field_at}
use Rattle.word.specs.Word.{record_of, word_of, InRange}
use Rattle.word.proofs.Cases.{same_or}
use Rattle.word.proofs.RecordWord.{decoded_in_range, decode_encode}
use Rattle.state.specs.declared.layout.Shape.{Shape}
use Rattle.state.specs.Layout.{Sources, Spi, Exists, Limits, Room, kind_of, is_record}
use Rattle.state.specs.Words.{word_at, put, record_slot, record_at, changed, sources_at, Exact}
use Rattle.state.proofs.Numbers.{Of, numbers_apart}
use Rattle.state.proofs.Ready.{Anywhere, Summed, summed_kept}
use Rattle.state.proofs.SlotKinds.{record_kind}
use Rattle.state.proofs.Tests.{left_true}
use Rattle.bits.specs.Bits.{field_bits, per_word, acts, clear_active, act, write_number, write_bits, BitWordAt}
use Rattle.bits.proofs.Registers.{act_in_range, word_there, field_own}
use Rattle.sgi.specs.Sgi.{merged_sources, write_sources}
use Rattle.sgi.proofs.Rings.{sgi_exists, merged_fits, pended}
use Rattle.merging.specs.Merging.{readies_none}
use Rattle.merging.proofs.Joined.{some_right}
use Rattle.merging.proofs.Rising.{Way, Rises, Rising, rises_none, way_none, way_then, record_way, sources_way, run_way}
use Rattle.merging.proofs.Sources.{Pends, both, sourced_both, record_behind}

-- the way of a bit register's write: up, where it may make a record readier
abbrev pub raises : BitRegister → Bool
raises register = not (readies_none register)

-- enabled, pending, not active: each of them may be made so
pub made_true : (e p a : Bool) → ((e && p) && not a) ≡ true → (e ≡ true) × ((p ≡ true) × (not a ≡ true))
made_true true true a h = (refl, (refl, h))
made_true true false a h = absurd (true≢false (sym h))
made_true false p a h = absurd (true≢false (sym h))

pub ready_of : (e p a : Bool) → e ≡ true → p ≡ true → not a ≡ true → ((e && p) && not a) ≡ true
ready_of e p a he hp ha = rw (he, hp, ha)

line_pends : (l p : Bool) → p ≡ true → cond l true p ≡ true
line_pends true p h = refl
line_pends false p h = h

kept_pends : (l p : Bool) → cond l p false ≡ true → p ≡ true
kept_pends true p h = h
kept_pends false p h = absurd (true≢false (sym h))

noted_pends : (p n : Bool) → p ≡ true → (p || n) ≡ true
noted_pends true n h = refl
noted_pends false n h = absurd (true≢false (sym h))

never : (a b : Bool) → ((a && b) && false) ≡ true → ⊥
never true true h = true≢false (sym h)
never true false h = true≢false (sym h)
never false b h = true≢false (sym h)

cleared_rises : (r : InterruptRecord) → Rises r (clear_active r)
unfolding clear_active set_owner cancel_inflight set_active
cleared_rises r = go r.inflight
  where
    go : (b : Bool) → Rises r (cond b (set_owner (cancel_inflight (set_active r false)) None) (set_active r false))
    go true = record {
      ready = λ h. let m = made_true r.enabled r.pending r.active h in ready_of r.enabled (r.pending || r.redelivery_pending) false m.0 (noted_pends r.pending r.redelivery_pending m.1.0) refl;
      priority = refl;
      mask = refl;
    }
    go false = record { ready = λ h. let m = made_true r.enabled r.pending r.active h in ready_of r.enabled r.pending false m.0 m.1.0 refl; priority = refl; mask = refl }

-- set pending, or left pending by what is left of the sources
pend_way : (on q : Bool) (r : InterruptRecord) → (on ≡ true → q ≡ true) → (on ≡ false → q ≡ true → r.pending ≡ true) → Way on Rises r (set_pending r q)
unfolding set_pending held
pend_way true true r set waits =
    record { ready = λ h. let m = made_true r.enabled r.pending r.active h in ready_of r.enabled true r.active m.0 refl m.1.1; priority = refl; mask = refl }
pend_way true false r set waits = absurd (true≢false (sym (set refl)))
pend_way false true r set waits =
    record { ready = λ h. let m = made_true r.enabled true r.active h in ready_of r.enabled r.pending r.active m.0 (waits refl refl) m.1.1; priority = refl; mask = refl }
pend_way false false r set waits = record {
  ready = λ h.
      let m = made_true r.enabled (cond (is_level r.trigger && r.line_asserted) r.pending false) r.active h in
      ready_of r.enabled r.pending r.active m.0 (kept_pends (is_level r.trigger && r.line_asserted) r.pending m.1.0) m.1.1;
  priority = refl;
  mask = refl;
}

pub act_way : (register : BitRegister) (x : ℕ) (r : InterruptRecord) → Way (raises register) Rises r (act register x r)
unfolding set_enabled set_active set_trigger
act_way Igroupr x r = rises_none r
act_way Isenabler x r = record {
  ready = λ h. let m = made_true r.enabled r.pending r.active h in ready_of true (cond r.line_asserted true r.pending) r.active refl (line_pends r.line_asserted r.pending m.1.0) m.1.1;
  priority = refl;
  mask = refl;
}
act_way Icenabler x r = record { ready = λ h. absurd (true≢false (sym h)); priority = refl; mask = refl }
act_way Ispendr x r = pend_way true true r (λ e. refl) (λ e. absurd (true≢false e))
act_way Icpendr x r = pend_way false false r (λ e. absurd (true≢false (sym e))) (λ e q. absurd (true≢false (sym q)))
act_way Isactiver x r = record { ready = λ h. absurd (never r.enabled r.pending h); priority = refl; mask = refl }
act_way Icactiver x r = cleared_rises r
act_way Icfgr x r = record { ready = λ h. h; priority = refl; mask = refl }

-- a record's slot
record_is : (v n : ℕ) → is_record (record_slot v n) ≡ true
record_is v n = ap (λ (k : ℕ). eqb k (kind_of (Spi 0))) (record_kind v n)

pub changed_way : (up : Bool) (shape : Shape) (v n : ℕ) (f : InterruptRecord → InterruptRecord) (s : List ℕ) → Room shape s → Exists shape (record_slot v n)
    → ((r : InterruptRecord) → InRange r → InRange (f r)) → Way up Rises (record_at shape v n s) (f (record_at shape v n s)) → Way up (Rising shape) s (changed shape v n f s)
changed_way up shape v n f s h e ranged rises =
    let old = record_at shape v n s in
    record_way up shape s h (record_slot v n) (word_of (f old)) e (record_is v n)
    (subst (Way up Rises old) (sym (decode_encode (f old) (ranged old (decoded_in_range (word_at shape (record_slot v n) s))))) rises)

-- a word of a bit register
module _ (shape : Shape) (register : BitRegister) (v n x : ℕ) (there : n < shape.limit → Exists shape (record_slot v n)) (s : List ℕ) (h : Summed shape s) where
  number_way : Way (raises register) (Rising shape) s (write_number shape register v n x s) × Summed shape (write_number shape register v n x s)
  unfolding write_number
  number_way = go (ltb n shape.limit && acts register n x) refl
    where
      go : (b : Bool) → (ltb n shape.limit && acts register n x) ≡ b
          → Way (raises register) (Rising shape) s (cond b (changed shape v n (act register x) s) s) × Summed shape (cond b (changed shape v n (act register x) s) s)
      go false e = (way_none (raises register) shape s, h)
      go true e =
          let slot = there (ltb-true n shape.limit (left_true (ltb n shape.limit) (acts register n x) e)) in (
            changed_way (raises register) shape v n (act register x) s h.0 slot (act_in_range register x) (act_way register x (record_at shape v n s)),
            summed_kept shape Anywhere (record_slot v n) (word_of (act register x (record_at shape v n s))) s slot tt h,
          )

pub bits_way : (shape : Shape) (register : BitRegister) (v first value : ℕ) (s : List ℕ) → BitWordAt shape register v first s → Exact shape s
    → Way (raises register) (Rising shape) s (write_bits shape register v first value s) × Summed shape (write_bits shape register v first value s)
unfolding write_bits
bits_way shape register v first value s at x =
    run_way (raises register) shape (λ i. Of v (first + i)) (numbers_apart v first) (λ i. write_number shape register v (first + i) (field_at (field_bits register) i value)) s (at.state, x) (per_word register)
    (λ i h. (field_own shape register v first value s at i).local)
    (λ i h r k agree. number_way shape register v (first + i) (field_at (field_bits register) i value) (word_there shape register v first s at i) r k)

-- a source byte
module _ (shape : Shape) (v n : ℕ) (l : Limits shape) (e : Exists shape (Sources v n)) (on : Bool) (byte : ℕ) (fits : byte < 256) (s : List ℕ) (h : Summed shape s) (pends : on ≡ false → Pends shape v n s) where
  abbrev joined : ℕ
  joined = merged_sources on (sources_at shape v n s) byte

  goes : (byte ≡ 0 → ⊥) → Way on Rises (record_at shape v n s) (set_pending (record_at shape v n s) (not (eqb joined 0)))
  goes some = pend_way on (not (eqb joined 0)) (record_at shape v n s) (set on refl) (waits on refl)
    where
      set : (b : Bool) → on ≡ b → b ≡ true → not (eqb (merged_sources b (sources_at shape v n s) byte) 0) ≡ true
      set true p q = ap not (ne_eqb (merged_sources true (sources_at shape v n s) byte) 0 (some_right (sources_at shape v n s) byte some))
      set false p q = absurd (true≢false (sym q))

      waits : (b : Bool) → on ≡ b → b ≡ false → not (eqb (merged_sources b (sources_at shape v n s) byte) 0) ≡ true → (record_at shape v n s).pending ≡ true
      waits true p q left = absurd (true≢false q)
      waits false p q left = pends p (λ none. true≢false (sym left ∙ gone none))
        where
          gone : sources_at shape v n s ≡ 0 → not (eqb (merged_sources false (sources_at shape v n s) byte) 0) ≡ false
          gone none = let z : merged_sources false (sources_at shape v n s) byte ≡ 0 = omega (arith, none, and_le_l (sources_at shape v n s) (every_vcpu - byte)) in rw z

  both_way : (byte ≡ 0 → ⊥) → Way on (Rising shape) s (both shape v n l e joined s) × Summed shape (both shape v n l e joined s)
  both_way some =
      let own = record_slot v n in
      let slot = sgi_exists shape v n l e in
      let old = record_at shape v n s in
      let new = set_pending old (not (eqb joined 0)) in
      let first = summed_kept shape Anywhere (Sources v n) joined s e tt h in (
        way_then on shape s (put shape (Sources v n) joined s) (put shape own (word_of new) (put shape (Sources v n) joined s))
            (sources_way on shape s h.0 (Sources v n) joined e refl refl)
            (record_way on shape (put shape (Sources v n) joined s) first.0 own (word_of new) slot (record_is v n)
            (subst (λ (r : InterruptRecord). Way on Rises r (record_of (word_of new))) (sym (record_behind shape v n l e joined s))
            (subst (Way on Rises old) (sym (decode_encode new (pended shape v n s h.0 e (not (eqb joined 0)) old (decoded_in_range (word_at shape own s))))) (goes some)))),
        summed_kept shape Anywhere own (word_of new) (put shape (Sources v n) joined s) slot tt first,
      )

  pub source_way : Way on (Rising shape) s (write_sources shape v n on byte s) × Summed shape (write_sources shape v n on byte s)
  unfolding write_sources
  source_way =
      same_or byte 0
      (λ z. rw z (way_none on shape s, h))
      (λ some. simp (ne_eqb byte 0 some) (rw (sourced_both shape v n l e joined (merged_fits on (sources_at shape v n s) byte (omega arith) fits) s h.0) (both_way some)))
