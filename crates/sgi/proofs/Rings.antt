-- What the registers of SGI sources and SGIR do, slot by slot: each step touches one SGI at one vCPU, its source set and its record alone; a
-- ring leaves the sender's source bit set, with every other, and the SGI pending; a byte of CPENDSGIR or SPENDSGIR leaves it pending exactly
-- if a source is then set. Assumes nothing.
use mathlib.Core.Path.{◌≡◌, refl, sym, ap, ◌∙◌}
use mathlib.Core.Bool.{Bool, true, false, not}
use mathlib.Core.List.{List}
use mathlib.Core.Logic.{inl, inr}
use Prim.Native.Nat.{ℕ, ◌-◌, ◌%◌, ◌^◌, ◌<◌}
use native.Mathlib.Nat.{lt_of_le_of_lt}
use native.Mathlib.Omega.{arith}
use lib.Bits.{and_le_l, bit_or, or_add_and, or_lt}
use lib.Dec.{eqb}
use lib.Pow.{pow-lt, pow_pos}
use borrow.Author.Tests.{ne_eqb}
use Rattle.interrupt.specs.Record.{set_pending}
use Rattle.interrupt.specs.Types.{every_vcpu}
use Rattle.interrupt.specs.declared.record.InterruptRecord.{InterruptRecord}
use Rattle.word.specs.Word.{record_of, word_of, InRange}
use Rattle.word.proofs.RecordWord.{decoded_in_range}
use Rattle.state.specs.declared.layout.Shape.{Shape}
use Rattle.state.specs.Layout.{Slot, Sources, Exists, Limits, Room}
use Rattle.state.specs.Words.{word_at, record_slot, record_at, changed, sources_at, with_sources}
use Rattle.state.proofs.Accessors.{put_room, put_other, record_exists, record_same, sources_same, record_no_sources}
use Rattle.state.proofs.Numbers.{Of, one_vcpu}
use Rattle.state.proofs.Own.{Own, put_own, then_own, if_own, unless_own, changed_own}
use Rattle.state.proofs.Steps.{slots, Agree, Local, steps_room, steps_own, steps_others}
use Rattle.sgi.specs.declared.SgiTarget.{SgiTarget}
use Rattle.sgi.specs.Sgi.{pend_by_sources, merged_sources, write_sources, pend_sgi, includes, sent_to, send_sgi}

pub sgi_exists : (shape : Shape) (v n : ℕ) → Limits shape → Exists shape (Sources v n) → Exists shape (record_slot v n)
sgi_exists shape v n l e = record_exists shape v n (record { numbered = omega arith; banked = λ b. e.0 })

module _ (shape : Shape) (v n : ℕ) (l : Limits shape) (e : Exists shape (Sources v n)) where
  pub same_sources : (s r : List ℕ) → Agree shape (Of v n) s r → sources_at shape v n s ≡ sources_at shape v n r
  same_sources s r a = ap (λ (w : ℕ). w % 256) (a.agree (Sources v n) e (inr refl))

  merges : (f : ℕ → ℕ) → Own shape (Of v n) (λ s. with_sources shape v n (f (sources_at shape v n s)) s)
  merges f = put_own shape (Of v n) (Sources v n) (λ s. f (sources_at shape v n s)) e (inr refl) (λ s r a. ap f (same_sources s r a))

  pend_own : Own shape (Of v n) (pend_by_sources shape v n)
  pend_own =
      put_own shape (Of v n) (record_slot v n) (λ s. word_of (set_pending (record_at shape v n s) (not (eqb (sources_at shape v n s) 0)))) (sgi_exists shape v n l e) (inl refl)
      (λ s r a. simp (same_sources s r a, a.agree (record_slot v n) (sgi_exists shape v n l e) (inl refl)))

  pub sources_own : (on : Bool) (byte : ℕ) → Own shape (Of v n) (write_sources shape v n on byte)
  unfolding write_sources
  sources_own on byte = unless_own shape (Of v n) (eqb byte 0) (then_own shape (Of v n) (merges (λ x. merged_sources on x byte)) pend_own)

  pub ring_own : (source : ℕ) → Own shape (Of v n) (pend_sgi shape v source n)
  unfolding pend_sgi
  ring_own source = then_own shape (Of v n) (merges (λ x. bit_or x (2 ^ source))) (changed_own shape v n (λ r. set_pending r true) (sgi_exists shape v n l e))

-- SGIR: each existing vCPU gets what its own ring makes of the start ..
module _ (shape : Shape) (source n : ℕ) (target : SgiTarget) (s : List ℕ) (h : Room shape s) (sgi : n < 16) where
  pub sent_own : (v : ℕ) → v < shape.count → Own shape (Of v n) (sent_to shape target source n v)
  sent_own v b = if_own shape (Of v n) (includes target source v) (λ p. ring_own shape v n h.limits (b, sgi) source)

  sent : (v : ℕ) → v < shape.count → Local shape (Of v n) (sent_to shape target source n v)
  sent v b = (sent_own v b).local

  pub sgi_sent : (v : ℕ) → v < shape.count → Agree shape (Of v n) (send_sgi shape source n target s) (sent_to shape target source n v s)
  unfolding send_sgi
  sgi_sent v b =
      steps_own (slots shape) (λ u. Of u n) (sent_to shape target source n) (λ i j t a c. one_vcpu i j n t (omega arith) a c) shape.count s sent h v b

  -- .. and nothing else changes
  pub sgi_others : (t : Slot) → Exists shape t → ((v : ℕ) → v < shape.count → Of v n t → ⊥) → word_at shape t (send_sgi shape source n target s) ≡ word_at shape t s
  unfolding send_sgi
  sgi_others t e away = steps_others (slots shape) (λ u. Of u n) (sent_to shape target source n) shape.count s sent h t e away

  pub sgi_room : Room shape (send_sgi shape source n target s)
  unfolding send_sgi
  sgi_room = steps_room (slots shape) (λ u. Of u n) (sent_to shape target source n) shape.count s sent h

-- a set that a source has joined is not empty
pub joined_some : (x source : ℕ) → bit_or x (2 ^ source) ≡ 0 → ⊥
joined_some x source e = omega (arith, e, or_add_and x (2 ^ source), and_le_l x (2 ^ source), pow_pos source)

-- sources merged are a byte
pub merged_fits : (on : Bool) (x byte : ℕ) → x < 256 → byte < 256 → merged_sources on x byte < 256
merged_fits true x byte a b = or_lt 8 x byte a b
merged_fits false x byte a b = lt_of_le_of_lt (and_le_l x (every_vcpu - byte)) a

-- a source set and then its record: both are as written
module _ (shape : Shape) (v n : ℕ) (s : List ℕ) (h : Room shape s) (e : Exists shape (Sources v n)) where
  module _ (x : ℕ) (b : x < 256) (f : InterruptRecord → InterruptRecord) (keeps : (r : InterruptRecord) → InRange r → InRange (f r)) where
    pub both_sources : sources_at shape v n (changed shape v n f (with_sources shape v n x s)) ≡ x
    both_sources =
        let after = with_sources shape v n x s in
        ap (λ (w : ℕ). w % 256) (put_other shape after (Sources v n) (record_slot v n) (word_of (f (record_at shape v n after))) e (sgi_exists shape v n h.limits e) (λ p. record_no_sources v n v n (sym p)))
        ∙ sources_same shape s v n x h e b

    pub both_record : record_at shape v n (changed shape v n f (with_sources shape v n x s)) ≡ f (record_at shape v n s)
    both_record =
        let after = with_sources shape v n x s in
        let r = record_at shape v n after in
        record_same shape after v n (f r) (put_room shape s (Sources v n) x h) (sgi_exists shape v n h.limits e) (keeps r (decoded_in_range (word_at shape (record_slot v n) after)))
        ∙ ap (λ (w : ℕ). f (record_of w)) (put_other shape s (record_slot v n) (Sources v n) x (sgi_exists shape v n h.limits e) e (record_no_sources v n v n))

  pub pended : (p : Bool) (r : InterruptRecord) → InRange r → InRange (set_pending r p)
  unfolding set_pending
  pended p r i = record { priority_byte = i.priority_byte; mask_byte_lem = i.mask_byte_lem; owner_byte_lem = i.owner_byte_lem }

  -- a ring: the sender's bit joins the others, and the SGI is pending
  module _ (source : ℕ) (b : source < 8) where
    joined_below : bit_or (sources_at shape v n s) (2 ^ source) < 256
    joined_below = or_lt 8 (sources_at shape v n s) (2 ^ source) (omega arith) (pow-lt b)

    pub ring_sources : sources_at shape v n (pend_sgi shape v source n s) ≡ bit_or (sources_at shape v n s) (2 ^ source)
    unfolding pend_sgi
    ring_sources = both_sources (bit_or (sources_at shape v n s) (2 ^ source)) joined_below (λ r. set_pending r true) (pended true)

    pub ring_pends : record_at shape v n (pend_sgi shape v source n s) ≡ set_pending (record_at shape v n s) true
    unfolding pend_sgi
    ring_pends = both_record (bit_or (sources_at shape v n s) (2 ^ source)) joined_below (λ r. set_pending r true) (pended true)

  -- a byte of CPENDSGIR or SPENDSGIR with a 1 bit: the sources are merged, and the SGI is pending exactly if one is left
  module _ (on : Bool) (byte : ℕ) (b : byte < 256) (some : byte ≡ 0 → ⊥) where
    merged_below : merged_sources on (sources_at shape v n s) byte < 256
    merged_below = merged_fits on (sources_at shape v n s) byte (omega arith) b

    pub written_sources : sources_at shape v n (write_sources shape v n on byte s) ≡ merged_sources on (sources_at shape v n s) byte
    unfolding write_sources
    written_sources =
        let x = merged_sources on (sources_at shape v n s) byte in
        simp (ne_eqb byte 0 some)
        (both_sources x merged_below (λ r. set_pending r (not (eqb (sources_at shape v n (with_sources shape v n x s)) 0))) (pended (not (eqb (sources_at shape v n (with_sources shape v n x s)) 0))))

    pub written_pends : record_at shape v n (write_sources shape v n on byte s)
        ≡ set_pending (record_at shape v n s) (not (eqb (merged_sources on (sources_at shape v n s) byte) 0))
    unfolding write_sources
    written_pends =
        let x = merged_sources on (sources_at shape v n s) byte in
        simp (ne_eqb byte 0 some)
        (both_record x merged_below (λ r. set_pending r (not (eqb (sources_at shape v n (with_sources shape v n x s)) 0))) (pended (not (eqb (sources_at shape v n (with_sources shape v n x s)) 0)))
        ∙ ap (λ (q : ℕ). set_pending (record_at shape v n s) (not (eqb q 0))) (sources_same shape s v n x h e merged_below))
