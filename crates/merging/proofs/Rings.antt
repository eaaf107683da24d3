-- Two rings of one SGI: a ring is a byte of SPENDSGIR with the sender's bit at each vCPU that it is sent to, and a bit set twice is set once. So they are one
-- ring to whomever one of them is sent to; with the same filter that is the ring whose value has the bits of both. Assumes nothing.
use mathlib.Core.Path.{◌≡◌, refl, sym, ap, ◌∙◌}
use mathlib.Core.Bool.{Bool, true, false, not, cond, ◌||◌, true≢false}
use mathlib.Core.List.{List}
use Prim.Native.Nat.{ℕ, ◌/◌, ◌%◌, ◌^◌, ◌<◌}
use native.Mathlib.Omega.{arith}
use lib.Bits.{bit_or, or_lt, or_self, or_mod}
use lib.Dec.{eqb}
use lib.Pow.{pow-lt, pow_pos}
use borrow.Author.Tests.{ne_eqb}
use Rattle.interrupt.specs.Record.{set_pending}
use Rattle.state.specs.declared.layout.Shape.{Shape}
use Rattle.state.specs.Layout.{Slot, Sources, Exists, Limits, Room}
use Rattle.state.specs.Words.{sources_at, changed, with_sources}
use Rattle.state.proofs.Accessors.{sources_same}
use Rattle.state.proofs.Numbers.{Of, one_vcpu}
use Rattle.state.proofs.Own.{runs_merge}
use Rattle.state.proofs.Ready.{Summed}
use Rattle.sgi.specs.declared.SgiTarget.{SgiTarget}
use Rattle.sgi.specs.declared.SgiTarget.TheVariants.{Mask, AllExceptSelf, SelfOnly, Nobody}
use Rattle.sgi.specs.Sgi.{write_sources, pend_sgi, sgi_target, includes, sent_to, send_sgi}
use Rattle.sgi.proofs.Rings.{ring_own, sent_own, joined_some}
use Rattle.places.specs.Places.{names, sends}
use Rattle.merging.specs.Merging.{SameRing}
use Rattle.merging.proofs.Joined.{flag_or, or_field, or_same}
use Rattle.merging.proofs.Rising.{Rising, rising_none, run_way}
use Rattle.merging.proofs.Sources.{sources_twice}
use Rattle.merging.proofs.Ways.{source_way}

-- one vCPU's
module _ (shape : Shape) (v source n : ℕ) (few : source < 8) (l : Limits shape) (e : Exists shape (Sources v n)) where
  some_bit : 2 ^ source ≡ 0 → ⊥
  some_bit z = omega (arith, z, pow_pos source)

  ring_sets : (s : List ℕ) → Room shape s → pend_sgi shape v source n s ≡ write_sources shape v n true (2 ^ source) s
  unfolding pend_sgi write_sources
  ring_sets s h = simp (ne_eqb (2 ^ source) 0 some_bit) (ap (λ (b : Bool). changed shape v n (λ r. set_pending r b) (with_sources shape v n joined s)) (sym left))
    where
      joined : ℕ
      joined = bit_or (sources_at shape v n s) (2 ^ source)

      left : not (eqb (sources_at shape v n (with_sources shape v n joined s)) 0) ≡ true
      left =
          ap (λ (z : ℕ). not (eqb z 0)) (sources_same shape s v n joined h e (or_lt 8 (sources_at shape v n s) (2 ^ source) (omega arith) (pow-lt few)))
          ∙ ap not (ne_eqb joined 0 (joined_some (sources_at shape v n s) source))

  ring_room : (s : List ℕ) → Room shape s → Room shape (pend_sgi shape v source n s)
  ring_room s h = (ring_own shape v n l e source).local.room s h

  ring_twice : (s : List ℕ) → Room shape s → pend_sgi shape v source n (pend_sgi shape v source n s) ≡ pend_sgi shape v source n s
  ring_twice s h =
      ring_sets (pend_sgi shape v source n s) (ring_room s h)
      ∙ ap (write_sources shape v n true (2 ^ source)) (ring_sets s h)
      ∙ sources_twice shape v n l e true (2 ^ source) (2 ^ source) (pow-lt few) (pow-lt few) s h (λ q. absurd (true≢false q))
      ∙ ap (λ (x : ℕ). write_sources shape v n true x s) (or_self (2 ^ source))
      ∙ sym (ring_sets s h)

  ring_way : (s : List ℕ) → Summed shape s → Rising shape s (pend_sgi shape v source n s) × Summed shape (pend_sgi shape v source n s)
  ring_way s h = rw (ring_sets s h.0) (source_way shape v n l e true (2 ^ source) (pow-lt few) s h (λ q. absurd (true≢false q)))

-- to several vCPUs
module _ (shape : Shape) (source n : ℕ) (few : source < 8) (sgi : n < 16) (s : List ℕ) (l : Limits shape) where
  vcpus_apart : (i j : ℕ) (t : Slot) → Of i n t → Of j n t → i ≡ j
  vcpus_apart i j t a b = one_vcpu i j n t (omega arith) a b

  module _ (first second one : SgiTarget) (either : (u : ℕ) → includes one source u ≡ (includes first source u || includes second source u)) where
    sent_twice : (u : ℕ) → u < shape.count → (r : List ℕ) → Room shape r → sent_to shape second source n u (sent_to shape first source n u r) ≡ sent_to shape one source n u r
    sent_twice u b r h = go (includes first source u) (includes second source u) ∙ ap (λ (q : Bool). cond q (ring r) r) (sym (either u))
      where
        ring : List ℕ → List ℕ
        ring q = pend_sgi shape u source n q

        go : (p q : Bool) → cond q (ring (cond p (ring r) r)) (cond p (ring r) r) ≡ cond (p || q) (ring r) r
        go true true = ring_twice shape u source n few l (b, sgi) r h
        go true false = refl
        go false true = refl
        go false false = refl

    pub sent_as_one : Room shape s → send_sgi shape source n second (send_sgi shape source n first s) ≡ send_sgi shape source n one s
    unfolding send_sgi
    sent_as_one h =
        runs_merge shape (λ u. Of u n) vcpus_apart (sent_to shape first source n) (sent_to shape second source n) (sent_to shape one source n) s h shape.count
        (sent_own shape source n first s h sgi) (sent_own shape source n second s h sgi) (sent_own shape source n one s h sgi) (λ u b r k agree. sent_twice u b r k)

  pub sent_way : (to : SgiTarget) → Summed shape s → Rising shape s (send_sgi shape source n to s) × Summed shape (send_sgi shape source n to s)
  unfolding send_sgi
  sent_way to h =
      run_way true shape (λ u. Of u n) vcpus_apart (sent_to shape to source n) s h shape.count (λ u b. (sent_own shape source n to s h.0 sgi u b).local) (λ u b r k agree. step u b r k)
    where
      step : (u : ℕ) → u < shape.count → (r : List ℕ) → Summed shape r → Rising shape r (sent_to shape to source n u r) × Summed shape (sent_to shape to source n u r)
      step u b r k = go (includes to source u)
        where
          go : (q : Bool) → Rising shape r (cond q (pend_sgi shape u source n r) r) × Summed shape (cond q (pend_sgi shape u source n r) r)
          go true = ring_way shape u source n few l (b, sgi) r k
          go false = (rising_none shape r, k)

-- what the value with the bits of both says: the same filter, the same number, and both lists
module _ (a b : ℕ) (same : SameRing a b) where
  pub both_filter : bit_or a b / 2 ^ 24 % 4 ≡ a / 2 ^ 24 % 4
  both_filter = or_field 24 2 a b ∙ ap (bit_or (a / 2 ^ 24 % 4)) (sym same.filter) ∙ or_self (a / 2 ^ 24 % 4)

  pub both_number : bit_or a b % 16 ≡ a % 16
  both_number = or_mod a b 4 ∙ ap (bit_or (a % 16)) (sym same.number) ∙ or_self (a % 16)

  -- by filter: 0 lists whom it sends to, and of 1 to 3 the filter alone says it
  abbrev unlisted : ℕ → SgiTarget
  unlisted f = cond (eqb f 1) AllExceptSelf (cond (eqb f 2) SelfOnly Nobody)

  abbrev sent_by : Bool → SgiTarget → ℕ → SgiTarget
  sent_by lists others value = cond lists (Mask (value / 2 ^ 16 % 256)) others

  target_by : (value f : ℕ) → value / 2 ^ 24 % 4 ≡ f → sgi_target value ≡ sent_by (eqb f 0) (unlisted f) value
  unfolding sgi_target
  target_by value f e = rw e

  both_sent : (source u : ℕ) (lists : Bool) (others : SgiTarget) → includes (sent_by lists others (bit_or a b)) source u ≡ (includes (sent_by lists others a) source u || includes (sent_by lists others b) source u)
  both_sent source u true others = ap (λ (m : ℕ). includes (Mask m) source u) (or_field 16 8 a b) ∙ flag_or u (a / 2 ^ 16 % 256) (b / 2 ^ 16 % 256)
  both_sent source u false others = or_same (includes others source u)

  pub both_includes : (source u : ℕ) → includes (sgi_target (bit_or a b)) source u ≡ (includes (sgi_target a) source u || includes (sgi_target b) source u)
  both_includes source u =
      let f : ℕ = a / 2 ^ 24 % 4 in
      ap (λ (t : SgiTarget). includes t source u) (target_by (bit_or a b) f both_filter)
      ∙ both_sent source u (eqb f 0) (unlisted f)
      ∙ sym (λ i. includes (target_by a f refl i) source u || includes (target_by b f (sym same.filter) i) source u)

  -- whether the sender is looked up goes by the filter too
  names_by : (lists : Bool) (others : SgiTarget) (x y : ℕ) → names (sent_by lists others x) ≡ names (sent_by lists others y)
  names_by true others x y = refl
  names_by false others x y = refl

  pub first_sends : sends a ≡ sends (bit_or a b)
  first_sends = let f : ℕ = a / 2 ^ 24 % 4 in ap names (target_by a f refl) ∙ names_by (eqb f 0) (unlisted f) a (bit_or a b) ∙ sym (ap names (target_by (bit_or a b) f both_filter))

  pub second_sends : sends b ≡ sends (bit_or a b)
  second_sends = let f : ℕ = a / 2 ^ 24 % 4 in ap names (target_by b f (sym same.filter)) ∙ names_by (eqb f 0) (unlisted f) b (bit_or a b) ∙ sym (ap names (target_by (bit_or a b) f both_filter))
