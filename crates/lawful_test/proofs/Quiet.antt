-- What is quiet passes: of a word that is, only its mask counts, and of an SGI's its trigger and line. Assumes nothing.
use Rattle.std.specs.Prelude.{None}
use mathlib.Core.Path.{◌≡◌, refl}
use mathlib.Core.Bool.{Bool, true, false, ◌&&◌, and-true, beq}
use mathlib.Core.List.{List}
use Prim.Native.Nat.{ℕ, ◌/◌, ◌%◌, ◌^◌, ◌≤◌, ◌<◌}
use native.Mathlib.Omega.{arith}
use lib.Dec.{eqb, ltb}
use lib.Pow.{pow_mono}
use borrow.Author.Tests.{lt-ltb, le-ltb, ltb-true, eqb-true, eq-eqb, ne_eqb}
use Rattle.interrupt.specs.declared.record.InterruptRecord.{InterruptRecord}
use Rattle.word.specs.Word.{record_of, flag, mask_of}
use Rattle.word.specs.Fields.{field}
use Rattle.state.specs.declared.layout.Shape.{Shape}
use Rattle.state.specs.Words.{record_at, sources_at}
use Rattle.state.proofs.Tests.{left_true, right_true}
use Rattle.lawful_test.specs.LawfulTest.{mask_lawful, sgi_lawful, record_lawful, sources_lawful, number_lawful, says_same}
use Rattle.lawful_test.specs.Quiet.{quiet}
use Rattle.lawful_test.proofs.Passing.{implied_holds}

-- nothing to do with a delivery
record Idle (r : InterruptRecord) : Type 0 where
  pub waiting : r.inflight ≡ false
  pub unnoted : r.redelivery_pending ≡ false
  pub nobody's : r.owner ≡ None

module _ (shape : Shape) (v n w : ℕ) where
  idle_passes : (r : InterruptRecord) → Idle r → mask_lawful shape n r.cpu_target_mask ≡ true → sgi_lawful n r ≡ true → record_lawful shape v n r ≡ true
  unfolding record_lawful
  idle_passes r h mask sgi = simp (h.waiting, h.unnoted, h.nobody's, mask) (simp h.unnoted at sgi)

  module _ (bound : ℕ) (pass : quiet bound w ≡ true) where
    still : w / 8 % 4 ≡ 0
    unfolding quiet
    still = eqb-true (w / 8 % 4) 0 (left_true (eqb (w / 8 % 4) 0) _ pass)

    low : w / 65536 < bound
    unfolding quiet
    low = ltb-true (w / 65536) bound (right_true (eqb (w / 8 % 4) 0) _ pass)

    quiet_idle : bound ≤ 256 → Idle (record_of w)
    unfolding record_of
    quiet_idle few =
        let a = still in
        let b = low in
        record {
          waiting = ne_eqb (field 3 1 w) 1 (λ e. omega arith);
          unnoted = ne_eqb (field 4 1 w) 1 (λ e. omega arith);
          nobody's = rw (eq-eqb (field 24 8 w) 0 (omega arith));
        }

  -- an SPI: its mask, if it is set, is below the bound
  spi_masked : 32 ≤ n → quiet (2 ^ shape.count) w ≡ true → mask_lawful shape n (record_of w).cpu_target_mask ≡ true
  unfolding record_of
  spi_masked high pass = go (flag 7 w)
    where
      go : (set : Bool) → mask_lawful shape n (mask_of set (field 16 8 w)) ≡ true
      go false = refl
      go true = let b = low (2 ^ shape.count) pass in simp (le-ltb n 32 high, lt-ltb (field 16 8 w) (2 ^ shape.count) (omega arith))

  pub quiet_spi : 32 ≤ n → shape.count ≤ 8 → quiet (2 ^ shape.count) w ≡ true → record_lawful shape v n (record_of w) ≡ true
  quiet_spi high few pass = idle_passes (record_of w) (quiet_idle (2 ^ shape.count) pass (pow_mono few)) (spi_masked high pass) (rw (le-ltb n 16 (omega arith)))

  -- a private number: its mask is not set
  unmasked : w / 128 % 2 ≡ 0 → mask_lawful shape n (record_of w).cpu_target_mask ≡ true
  unfolding record_of
  unmasked e = rw (ne_eqb (field 7 1 w) 1 (λ f. omega arith))

  pub quiet_ppi : 16 ≤ n → (quiet 1 w && eqb (w / 128 % 2) 0) ≡ true → record_lawful shape v n (record_of w) ≡ true
  quiet_ppi high both =
      let idle = quiet_idle 1 (left_true (quiet 1 w) _ both) (omega arith) in
      idle_passes (record_of w) idle (unmasked (eqb-true (w / 128 % 2) 0 (right_true (quiet 1 w) _ both))) (rw (le-ltb n 16 high))

  -- an SGI: bits 5 to 7 say a low line, edge, and no mask
  sgi_edge : Idle (record_of w) → w / 32 % 8 ≡ 2 → sgi_lawful n (record_of w) ≡ true
  unfolding record_of
  sgi_edge idle e = implied_holds (ltb n 16) _ (λ _. simp (eq-eqb (field 6 1 w) 1 (omega arith), ne_eqb (field 5 1 w) 1 (λ f. omega arith), idle.unnoted))

  pub quiet_sgi : (quiet 1 w && eqb (w / 32 % 8) 2) ≡ true → record_lawful shape v n (record_of w) ≡ true
  quiet_sgi both =
      let idle = quiet_idle 1 (left_true (quiet 1 w) _ both) (omega arith) in
      let bits = eqb-true (w / 32 % 8) 2 (right_true (quiet 1 w) _ both) in
      idle_passes (record_of w) idle (unmasked (omega arith)) (sgi_edge idle bits)

-- a number: its record, and an SGI's sources
module _ (shape : Shape) (v n : ℕ) (s : List ℕ) where
  pub number_plain : 16 ≤ n → number_lawful shape v s n ≡ record_lawful shape v n (record_at shape v n s)
  unfolding number_lawful
  number_plain high = simp (le-ltb n 16 high, and-true)

  pub number_sgi : n < 16 → number_lawful shape v s n ≡ (record_lawful shape v n (record_at shape v n s) && sources_lawful (sources_at shape v n s) (record_at shape v n s).pending)
  unfolding number_lawful
  number_sgi low = simp (lt-ltb n 16 low)

-- the test of two answers, as the code asks it
pub same_asked : (a b : Bool) → beq a b ≡ says_same a b
same_asked true true = refl
same_asked true false = refl
same_asked false true = refl
same_asked false false = refl
