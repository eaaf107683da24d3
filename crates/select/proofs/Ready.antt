-- The test of a word is the test of its record. Assumes nothing.
use mathlib.Core.Path.{◌≡◌, sym, ap, ◌∙◌}
use mathlib.Core.Bool.{Bool, true, false, ◌&&◌}
use Prim.Native.Nat.{ℕ, ◌+◌, ◌/◌, ◌%◌, ◌^◌, ◌<◌}
use native.Mathlib.Nat.{zero-div}
use native.Mathlib.Omega.{arith}
use lib.Dec.{eqb}
use lib.Pow.{shr-shr}
use Rattle.interrupt.specs.Record.{is_ready}
use Rattle.word.specs.Word.{flag, mask_of, record_of, mask_byte}
use Rattle.select.specs.Keys.{private_bits, spi_bits, test_of, ready_word}
use Rattle.select.proofs.WordTests.{Falling, bit_below, bits_test}

private_fall : Falling 3 private_bits
private_fall = (omega arith, (omega arith, (omega arith, tt)))

pub private_word : (w : ℕ) → ready_word (test_of private_bits) w ≡ is_ready (record_of w)
unfolding record_of
private_word w = bits_test 3 private_bits private_fall w

-- a mask that is set names v by its bit, one that is not names nobody
named : (set : Bool) (byte v : ℕ) (bit : Bool) → eqb (byte / 2 ^ v % 2) 1 ≡ bit → (set && bit) ≡ eqb (mask_byte (mask_of set byte) / 2 ^ v % 2) 1
named true byte v bit e = sym e
named false byte v bit e = rw zero-div

pub spi_word : (v w : ℕ) → v < 8 → ready_word (test_of (spi_bits v)) w ≡ eqb (mask_byte (record_of w).cpu_target_mask / 2 ^ v % 2) 1
unfolding record_of
spi_word v w h =
    let place : w / 65536 % 256 / 2 ^ v % 2 ≡ w / 2 ^ (16 + v) % 2 = bit_below (w / 65536) v 8 h ∙ ap (λ (x : ℕ). x % 2) (shr-shr w 16 v) in
    bits_test 24 (spi_bits v) (omega arith, (omega arith, tt)) w
    ∙ named (flag 7 w) (w / 65536 % 256) v (flag (16 + v) w) (ap (λ (x : ℕ). eqb x 1) place)
