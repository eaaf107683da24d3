-- What is supposed of the words is needed: with a false bit of the summary set-enable's wake sets do not add up, and where a source is set and
-- its SGI, level with its line high, is not pending, two bytes of CPENDSGIR are not one. Computed. Assumes nothing.
use mathlib.Core.Path.{◌≡◌, refl, sym, ap, ◌∙◌}
use mathlib.Core.List.{List}
use Prim.Native.Nat.{ℕ}
use native.Mathlib.Omega.{arith}
use lib.Bits.{bit_or}
use lib.ListN.{get_or, set}
use Rattle.register.specs.declared.frame.AccessWidth.TheVariants.{Byte, Dword}
use Rattle.state.specs.Lent.{shaped}
use Rattle.corners.specs.Corners.{zeros}
use Rattle.corners.proofs.Started.{started, computing}
use Rattle.merging.specs.Merging.{write_there, OneState, OneWakeSet}

-- one vCPU, limit 34, all on: SPI 32 is active, though its bit is set; SPI 33 pends, not enabled; both are for the vCPU
abbrev false_bit : List ℕ
false_bit = set (set (set (set (set (set (started (shaped 1 34) (zeros 186)) 2 1) 3 1) 4 255) 55 65668) 56 65666) 57 1

false_bit_computed : (bit_or (write_there 0 0x104 Dword 1 false_bit).wake (write_there 0 0x104 Dword 2 (write_there 0 0x104 Dword 1 false_bit).state).wake ≡ 1) × ((write_there 0 0x104 Dword 3 false_bit).wake ≡ 0)
unfolding computing zeros
false_bit_computed = (refl, refl)

-- SPI 32's bit is made right by the first write, so that the second wakes; one write of both leaves the vCPU with something to be given, as before
pub false_bit_wakes : OneWakeSet (write_there 0 0x104 Dword) 1 2 3 false_bit → ⊥
false_bit_wakes e = omega (arith, sym false_bit_computed.0 ∙ e ∙ false_bit_computed.1)

-- one vCPU, limit 32: SGI 0 has the sources 0 and 1, and is level with its line high, not pending
abbrev unpended : List ℕ
unpended = set (set (started (shaped 1 32) (zeros 183)) 7 3) 23 33

unpended_computed : (get_or (write_there 0 0xf10 Byte 2 (write_there 0 0xf10 Byte 1 unpended).state).state 23 0 ≡ 35) × (get_or (write_there 0 0xf10 Byte 3 unpended).state 23 0 ≡ 33)
unfolding computing zeros
unpended_computed = (refl, refl)

-- the first byte leaves a source and so pends it, and a held line keeps it pending when the second takes the last
pub unpended_stays : OneState (write_there 0 0xf10 Byte) 1 2 3 unpended → ⊥
unpended_stays one = omega (arith, sym unpended_computed.0 ∙ ap (λ (s : List ℕ). get_or s 23 0) one.state ∙ unpended_computed.1)
