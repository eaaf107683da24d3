-- `places::write_place` meets its contract. Assumes nothing.
use Rattle.places.proofs.Fits.{bit_word_lem, byte_run}
use Rattle.places.proofs.write_place.Goals as goal

pub write_bits-requires : goal.write_bits-requires
write_bits-requires c =
    let a = c.args in
    let p = c.requires in
    bit_word_lem a.shape a.vcpu.0 a.place a.width a.words.now p.state p.located _ c.in-Bits.is (λ q. p.looked (simp c.in-Bits.is q))

pub write_bytes-requires : goal.write_bytes-requires
write_bytes-requires c =
    let a = c.args in
    let p = c.requires in
    rw c.size.ensures (byte_run a.shape a.vcpu.0 a.place a.width a.words.now p.state p.located _ c.in-Bytes.is (λ q. p.looked (simp c.in-Bytes.is q)))
