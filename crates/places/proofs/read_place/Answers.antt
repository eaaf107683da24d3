-- `places::read_place` meets its contract. Assumes nothing.
use Rattle.places.proofs.Fits.{bit_word_lem, byte_run}
use Rattle.places.proofs.read_place.Goals as goal

pub read_bits-requires : goal.read_bits-requires
read_bits-requires c =
    let a = c.args in
    let p = c.requires in
    bit_word_lem a.shape a.vcpu.0 a.place a.width a.words.now p.state p.located _ c.in-Bits.is (λ q. p.looked (simp c.in-Bits.is q))

pub read_bytes-requires : goal.read_bytes-requires
read_bytes-requires c =
    let a = c.args in
    let p = c.requires in
    rw c.size.ensures (byte_run a.shape a.vcpu.0 a.place a.width a.words.now p.state p.located _ c.in-Bytes.is (λ q. p.looked (simp c.in-Bytes.is q)))
