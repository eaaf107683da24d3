-- Where an access to the Distributor looks up its vCPU, computed at all of its 1,024 words. Document 01: "The vCPU is not looked up for:
-- Distributor CTLR, TYPER, IIDR; target bytes; SGIR reads; SGIR writes with filter 3; shared and reserved Distributor places": so it is at the
-- private registers, at the source bytes, and at SGIR for the other writes. Assumes nothing.
use mathlib.Core.Bool.{Bool, true, false}
use mathlib.Core.Path.{◌≡◌, refl}
use mathlib.Core.List.{List, [], ◌∷◌, ◌++◌}
use Prim.Native.Nat.{ℕ, ◌*◌, ◌/◌, ◌^◌}
use Rattle.register.specs.declared.frame.AccessWidth.TheVariants.{Dword}
use Rattle.register.specs.declared.distributor.DistributorAccess.{DistributorAccess}
use Rattle.register.specs.declared.distributor.DistributorAccess.TheVariants.{Refused, PrivateWidth, At}
use Rattle.register.specs.Distributor.{first_number, is_private, place_at, unfit, single, bit_word, byte_array, locate_in_frame, locate_distributor}
use Rattle.register.specs.Ranges.{ranges, range_in, range_at}
use Rattle.register.proofs.Table.{passing}
use Rattle.sgi.specs.Sgi.{sgi_target}
use Rattle.places.specs.Places.{read_place_looks_up, write_place_looks_up}

abbrev read_looked : DistributorAccess → Bool
read_looked (Refused r) = false
read_looked PrivateWidth = true
read_looked (At place) = read_place_looks_up place.class place.private

abbrev write_looked : ℕ → DistributorAccess → Bool
write_looked value (Refused r) = false
write_looked value PrivateWidth = true
write_looked value (At place) = write_place_looks_up place.class place.private value

-- the first of each bit range, priority bytes 0 to 31, ICFGR's first two
abbrev private : List ℕ
private = 0x080 ∷ 0x100 ∷ 0x180 ∷ 0x200 ∷ 0x280 ∷ 0x300 ∷ 0x380 ∷ 0x400 ∷ 0x404 ∷ 0x408 ∷ 0x40c ∷ 0x410 ∷ 0x414 ∷ 0x418 ∷ 0x41c ∷ 0xc00 ∷ 0xc04 ∷ []

-- CPENDSGIR and SPENDSGIR
abbrev sources : List ℕ
sources = 0xf10 ∷ 0xf14 ∷ 0xf18 ∷ 0xf1c ∷ 0xf20 ∷ 0xf24 ∷ 0xf28 ∷ 0xf2c ∷ []

abbrev words_of : List ℕ → List ℕ
words_of [] = []
words_of (offset ∷ offsets) = offset / 4 ∷ words_of offsets

pub reads_look_up : passing (λ (word : ℕ). read_looked (locate_distributor (4 * word) Dword)) 0 1024 ≡ words_of (private ++ sources)
unfolding locate_distributor locate_in_frame single bit_word byte_array unfit place_at is_private first_number range_at range_in ranges
reads_look_up = refl

-- a write, by its filter if it is to SGIR
pub writes_look_up : passing (λ (word : ℕ). write_looked 0 (locate_distributor (4 * word) Dword)) 0 1024 ≡ words_of (private ++ 0xf00 ∷ sources)
unfolding locate_distributor locate_in_frame single bit_word byte_array unfit place_at is_private first_number range_at range_in ranges sgi_target
writes_look_up = refl

pub filter_3_looks_nobody_up : passing (λ (word : ℕ). write_looked (3 * 2 ^ 24) (locate_distributor (4 * word) Dword)) 0 1024 ≡ words_of (private ++ sources)
unfolding locate_distributor locate_in_frame single bit_word byte_array unfit place_at is_private first_number range_at range_in ranges sgi_target
filter_3_looks_nobody_up = refl
