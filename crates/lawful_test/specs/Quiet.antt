-- What tells most records lawful by few instructions. A reader need not believe any of it: proofs/Quiet.antt says that what is quiet passes.
use Rattle.std.specs.Prelude.{Bool, ◌&&◌, ℕ, ◌/◌, ◌%◌, eqb, ltb}

-- a word whose record is neither in flight nor has a redelivery noted, and above whose priority nothing stands from the bound up
unfoldable pub quiet : ℕ → ℕ → Bool
quiet bound w = eqb (w / 8 % 4) 0 && ltb (w / 65536) bound
