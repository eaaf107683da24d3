-- `byte_place` is `place_at` where a byte register is.
use native.Mathlib.Nat.{mul-one}
use Rattle.register.specs.Distributor.{place_at, first_number}
use Rattle.register.proofs.Private.{private_below}
use Rattle.register.proofs.distributor.byte_place.Goals as goal

pub returns : goal.returns
unfolding place_at first_number
returns c = simp (c.is_private.ensures, private_below c.args.offset, ← c.requires.class_is, c.distance.ensures, c.is_priority.ensures, mul-one)
