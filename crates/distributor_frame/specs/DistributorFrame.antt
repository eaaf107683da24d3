-- The Distributor's frame: document 01, "Refusal numbers" ("One exception, from the Rust: at private registers 3 comes before 2") and
-- "Distributor places". "Bits of a written value above the access width are ignored": registers take 4 bytes at most, and a byte array takes
-- as many bytes as the access is wide.
use Rattle.std.specs.Prelude.{◌≡◌, true, List, ℕ, ◌%◌, ◌^◌}
use Rattle.register.specs.declared.frame.AccessWidth.{AccessWidth}
use Rattle.register.specs.declared.frame.Refusal.TheVariants as refusal
use Rattle.register.specs.declared.distributor.Place.{Place}
use Rattle.register.specs.declared.distributor.DistributorAccess.{DistributorAccess}
use Rattle.register.specs.declared.distributor.DistributorAccess.TheVariants.{Refused, PrivateWidth, At}
use Rattle.register.specs.Distributor.{locate_distributor}
use Rattle.state.specs.declared.layout.Shape.{Shape}
use Rattle.state.specs.Lent.{validated}
use Rattle.places.specs.Places.{read_place_looks_up, write_place_looks_up, read_place, write_place}
use Rattle.answer.specs.Answer.{Answer, Outcome, outcome, refused, gave, went, on_state, looked_up}

abbrev pub private_width : Shape → ℕ → List ℕ → Outcome
private_width shape v s = looked_up true shape v s (refused refusal.Width s)

abbrev pub read_distributor_at : Shape → ℕ → Place → AccessWidth → List ℕ → Outcome
read_distributor_at shape v place width s = looked_up (read_place_looks_up place.class place.private) shape v s (gave (read_place shape v place width s) s)

abbrev pub write_distributor_at : Shape → ℕ → Place → AccessWidth → ℕ → List ℕ → Outcome
write_distributor_at shape v place width value s =
    looked_up (write_place_looks_up place.class place.private value) shape v s (went shape 1023 s (write_place shape v place width value s))

abbrev pub read_distributor_access : Shape → ℕ → DistributorAccess → AccessWidth → List ℕ → Outcome
read_distributor_access shape v (Refused r) width s = refused r s
read_distributor_access shape v PrivateWidth width s = private_width shape v s
read_distributor_access shape v (At place) width s = read_distributor_at shape v place width s

abbrev pub write_distributor_access : Shape → ℕ → DistributorAccess → AccessWidth → ℕ → List ℕ → Outcome
write_distributor_access shape v (Refused r) width value s = refused r s
write_distributor_access shape v PrivateWidth width value s = private_width shape v s
write_distributor_access shape v (At place) width value s = write_distributor_at shape v place width value s

unfoldable pub read_v2_distributor : ℕ → ℕ → AccessWidth → List ℕ → Outcome
read_v2_distributor v offset width s = on_state (validated s) s (λ shape. read_distributor_access shape v (locate_distributor offset width) width s)

unfoldable pub write_v2_distributor : ℕ → ℕ → AccessWidth → ℕ → List ℕ → Outcome
write_v2_distributor v offset width value s = on_state (validated s) s (λ shape. write_distributor_access shape v (locate_distributor offset width) width (value % 2 ^ 32) s)

-- what the calls promise of their answer and the words after it
abbrev pub ReadDistributorPromise : ℕ → ℕ → AccessWidth → List ℕ → Answer → List ℕ → Type 0
ReadDistributorPromise v offset width before answer after = outcome answer after ≡ read_v2_distributor v offset width before

abbrev pub WriteDistributorPromise : ℕ → ℕ → AccessWidth → ℕ → List ℕ → Answer → List ℕ → Type 0
WriteDistributorPromise v offset width value before answer after = outcome answer after ≡ write_v2_distributor v offset width value before
