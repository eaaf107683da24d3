-- What a refusal comes to, whichever call is refused: the mission, demand 1 ("A refusal returns its number, value 0, an empty wake set and no
-- retirement, and the lent state is unchanged"), and document 01, "Refusal numbers".
use Rattle.std.specs.Prelude.{◌≡◌, Bool, true, false, ◌||◌, List, [], ◌∷◌, ℕ, eqb}
use Rattle.answer.specs.Answer.{Outcome}
use Rattle.history.specs.History.{Call, Setup, ReadDistributor, WriteDistributor, ReadCpuInterface, WriteCpuInterface, SetLevel, Pulse, ReadV2m, WriteV2m, IrqLevel, InterruptWord, Save, Load}

-- the numbers that a call may be refused by: "Order: 6, then 1, then 2, then 3, then 7. Setup: 4, 5. Device input: 6, 8, 3"; 7 is for an
-- acknowledge, which is a read of a CPU interface. What a host looks at: 6, 3. Request One: "saving 6,
-- then 9 not lawful, then 10 no room", "loading 9 not an image, then 5". Request Seven: "11, after 6 and before 1 and 2"
abbrev pub refusals : Call → List ℕ
refusals (Setup count limit) = 4 ∷ 5 ∷ []
refusals (ReadDistributor v offset width) = 6 ∷ 1 ∷ 2 ∷ 3 ∷ []
refusals (WriteDistributor v offset width value) = 6 ∷ 1 ∷ 2 ∷ 3 ∷ []
refusals (ReadCpuInterface v offset width) = 6 ∷ 1 ∷ 2 ∷ 3 ∷ 7 ∷ []
refusals (WriteCpuInterface v offset width value) = 6 ∷ 1 ∷ 2 ∷ 3 ∷ []
refusals (SetLevel v n asserted) = 6 ∷ 8 ∷ 3 ∷ []
refusals (Pulse v n) = 6 ∷ 8 ∷ 3 ∷ []
refusals (ReadV2m first count offset width) = 6 ∷ 11 ∷ 1 ∷ 2 ∷ []
refusals (WriteV2m first count offset width value) = 6 ∷ 11 ∷ 1 ∷ 2 ∷ []
refusals (IrqLevel v) = 6 ∷ 3 ∷ []
refusals (InterruptWord v n) = 6 ∷ 3 ∷ []
refusals (Save buffer) = 6 ∷ 9 ∷ 10 ∷ []
refusals (Load bytes) = 9 ∷ 5 ∷ []

abbrev pub listed : ℕ → List ℕ → Bool
listed x [] = false
listed x (y ∷ ys) = eqb x y || listed x ys

-- the call c to the words s was refused, and came to o
pub record Refuses (c : Call) (s : List ℕ) (o : Outcome) : Type 0 where
  -- "its number",
  pub number : listed o.refusal (refusals c) ≡ true
  -- "value 0,
  pub value : o.value ≡ 0
  -- an empty wake set
  pub wake : o.wake ≡ 0
  -- and no retirement" ("1023 for none"),
  pub retired : o.retired ≡ 1023
  -- "and the lent state is unchanged"
  pub state : o.state ≡ s
