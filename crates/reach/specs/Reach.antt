-- How far calls reach into the lent words, whatever these hold: document 01, "The part that is ported": "its size for a count and limit is the
-- team's, stated in docs/. Bytes past it never change." Past its extent a call writes nothing and reads nothing.
use Rattle.std.specs.Prelude.{◌≡◌, List, [], ◌∷◌, ℕ, ◌≤◌, take, Option, Some, None}
use Rattle.state.specs.Layout.{size}
use Rattle.state.specs.Lent.{limited, stored_shape}
use Rattle.history.specs.History.{Call, Deed, Starts, Acts, deed, called, run, answers}
use Rattle.state.specs.declared.layout.Shape.{Shape}

-- the words of a state of this count and limit; `other` where they are out of range
abbrev pub size_or : ℕ → Option Shape → ℕ
size_or other None = other
size_or other (Some shape) = size shape

-- the words that hold a state by their stored count and limit; where these are out of range, the two words that store them
abbrev pub stored_extent : List ℕ → ℕ
stored_extent s = size_or 2 (stored_shape s)

-- a setup or load has to do with the state that it is to start, and every other call with the state that is lent
abbrev pub extent_of : Deed → List ℕ → ℕ
extent_of (Starts count limit) s = size_or 0 (limited count limit)
extent_of (Acts a) s = stored_extent s

abbrev pub extent : Call → List ℕ → ℕ
extent c s = extent_of (deed c) s

-- none of these calls, one after another, reaches past n words
abbrev pub ReachAtMost : ℕ → List Call → List ℕ → Type 0
ReachAtMost n [] s = Unit
ReachAtMost n (c ∷ cs) s = (extent c s ≤ n) × ReachAtMost n cs (called c s).state

-- what calls make of two lists of words that agree on the first n: the same answers, and the same words in front
pub record SameFront (n : ℕ) (cs : List Call) (s r : List ℕ) : Type 0 where
  pub answers_same : answers cs s ≡ answers cs r
  pub words_same : take n (run cs s) ≡ take n (run cs r)
