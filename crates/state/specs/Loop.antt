-- Loops in definitions: a step taken at one number after another, and a test of all numbers below one.
use Rattle.std.specs.Prelude.{Bool, true, ◌&&◌, List, ℕ, zero, suc}

-- f at 0, then at 1, .. , then at n - 1
unfoldable pub up_to : (ℕ → List ℕ → List ℕ) → ℕ → List ℕ → List ℕ
up_to f zero s = s
up_to f (suc n) s = f n (up_to f n s)

unfoldable pub every_below : (ℕ → Bool) → ℕ → Bool
every_below f zero = true
every_below f (suc n) = every_below f n && f n
