-- What a piece of a save asks of the buffer that it is written into or measured for. A reader need not believe any of it: no caller of `save` is
-- asked for anything.
use denote.Ref.{Bor, MutBor}
use Rattle.std.specs.Prelude.{Bool, true, List, ◌≡◌, ℕ, ◌+◌, ◌^◌, ◌≤◌, ◌<◌, length}
use Rattle.std.specs.Fn.{Shared}
use Rattle.groups.specs.declared.Writer.{Writer}
use Rattle.groups.specs.Groups.{spelled, WroteBy}
use Rattle.interrupt.specs.declared.types.GicVcpuId.{GicVcpuId}
use Rattle.state.specs.declared.layout.Shape.{Shape}
use Rattle.state.specs.Words.{entry_at}
use Rattle.image.specs.Image.{each, entry_numbers}

-- these numbers, from `at` on: their place is near, and where they are written there is room for them
pub record Fitting (writes : Bool) (numbers : List ℕ) (at : ℕ) (out : List ℕ) : Type 0 where
  pub near : at + length (spelled numbers) ≤ 2 ^ 32
  pub room : writes ≡ true → at + length (spelled numbers) ≤ length out

-- from a writer's place on
abbrev pub FitsIn : Bool → List ℕ → Writer → Type 0
FitsIn writes numbers w = Fitting writes numbers w.at w.out.now

-- the n oldest entries of the vCPU v, from the oldest
abbrev pub entries_numbers : Shape → List ℕ → ℕ → ℕ → List ℕ
entries_numbers shape s v n = each (λ i. entry_numbers (entry_at shape v i s)) n

-- what a function that puts of a vCPU is told: the writer, the words and their shape, the vCPU, and whether it is written
abbrev pub PutTold : Type 0
PutTold = MutBor Writer × (Bor (List ℕ) × (Shape × (GicVcpuId × (Bool × Unit {0}))))

abbrev pub put_told : MutBor Writer → Bor (List ℕ) → Shape → GicVcpuId → Bool → PutTold
put_told w words shape v writes = (w, (words, (shape, (v, (writes, tt)))))

-- where a vCPU's numbers fit, `put` may be called, and writes them
pub record PutsEach {F : Type 0} (g : Shared F PutTold (Unit {0} × (MutBor Writer × Unit {0}))) (put : F) (writes : Bool) (shape : Shape) (s : List ℕ) (numbers : ℕ → List ℕ) : Type 0 where
  pub may : (w : MutBor Writer) (words : Bor (List ℕ)) (v : GicVcpuId) → words.now ≡ s → v.0 < shape.count → FitsIn writes (numbers v.0) w.now
      → g.pre put (put_told w words shape v writes)
  pub puts : (w w' : MutBor Writer) (words : Bor (List ℕ)) (v : GicVcpuId) → words.now ≡ s → v.0 < shape.count
      → g.post put (put_told w words shape v writes) (tt, (w', tt)) → WroteBy writes (spelled (numbers v.0)) w.now w'.now
