-- The registers of a vCPU, read from an image: three numbers, each with no other bits than its register keeps. Assumes nothing.
use mathlib.Core.Path.{◌≡◌, sym, ap, subst}
use mathlib.Core.List.{List, [], ◌∷◌}
use Prim.Native.Nat.{ℕ}
use native.Mathlib.Omega.{arith}
use lib.Dec.{eqb}
use borrow.Author.Tests.{eq-eqb}
use Rattle.state.specs.declared.layout.InterfaceValue.TheVariants.{Control, PriorityMask, BinaryPoint}
use Rattle.state.specs.Words.{kept}
use Rattle.std.specs.Prelude.{Option, Some, None}
use Rattle.load.specs.declared.reading.InterfaceRegisters.{InterfaceRegisters}
use Rattle.load.specs.Reading.{registers_at, registers_from}
use Rattle.moving.proofs.BytesNumbers.{Row, row_none, row_end, row_cons, row_passing, onward, passing_shows}

module _ (image : List ℕ) (at next control mask point : ℕ) where
  pub registers_read : kept Control control ≡ control → kept PriorityMask mask ≡ mask → kept BinaryPoint point ≡ point
      → Row image at next (control ∷ mask ∷ point ∷ []) → registers_at image at ≡ Some (registers_from control mask point, next)
  unfolding registers_at
  registers_read a b c row =
      let x = row_passing (λ n. eqb (kept Control n) n) (eq-eqb _ _ a) (omega arith) row in
      let y = row_passing (λ n. eqb (kept PriorityMask n) n) (eq-eqb _ _ b) (omega arith) x.rest in
      let z = row_passing (λ n. eqb (kept BinaryPoint n) n) (eq-eqb _ _ c) (omega arith) y.rest in
      simp (x.found, y.found, z.found) (ap (λ (i : ℕ). Some (registers_from control mask point, i)) (sym (row_end z.rest)))

-- what is read stands there
abbrev Standing : List ℕ → ℕ → Option (InterfaceRegisters × ℕ) → Type 0
Standing image at None = Unit {0}
Standing image at (Some (r, next)) = Row image at next (r.control ∷ r.mask ∷ r.point ∷ [])

registers_stand : (image : List ℕ) (at : ℕ) → Standing image at (registers_at image at)
unfolding registers_at
registers_stand image at =
    onward (Standing image at) None _ tt (passing_shows (λ n. eqb (kept Control n) n) image at) (λ control a x.
    onward (Standing image at) None _ tt (passing_shows (λ n. eqb (kept PriorityMask n) n) image a) (λ mask b y.
    onward (Standing image at) None _ tt (passing_shows (λ n. eqb (kept BinaryPoint n) n) image b) (λ point next z.
    row_cons x.stands (row_cons y.stands (row_cons z.stands (row_none image next))))))

pub registers_exact : (image : List ℕ) (at : ℕ) {next control mask point : ℕ} → registers_at image at ≡ Some (registers_from control mask point, next) → Row image at next (control ∷ mask ∷ point ∷ [])
registers_exact image at e = subst (Standing image at) e (registers_stand image at)
