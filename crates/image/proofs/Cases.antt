-- Which part is which, by its number. Assumes nothing.
use mathlib.Core.Path.{◌≡◌, ◌∙◌}
use Prim.Native.Nat.{ℕ, ◌+◌, ◌-◌, ◌*◌, ◌/◌, ◌%◌, ◌≤◌, ◌<◌}
use borrow.Author.Tests.{lt-ltb, le-ltb}
use Rattle.state.specs.declared.layout.Shape.{Shape}
use Rattle.image.specs.Parts.{Registers, Service, Interrupt, part_at}
use native.Mathlib.Omega.{arith}

module _ (shape : Shape) (k : ℕ) where
  pub part_registers : k < shape.count → part_at shape k ≡ Registers (record { 0 = k })
  unfolding part_at
  part_registers a = simp (lt-ltb k shape.count a)

  pub part_service : shape.count ≤ k → k < 2 * shape.count → part_at shape k ≡ Service (record { 0 = k - shape.count })
  unfolding part_at
  part_service a b = simp (le-ltb k shape.count a, lt-ltb k (2 * shape.count) b)

  pub part_private : 2 * shape.count ≤ k → k < 34 * shape.count
      → part_at shape k ≡ Interrupt (record { 0 = (k - 2 * shape.count) / 32 }) (record { 0 = (k - 2 * shape.count) % 32 })
  unfolding part_at
  part_private a b = simp (le-ltb k shape.count (omega arith), le-ltb k (2 * shape.count) a, lt-ltb k (34 * shape.count) b)

  pub part_spi : 34 * shape.count ≤ k → part_at shape k ≡ Interrupt (record { 0 = 0 }) (record { 0 = k - 34 * shape.count + 32 })
  unfolding part_at
  part_spi a = simp (le-ltb k shape.count (omega arith), le-ltb k (2 * shape.count) (omega arith), le-ltb k (34 * shape.count) a)

-- which part is which, counted from its section's first
module _ (shape : Shape) where
  pub registers_part : (v : ℕ) → v < shape.count → part_at shape (0 + v) ≡ Registers (record { 0 = v })
  registers_part v b = let z : 0 + v ≡ v = omega arith in rw z (part_registers shape v b)

  pub service_part : (v : ℕ) → v < shape.count → part_at shape (shape.count + v) ≡ Service (record { 0 = v })
  service_part v b =
      let same : shape.count + v - shape.count ≡ v = omega arith in
      part_service shape (shape.count + v) (omega arith) (omega arith) ∙ rw same

  pub private_part : (v n : ℕ) → v < shape.count → n < 32 → part_at shape (2 * shape.count + 32 * v + n) ≡ Interrupt (record { 0 = v }) (record { 0 = n })
  private_part v n b low =
      let q : (2 * shape.count + 32 * v + n - 2 * shape.count) / 32 ≡ v = omega arith in
      let m : (2 * shape.count + 32 * v + n - 2 * shape.count) % 32 ≡ n = omega arith in
      part_private shape (2 * shape.count + 32 * v + n) (omega arith) (omega arith) ∙ rw (q, m)

  pub spi_part : (i : ℕ) → part_at shape (34 * shape.count + i) ≡ Interrupt (record { 0 = 0 }) (record { 0 = 32 + i })
  spi_part i =
      let same : 34 * shape.count + i - 34 * shape.count + 32 ≡ 32 + i = omega arith in
      part_spi shape (34 * shape.count + i) (omega arith) ∙ rw same
