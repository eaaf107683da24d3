-- The numbers of an image are those of its parts, one after another. Laws of `each`. Assumes nothing.
use mathlib.Core.Path.{◌≡◌, refl, sym, ap, ap₂, ◌∙◌}
use mathlib.Core.List.{List, [], ◌++◌, append_assoc, append-nil}
use Prim.Native.Nat.{ℕ, zero, suc, ◌+◌, ◌-◌, ◌*◌, ◌/◌, ◌%◌, ◌<◌}
use native.Mathlib.Nat.{add-zero, add-suc}
use native.Mathlib.Numerals.{add-one}
use native.Mathlib.Omega.{arith}
use borrow.Author.Tests.{lt-ltb, le-ltb}
use Rattle.groups.specs.Groups.{spelled}
use Rattle.groups.proofs.Numbers.{spelled_append}
use Rattle.state.specs.declared.layout.Shape.{Shape}
use Rattle.image.specs.Image.{each, interface_numbers, service_numbers, private_numbers_at, spi_numbers_at, body_numbers}
use Rattle.image.specs.Parts.{part_count, part_at, part_numbers}
use Rattle.image.proofs.Cases.{part_registers, part_service, part_private, part_spi}

pub each_none : (f : ℕ → List ℕ) → each f 0 ≡ []
unfolding each
each_none f = refl

pub each_more : (f : ℕ → List ℕ) (n : ℕ) → each f (n + 1) ≡ each f n ++ f n
unfolding each
each_more f n = rw add-one

pub each_same : (f g : ℕ → List ℕ) (n : ℕ) → ((i : ℕ) → i < n → f i ≡ g i) → each f n ≡ each g n
unfolding each
each_same f g zero same = refl
each_same f g (suc n) same = ap₂ ◌++◌ (each_same f g n (λ i b. same i (omega arith))) (same n (omega arith))

pub each_plus : (f : ℕ → List ℕ) (a b : ℕ) → each f (a + b) ≡ each f a ++ each (λ i. f (a + i)) b
unfolding each
each_plus f a zero = rw add-zero (sym (append-nil (each f a)))
each_plus f a (suc b) = rw (add-suc, each_plus f a b) (append_assoc (each f a) (each (λ i. f (a + i)) b) (f (a + b)))

-- 32 of each
pub each_nested : (g : ℕ → ℕ → List ℕ) (n : ℕ) → each (λ v. each (g v) 32) n ≡ each (λ k. g (k / 32) (k % 32)) (32 * n)
unfolding each
each_nested g zero = refl
each_nested g (suc n) =
    let e : 32 * suc n ≡ 32 * n + 32 = omega arith in
    rw (e, each_plus (λ k. g (k / 32) (k % 32)) (32 * n) 32)
    (ap₂ ◌++◌ (each_nested g n) (each_same (g n) (λ i. g ((32 * n + i) / 32) ((32 * n + i) % 32)) 32 own))
  where
    own : (i : ℕ) → i < 32 → g n i ≡ g ((32 * n + i) / 32) ((32 * n + i) % 32)
    own i b = let v : (32 * n + i) / 32 ≡ n = omega arith in let k : (32 * n + i) % 32 ≡ i = omega arith in rw (v, k)

pub spelled_each : (f : ℕ → List ℕ) (n : ℕ) → spelled (each f n) ≡ each (λ k. spelled (f k)) n
unfolding each spelled
spelled_each f zero = refl
spelled_each f (suc n) = rw (spelled_append (each f n) (f n), spelled_each f n)

-- c, c, 32 c and d of them
each_split : (f : ℕ → List ℕ) (c d : ℕ) → each f (34 * c + d) ≡ each f c ++ each (λ i. f (c + i)) c ++ each (λ i. f (2 * c + i)) (32 * c) ++ each (λ i. f (34 * c + i)) d
each_split f c d =
    let e : 34 * c ≡ 2 * c + 32 * c = omega arith in
    let two : 2 * c ≡ c + c = omega arith in
    each_plus f (34 * c) d ∙ ap (λ (x : List ℕ). x ++ each (λ i. f (34 * c + i)) d)
    (ap (each f) e ∙ each_plus f (2 * c) (32 * c) ∙ ap (λ (x : List ℕ). x ++ each (λ i. f (2 * c + i)) (32 * c)) (ap (each f) two ∙ each_plus f c c))

module _ (shape : Shape) (s : List ℕ) where
  abbrev pub numbers_of : ℕ → List ℕ
  numbers_of k = part_numbers shape s (part_at shape k)

  registers : (i : ℕ) → i < shape.count → numbers_of i ≡ interface_numbers shape s i
  registers i b = rw (part_registers shape i b)

  service : (i : ℕ) → i < shape.count → numbers_of (shape.count + i) ≡ service_numbers shape s i
  service i b = let e : shape.count + i - shape.count ≡ i = omega arith in rw (part_service shape (shape.count + i) (omega arith) (omega arith), e)

  private : (i : ℕ) → i < 32 * shape.count → numbers_of (2 * shape.count + i) ≡ private_numbers_at shape s (i / 32) (i % 32)
  private i b =
      let e : 2 * shape.count + i - 2 * shape.count ≡ i = omega arith in
      rw (part_private shape (2 * shape.count + i) (omega arith) (omega arith), e, lt-ltb (i % 32) 32 (omega arith))

  spi : (i : ℕ) → i < shape.limit - 32 → numbers_of (34 * shape.count + i) ≡ spi_numbers_at shape s i
  spi i b =
      let e : 34 * shape.count + i - 34 * shape.count + 32 ≡ 32 + i = omega arith in
      rw (part_spi shape (34 * shape.count + i) (omega arith), e, le-ltb (32 + i) 32 (omega arith))

  pub body_by_parts : body_numbers shape s ≡ each numbers_of (part_count shape)
  unfolding body_numbers
  body_by_parts =
      sym
      (each_split numbers_of shape.count (shape.limit - 32)
      ∙ ap₂ ◌++◌
      (ap₂ ◌++◌ (ap₂ ◌++◌ (each_same _ _ _ registers) (each_same _ _ _ service)) (each_same _ _ _ private ∙ sym (each_nested (private_numbers_at shape s) shape.count)))
      (each_same _ _ _ spi))
