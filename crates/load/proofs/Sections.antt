-- The sections of an image, one after another: no part, one part, a section and one behind it, and one that was refused. Assumes nothing.
use mathlib.Core.Path.{◌≡◌, refl, sym, ap, ◌∙◌}
use mathlib.Core.Bool.{Bool, true, false, cond}
use mathlib.Core.List.{List}
use Prim.Native.Nat.{ℕ, ◌+◌, ◌*◌, ◌≤◌, ◌<◌}
use native.Mathlib.Numerals.{add-one}
use native.Mathlib.Omega.{arith}
use Rattle.state.specs.declared.layout.Shape.{Shape}
use Rattle.state.specs.Loop.{up_to}
use Rattle.state.proofs.Steps.{up_idle}
use Rattle.image.specs.Parts.{Part, Registers, Service, part_at, part_count}
use Rattle.image.proofs.Cases.{registers_part, service_part}
use Rattle.std.specs.Prelude.{Option, Some, None}
use Rattle.load.specs.Reading.{registers_at}
use Rattle.load.specs.Walking.{registers_end, registers_stored, service_end, service_stored, part_end, part_stored, walked, step_stored, parts_stored, Section}
use Rattle.load.proofs.Walks.{cond_same, up_plus, refused_stays}

module _ (shape : Shape) (image : List ℕ) (stores : Bool) where
  pub section_none : (first at : ℕ) (s : List ℕ) → Section shape image first 0 stores at s (Some at) s
  unfolding up_to
  section_none first at s =
      let e : first + 0 ≡ first = omega arith in
      record { ends = λ start here. rw e (sym here); stored = λ start here. sym (cond_same stores s) }

  pub section_part : (k at : ℕ) (s : List ℕ) (end : Option ℕ) (after : List ℕ) (p : Part) → part_at shape k ≡ p
      → end ≡ part_end shape image p at → after ≡ cond stores (part_stored shape image p at s) s → Section shape image k 1 stores at s end after
  unfolding walked up_to
  section_part k at s end after p is e f =
      let z : k + 0 ≡ k = omega arith in
      record { ends = λ start here. rw add-one (simp (here, is) e); stored = λ start here. simp (z, here, is) f }

  -- a vCPU's registers, and its stack
  pub section_registers : (v at : ℕ) (s : List ℕ) (end : Option ℕ) (after : List ℕ) → v < shape.count → end ≡ registers_end (registers_at image at)
      → after ≡ cond stores (registers_stored shape v (registers_at image at) s) s → Section shape image (0 + 1 * v) 1 stores at s end after
  section_registers v at s end after below e f =
      let z : 0 + 1 * v ≡ 0 + v = omega arith in
      rw z (section_part (0 + v) at s end after (Registers (record { 0 = v })) (registers_part shape v below) e f)

  pub section_service : (v at : ℕ) (s : List ℕ) (end : Option ℕ) (after : List ℕ) → v < shape.count → end ≡ service_end shape image at
      → after ≡ cond stores (service_stored shape image v at s) s → Section shape image (shape.count + 1 * v) 1 stores at s end after
  section_service v at s end after below e f =
      let z : shape.count + 1 * v ≡ shape.count + v = omega arith in
      rw z (section_part (shape.count + v) at s end after (Service (record { 0 = v })) (service_part shape v below) e f)

  -- a section and the one behind it
  pub section_then : (first m n at : ℕ) (s : List ℕ) (p : ℕ) (w : List ℕ) (end : Option ℕ) (after : List ℕ)
      → Section shape image first m stores at s (Some p) w → Section shape image (first + m) n stores p w end after → Section shape image first (m + n) stores at s end after
  section_then first m n at s p w end after one two =
      let e : first + (m + n) ≡ first + m + n = omega arith in
      record {
        ends = λ start here. rw e (two.ends start (sym (one.ends start here)));
        stored = λ start here. go start stores (one.stored start here) (two.stored start (sym (one.ends start here)));
      }
    where
      go : (start : ℕ) (b : Bool) → w ≡ cond b (up_to (λ i. step_stored shape image start (first + i)) m s) s
          → after ≡ cond b (up_to (λ i. step_stored shape image start (first + m + i)) n w) w
          → after ≡ cond b (up_to (λ i. step_stored shape image start (first + i)) (m + n) s) s
      go start true f g =
          g ∙ rw f (sym (up_plus (λ i. step_stored shape image start (first + i)) (λ i. step_stored shape image start (first + m + i)) m n s
          (λ i r. let e : first + (m + i) ≡ first + m + i = omega arith in rw e)))
      go start false f g = g ∙ f

  -- past a section that was refused nothing more is done
  pub section_stopped : (first m n at : ℕ) (s after : List ℕ) → m ≤ n
      → Section shape image first m stores at s None after → Section shape image first n stores at s None after
  section_stopped first m n at s after le one =
      record {
        ends = λ start here. sym (refused_stays shape image start (first + m) (first + n) (omega arith) (sym (one.ends start here)));
        stored = λ start here. one.stored start here ∙ ap (λ (w : List ℕ). cond stores w s) (sym (idle start (sym (one.ends start here))));
      }
    where
      idle : (start : ℕ) → walked shape image start (first + m) ≡ None
          → up_to (λ i. step_stored shape image start (first + i)) n s ≡ up_to (λ i. step_stored shape image start (first + i)) m s
      idle start gone =
          up_idle (λ i. step_stored shape image start (first + i)) s n m le
          (λ i r low high. simp (refused_stays shape image start (first + m) (first + i) (omega arith) gone))

  -- .. so in a turn of a loop
  pub section_refused : (first m n most at : ℕ) (s : List ℕ) (p : ℕ) (w after : List ℕ) → m + n ≤ most
      → Section shape image first m stores at s (Some p) w → Section shape image (first + m) n stores p w None after → Section shape image first most stores at s None after
  section_refused first m n most at s p w after le one two = section_stopped first (m + n) most at s after le (section_then first m n at s p w None after one two)

  -- the parts so far and a section behind them
  pub section_next : (m from n at : ℕ) (s : List ℕ) (p : ℕ) (w : List ℕ) (end : Option ℕ) (after : List ℕ) → m ≡ from
      → Section shape image 0 m stores at s (Some p) w → Section shape image from n stores p w end after → Section shape image 0 (m + n) stores at s end after
  section_next m from n at s p w end after is one two = let e : from ≡ 0 + m = omega arith in section_then 0 m n at s p w end after one (rw e at two)

  -- all parts
  pub section_whole : (m start : ℕ) (s : List ℕ) (end : Option ℕ) (after : List ℕ) → m ≡ part_count shape → Section shape image 0 m stores start s end after
      → (end ≡ walked shape image start (part_count shape)) × (after ≡ cond stores (parts_stored shape image start s) s)
  unfolding walked parts_stored up_to
  section_whole m start s end after is all =
      let e : 0 + m ≡ part_count shape = omega arith in
      let same = up_plus (step_stored shape image start) (λ i. step_stored shape image start (0 + i)) 0 m s (λ i r. refl) in
      (rw e at (all.ends start refl), all.stored start refl ∙ ap (λ (w : List ℕ). cond stores w s) (sym (rw e at same)))
