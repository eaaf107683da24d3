-- The walk over an image's parts: the bytes of a lawful state are walked through to their end, and what was walked through are the bytes of
-- what was read. Assumes nothing.
use mathlib.Core.Path.{◌≡◌, refl, sym, ap, subst, ◌∙◌}
use mathlib.Core.List.{List}
use Prim.Native.Nat.{ℕ, zero, suc, ◌+◌, ◌≤◌, ◌<◌}
use native.Mathlib.Nat.{add-zero}
use native.Mathlib.Omega.{arith}
use lib.ListN.{length}
use Rattle.groups.specs.Groups.{spelled}
use Rattle.state.specs.declared.layout.Shape.{Shape}
use Rattle.state.specs.Layout.{Limits}
use Rattle.image.specs.Image.{each, body_numbers}
use Rattle.image.specs.Parts.{part_count, part_at, PartThere}
use Rattle.image.proofs.ByParts.{each_none, numbers_of, body_by_parts}
use Rattle.std.specs.Prelude.{Some}
use Rattle.load.specs.Walking.{walked}
use Rattle.moving.specs.Reads.{Reads, LawfulPart}
use Rattle.moving.proofs.BytesNumbers.{Row, row_none, row_append, row_each}
use Rattle.moving.proofs.BytesParts.{row_reads, reads_lawful, reads_row, reads_end}
use Rattle.moving.proofs.StoredPlaces.{part_stands}
use Rattle.moving.proofs.Stored.{PartHeld}

module _ (shape : Shape) (limits : Limits shape) (s image : List ℕ) (start : ℕ) where
  there : (k : ℕ) → k < part_count shape → PartThere shape (part_at shape k)
  there k b = (part_stands shape k limits b).there

  -- where part k stands
  abbrev pub placed : ℕ → ℕ
  placed k = start + length (spelled (each (numbers_of shape s) k))

  module _ (next : ℕ) (row : Row image start next (body_numbers shape s)) (lawful : (k : ℕ) → k < part_count shape → LawfulPart shape s (part_at shape k)) where
    by_parts : Row image start next (each (numbers_of shape s) (part_count shape))
    by_parts = subst (λ (ns : List ℕ). Row image start next ns) (body_by_parts shape s) row

    part_read : (k : ℕ) → k < part_count shape → Reads shape image (part_at shape k) (placed k) (placed (suc k)) s
    part_read k b = row_reads shape s limits (part_at shape k) (there k b) (lawful k b) image (placed k) (placed (suc k)) (row_each (numbers_of shape s) (part_count shape) by_parts k b)

    walked_at : (k : ℕ) → k ≤ part_count shape → walked shape image start k ≡ Some (placed k)
    unfolding walked spelled
    walked_at zero h = ap Some (sym (add-zero start) ∙ rw (each_none (numbers_of shape s)) refl)
    walked_at (suc k) h = rw (walked_at k (omega arith)) (reads_end shape s (part_at shape k) image (placed k) (placed (suc k)) (part_read k (omega arith)))

    -- the walk comes to the end of the bytes,
    pub walked_through : walked shape image start (part_count shape) ≡ Some next
    walked_through = walked_at (part_count shape) (omega arith) ∙ ap Some (sym by_parts.past)

    -- and reads what the words hold
    pub walked_reads : (k : ℕ) → k < part_count shape → PartHeld shape image start k s
    walked_reads k b = record { at = placed k; next = placed (suc k); before = walked_at k (omega arith); after = walked_at (suc k) b; reads = part_read k b }

  module _ (all : (k : ℕ) → k < part_count shape → PartHeld shape image start k s) where
    walked_row : (k : ℕ) → k ≤ part_count shape → (at : ℕ) → walked shape image start k ≡ Some at → Row image start at (each (numbers_of shape s) k)
    unfolding walked each
    walked_row zero h at e = let same : start ≡ at = cc in rw (← same) (row_none image start)
    walked_row (suc k) h at e =
        let it = all k h in
        let same : Some it.next ≡ Some at = sym it.after ∙ e in
        let end : it.next ≡ at = cc in
        rw (← end) (row_append (walked_row k (omega arith) it.at it.before) (reads_row shape s (part_at shape k) image it.at it.next it.reads))

    -- what was walked through are the bytes of what was read,
    pub walked_bytes : (end : ℕ) → walked shape image start (part_count shape) ≡ Some end → Row image start end (body_numbers shape s)
    walked_bytes end e = subst (λ (ns : List ℕ). Row image start end ns) (sym (body_by_parts shape s)) (walked_row (part_count shape) (omega arith) end e)

    -- and lawful
    pub walked_lawful : (k : ℕ) → k < part_count shape → LawfulPart shape s (part_at shape k)
    walked_lawful k b = let it = all k b in reads_lawful shape s (part_at shape k) image it.at it.next it.reads
