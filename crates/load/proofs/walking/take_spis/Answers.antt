-- `load::walking::take_spis` meets its contract. Assumes nothing.
use mathlib.Core.Path.{sym, ◌∙◌}
use Prim.Native.Nat.{◌+◌, ◌*◌, ◌-◌}
use native.Mathlib.Omega.{arith}
use Rattle.image.specs.Parts.{Interrupt}
use Rattle.std.specs.Prelude.{None}
use Rattle.load.proofs.Sections.{section_none, section_part, section_then, section_refused}
use Rattle.image.proofs.Cases.{spi_part}
use Rattle.load.proofs.walking.take_spis.Goals as goal

pub loop-k-init : goal.loop-k-init
loop-k-init c = let a = c.args in section_none a.shape a.image.now a.stores (34 * a.shape.count) a.start a.words.now

pub returns-in_err-at : goal.returns-in_err-at
returns-in_err-at c =
    let l = c.loop-k in
    let a = c.args in
    let part = section_part a.shape a.image.now a.stores (34 * a.shape.count + l.k) l.at l.words None _ (Interrupt (record { 0 = 0 }) (record { 0 = 32 + l.k })) (spi_part a.shape l.k) (sym c.in_err-at.was ∙ c.take_spi.ensures.0) c.take_spi.ensures.1 in
    rw c.from_residual.ensures (section_refused a.shape a.image.now a.stores (34 * a.shape.count) l.k 1 (a.shape.limit - 32) a.start a.words.now l.at l.words _ (omega arith) l.invariant part)

pub loop-k-preserved : goal.loop-k-preserved
loop-k-preserved c =
    let l = c.loop-k in
    let a = c.args in
    let part = section_part a.shape a.image.now a.stores (34 * a.shape.count + l.k) l.at l.words _ _ (Interrupt (record { 0 = 0 }) (record { 0 = 32 + l.k })) (spi_part a.shape l.k) (sym c.in_ok-at.was ∙ c.take_spi.ensures.0) c.take_spi.ensures.1 in
    section_then a.shape a.image.now a.stores (34 * a.shape.count) l.k 1 a.start a.words.now l.at l.words _ _ l.invariant part
