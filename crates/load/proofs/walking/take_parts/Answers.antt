-- `load::walking::take_parts` meets its contract: one section behind another. Assumes nothing.
use mathlib.Core.Path.{refl}
use Prim.Native.Nat.{◌+◌, ◌-◌, ◌*◌}
use native.Mathlib.Omega.{arith}
use Rattle.image.specs.Parts.{part_count}
use Rattle.load.proofs.Sections.{section_stopped, section_next, section_whole}
use Rattle.load.proofs.walking.take_parts.Goals as goal

pub returns-in_err-a : goal.returns-in_err-a
returns-in_err-a c =
    let a = c.args in
    let count = a.shape.count in
    rw c.from_residual.ensures (section_whole a.shape a.image.now a.stores (part_count a.shape) a.start a.words.now _ _ refl (section_stopped a.shape a.image.now a.stores 0 (count) (part_count a.shape) a.start a.words.now _ (omega arith) (rw c.in_err-a.was at c.take_interfaces.ensures)))

pub returns-in_err-b : goal.returns-in_err-b
returns-in_err-b c =
    let a = c.args in
    let count = a.shape.count in
    let so_far = section_next a.shape a.image.now a.stores count count count a.start a.words.now _ _ _ _ (omega arith) (rw c.in_ok-a.was at c.take_interfaces.ensures) (rw c.in_err-b.was at c.take_stacks.ensures) in
    rw c.from_residual-in_err-b.ensures (section_whole a.shape a.image.now a.stores (part_count a.shape) a.start a.words.now _ _ refl (section_stopped a.shape a.image.now a.stores 0 (count + count) (part_count a.shape) a.start a.words.now _ (omega arith) so_far))

pub returns-in_err-c : goal.returns-in_err-c
returns-in_err-c c =
    let a = c.args in
    let count = a.shape.count in
    let so_far = section_next a.shape a.image.now a.stores count count count a.start a.words.now _ _ _ _ (omega arith) (rw c.in_ok-a.was at c.take_interfaces.ensures) (rw c.in_ok-b.was at c.take_stacks.ensures) in
    let privates = section_next a.shape a.image.now a.stores (count + count) (2 * count) (32 * count) a.start a.words.now _ _ _ _ (omega arith) so_far (rw c.in_err-c.was at c.take_privates.ensures) in
    rw c.from_residual-in_err-c.ensures (section_whole a.shape a.image.now a.stores (part_count a.shape) a.start a.words.now _ _ refl (section_stopped a.shape a.image.now a.stores 0 (count + count + 32 * count) (part_count a.shape) a.start a.words.now _ (omega arith) privates))

pub returns : goal.returns
returns c =
    let a = c.args in
    let count = a.shape.count in
    let so_far = section_next a.shape a.image.now a.stores count count count a.start a.words.now _ _ _ _ (omega arith) (rw c.in_ok-a.was at c.take_interfaces.ensures) (rw c.in_ok-b.was at c.take_stacks.ensures) in
    let privates = section_next a.shape a.image.now a.stores (count + count) (2 * count) (32 * count) a.start a.words.now _ _ _ _ (omega arith) so_far (rw c.in_ok-c.was at c.take_privates.ensures) in
    section_whole a.shape a.image.now a.stores (count + count + 32 * count + (a.shape.limit - 32)) a.start a.words.now _ _ (omega arith) (section_next a.shape a.image.now a.stores (count + count + 32 * count) (34 * count) (a.shape.limit - 32) a.start a.words.now _ _ _ _ (omega arith) privates c.take_spis.ensures)
