-- `groups::group_at` meets its contract. Assumes nothing.
use Prim.Native.Nat.{◌<◌}
use native.Mathlib.Nat.{pos_of_ne-zero}
use native.Mathlib.Omega.{arith}
use lib.ListN.{get_or}
use Rattle.groups.proofs.Reading.{found_no_group, found_past, found_last, found_more, found_alone}
use Rattle.groups.proofs.group_at.Goals as goal

pub returns-then-left-eq0 : goal.returns-then-left-eq0
returns-then-left-eq0 c = let a = c.args in rw c.if-left-eq0.true (found_no_group a.image.now a.at)

pub returns-then-image-at : goal.returns-then-image-at
returns-then-image-at c = let a = c.args in found_past a.left a.image.now a.at c.if-image-at.true

pub returns-then-byte-lt128 : goal.returns-then-byte-lt128
returns-then-byte-lt128 c =
    let a = c.args in
    (c.if-image-at.false, found_last a.left a.image.now a.at (pos_of_ne-zero c.if-left-eq0.false) c.if-image-at.false c.if-byte-lt128.true)

pub returns-then-left-eq1 : goal.returns-then-left-eq1
returns-then-left-eq1 c =
    let a = c.args in
    rw c.if-left-eq1.true (found_alone a.image.now a.at c.if-image-at.false c.if-byte-lt128.false (omega (arith, c.type_inv.image a.at)))

pub returns-else-left-eq1 : goal.returns-else-left-eq1
returns-else-left-eq1 c =
    let a = c.args in
    let some = pos_of_ne-zero c.if-left-eq0.false in
    let byte : get_or a.image.now a.at 0 < 256 = omega (arith, c.type_inv.image a.at) in
    let there = c.if-image-at.false in
    (there, (some, (omega arith, found_more a.left a.image.now a.at some there c.if-byte-lt128.false byte)))
