-- `groups::put_number` meets its contract. Assumes nothing.
use Rattle.groups.proofs.Numbers.{groups_short, groups_two, groups_one, groups_some}
use Rattle.groups.proofs.Writing.{puts_then, wrote_length}
use native.Mathlib.Omega.{arith}
use mathlib.Core.Path.{ap}
use lib.ListN.{length}
use Rattle.groups.proofs.Writer.put_number.Goals as goal

pub put_byte-requires : goal.put_byte-requires
put_byte-requires c =
    let one = groups_one c.args.n c.if-n-lt128.true in
    (omega arith, λ e. let room = c.requires.2 e in omega arith)

pub returns-then-n-lt128 : goal.returns-then-n-lt128
returns-then-n-lt128 c = rw (groups_short _ c.if-n-lt128.true) c.put_byte.ensures

pub put_byte-requires-2 : goal.put_byte-requires-2
put_byte-requires-2 c =
    let some = groups_some c.args.n in
    (omega arith, λ e. let room = c.requires.2 e in omega arith)

pub put_byte-requires-3 : goal.put_byte-requires-3
put_byte-requires-3 c =
    let first = c.put_byte-2.ensures in
    let past = first.wrote.past in
    let same = wrote_length first.wrote in
    let two = ap length (groups_two c.args.n c.if-n-lt128.false c.requires.1) in
    (omega arith, λ e. let room = c.requires.2 e in omega arith)

pub returns : goal.returns
returns c =
    rw (groups_two c.args.n c.if-n-lt128.false c.requires.1)
    (puts_then c.put_byte-2.ensures c.put_byte-3.ensures)
