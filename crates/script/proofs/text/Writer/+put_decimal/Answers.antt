-- `script::put_decimal` meets its contract: a digit fewer is a smaller number. Assumes nothing.
use mathlib.Core.Path.{◌≡◌, ap, ◌∙◌}
use Prim.Native.Nat.{◌+◌, ◌/◌}
use native.Mathlib.Omega.{arith}
use lib.ListN.{length, length-append}
use Rattle.script.specs.Text.{decimal}
use Rattle.script.proofs.Puts.{puts_then, put_length, decimal_short, decimal_long}
use Rattle.script.proofs.text.Writer.+put_decimal.Goals as goal

pub put-requires : goal.put-requires
put-requires t c =
    let one : length (decimal c.args.n) ≡ 1 = ap length (decimal_short c.args.n c.if-n-lt10.true) in
    let room = c.requires in
    omega arith

pub returns-then-n-lt10 : goal.returns-then-n-lt10
returns-then-n-lt10 t c = rw (decimal_short c.args.n c.if-n-lt10.true, ← c.digit.ensures) c.put.ensures

pub put_decimal-requires : goal.put_decimal-requires
put_decimal-requires t c =
    let more : length (decimal c.args.n) ≡ length (decimal (c.args.n / 10)) + 1 = ap length (decimal_long c.args.n c.if-n-lt10.false (omega arith)) ∙ simp length-append in
    let room = c.requires in
    (omega arith, omega arith)

pub put-requires-2 : goal.put-requires-2
put-requires-2 t c =
    let more : length (decimal c.args.n) ≡ length (decimal (c.args.n / 10)) + 1 = ap length (decimal_long c.args.n c.if-n-lt10.false (omega arith)) ∙ simp length-append in
    let room = c.requires in
    let same = put_length c.put_decimal.ensures.put in
    let past = c.put_decimal.ensures.put.past in
    omega arith

pub returns : goal.returns
returns t c = rw (decimal_long c.args.n c.if-n-lt10.false (omega arith)) (puts_then c.put_decimal.ensures (rw (← c.digit-2.ensures) c.put-2.ensures))
