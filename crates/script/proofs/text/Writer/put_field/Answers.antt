-- `script::put_field` meets its contract. Assumes nothing.
use native.Mathlib.Omega.{arith}
use Rattle.script.proofs.Puts.{puts_then, put_length}
use Rattle.script.proofs.text.Writer.put_field.Goals as goal

pub put-requires : goal.put-requires
put-requires c =
    let same = put_length c.put_decimal.ensures.put in
    let past = c.put_decimal.ensures.put.past in
    omega arith

pub returns : goal.returns
returns c = puts_then c.put_decimal.ensures c.put.ensures
