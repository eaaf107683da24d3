-- `script::put_answer` meets its contract. Assumes nothing.
use native.Mathlib.Omega.{arith}
use Rattle.script.specs.Text.{answer_text}
use Rattle.script.proofs.Puts.{puts_then, put_length, decimal_byte, decimal_word, byte_field, word_field}
use borrow.Author.Rules.{rules}
use Rattle.script.proofs.text.Writer.put_answer.Goals as goal

pub put_field-requires : goal.put_field-requires
put_field-requires c =
    let digits = decimal_byte c.args.refusal (search rules) in
    omega arith

pub put_field-requires-2 : goal.put_field-requires-2
put_field-requires-2 c =
    let end1 = byte_field c.args.refusal 32 c.put_field.ensures.put (search rules) in
    let same1 = put_length c.put_field.ensures.put in
    let digits = decimal_word c.args.value (search rules) in
    omega arith

pub put_field-requires-3 : goal.put_field-requires-3
put_field-requires-3 c =
    let end1 = byte_field c.args.refusal 32 c.put_field.ensures.put (search rules) in
    let same1 = put_length c.put_field.ensures.put in
    let end2 = word_field c.args.value 32 c.put_field-2.ensures.put (search rules) in
    let same2 = put_length c.put_field-2.ensures.put in
    let digits = decimal_byte c.args.wake (search rules) in
    omega arith

pub put_field-requires-4 : goal.put_field-requires-4
put_field-requires-4 c =
    let end1 = byte_field c.args.refusal 32 c.put_field.ensures.put (search rules) in
    let same1 = put_length c.put_field.ensures.put in
    let end2 = word_field c.args.value 32 c.put_field-2.ensures.put (search rules) in
    let same2 = put_length c.put_field-2.ensures.put in
    let end3 = byte_field c.args.wake 32 c.put_field-3.ensures.put (search rules) in
    let same3 = put_length c.put_field-3.ensures.put in
    let digits = decimal_word c.args.retired (search rules) in
    omega arith

pub returns : goal.returns
unfolding answer_text
returns c = puts_then (puts_then (puts_then c.put_field.ensures c.put_field-2.ensures) c.put_field-3.ensures) c.put_field-4.ensures
