-- `script::number_at` meets its contract: at each turn the digits so far and what is left of the field give the field's number. Assumes nothing.
use mathlib.Core.Path.{◌≡◌, sym, ◌∙◌}
use native.Mathlib.Omega.{arith}
use lib.ListN.{length, get_or}
use Rattle.script.proofs.Digits.{at_byte, at_space, at_end, digit_fits, number_none, number_ended}
use Rattle.script.proofs.number.number_at.Goals as goal

pub returns-then-byte-eq32 : goal.returns-then-byte-eq32
returns-then-byte-eq32 c =
    let at_i = c.loop-i in
    let a = c.args in
    c.ended.ensures ∙ number_ended a.line.now a.at at_i.value at_i.i (sym at_i.invariant.1 ∙ at_space a.line.now at_i.value at_i.i c.loop-i-test.true c.if-byte-eq32.true at_i.invariant.0)

pub returns-in_err-value : goal.returns-in_err-value
returns-in_err-value c =
    let at_i = c.loop-i in
    let a = c.args in
    c.from_residual.ensures ∙ number_none a.line.now a.at (sym at_i.invariant.1 ∙ at_byte a.line.now at_i.value at_i.i c.loop-i-test.true c.if-byte-eq32.false ∙ simp (← c.in_err-value.ensures))

pub loop-i-preserved : goal.loop-i-preserved
loop-i-preserved c =
    let at_i = c.loop-i in
    let a = c.args in
    let digit = sym c.in_ok-value.ensures in
    (digit_fits at_i.value (get_or a.line.now at_i.i 0) _ digit, sym (at_byte a.line.now at_i.value at_i.i c.loop-i-test.true c.if-byte-eq32.false ∙ simp digit) ∙ at_i.invariant.1)

pub returns : goal.returns
returns c =
    let at_i = c.loop-i in
    let a = c.args in
    let at_length : at_i.i ≡ length a.line.now = omega arith in
    c.ended-2.ensures ∙ rw (← at_length) (number_ended a.line.now a.at at_i.value at_i.i (sym at_i.invariant.1 ∙ at_end a.line.now at_i.value at_i.i c.loop-i-test.false at_i.invariant.0))
