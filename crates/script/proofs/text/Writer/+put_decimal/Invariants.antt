use Rattle.script.proofs.text.Writer.+put_decimal.Given as goal

-- a digit fewer is a smaller number
abbrev pub decreases-put_decimal : goal.decreases-put_decimal
decreases-put_decimal l = l.n
