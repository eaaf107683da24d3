-- A script of the runner as a history: document 01, "The runner's lines". Each line asks for one call, or for none where it is of no form.
use Rattle.std.specs.Prelude.{List, [], ◌∷◌, ℕ, Option, Some, None}
use Rattle.script.specs.declared.request.Request.{Request}
use Rattle.script.specs.declared.request.Request.TheVariants.{Setup, ReadDistributor, WriteDistributor, ReadCpuInterface, WriteCpuInterface, SetLevel, Pulse}
use Rattle.script.specs.Line.{request_of}
use Rattle.script.specs.Text.{unknown_text}
use Rattle.runner.specs.Runner.{Printed, outcome_printed}
use Rattle.history.specs.History as history
use Rattle.history.specs.History.{Call}

abbrev pub call_of : Option Request → Option Call
call_of (Some (Setup n)) = Some (history.Setup n.count n.limit)
call_of (Some (ReadDistributor d)) = Some (history.ReadDistributor d.vcpu.0 d.offset d.width)
call_of (Some (WriteDistributor d)) = Some (history.WriteDistributor d.vcpu.0 d.offset d.width d.value)
call_of (Some (ReadCpuInterface c)) = Some (history.ReadCpuInterface c.vcpu.0 c.offset c.width)
call_of (Some (WriteCpuInterface c)) = Some (history.WriteCpuInterface c.vcpu.0 c.offset c.width c.value)
call_of (Some (SetLevel l)) = Some (history.SetLevel l.vcpu.0 l.number l.asserted)
call_of (Some (Pulse p)) = Some (history.Pulse p.vcpu.0 p.number)
call_of None = None

-- the calls of the lines
abbrev pub with_call : Option Call → List Call → List Call
with_call None calls = calls
with_call (Some c) calls = c ∷ calls

unfoldable pub calls_of : List (List ℕ) → List Call
calls_of [] = []
calls_of (line ∷ lines) = with_call (call_of (request_of line)) (calls_of lines)

-- what a line prints and leaves, by its call
abbrev pub by_call : Option Call → List ℕ → Printed
by_call None s = record { text = unknown_text; state = s }
by_call (Some c) s = outcome_printed (history.called c s)
