-- What the runner prints: document 01, "The runner's lines". It is a function of the bytes read and of the words that it starts from.
use Rattle.std.specs.Prelude.{cond, List, [], ◌∷◌, ◌++◌, ◌≡◌, ℕ, eqb, ltb, length, replicate, Option, Some, None}
use Rattle.answer.specs.Answer.{Outcome}
use Rattle.cpu_interface_frame.specs.CpuInterfaceFrame.{read_v2_cpu_interface, write_v2_cpu_interface}
use Rattle.distributor_frame.specs.DistributorFrame.{read_v2_distributor, write_v2_distributor}
use Rattle.input.specs.Input.{device_level, device_pulse}
use Rattle.controller.specs.Start.{setup}
use Rattle.script.specs.declared.request.Request.{Request}
use Rattle.script.specs.declared.request.Request.TheVariants.{Setup, ReadDistributor, WriteDistributor, ReadCpuInterface, WriteCpuInterface, SetLevel, Pulse}
use Rattle.script.specs.Line.{request_of}
use Rattle.script.specs.Text.{answer_text, unknown_text, PutText}

-- a text, and the words after it
pub record Printed : Type 0 where
  pub text : List ℕ
  pub state : List ℕ

-- "It prints refusal, value, wake set and retired number (1023 for none)"
abbrev pub outcome_printed : Outcome → Printed
outcome_printed o = record { text = answer_text o.refusal o.value o.wake o.retired; state = o.state }

-- the call of each form
unfoldable pub request_printed : Request → List ℕ → Printed
request_printed (Setup n) s = outcome_printed (setup n.count n.limit s)
request_printed (ReadDistributor d) s = outcome_printed (read_v2_distributor d.vcpu.0 d.offset d.width s)
request_printed (WriteDistributor d) s = outcome_printed (write_v2_distributor d.vcpu.0 d.offset d.width d.value s)
request_printed (ReadCpuInterface c) s = outcome_printed (read_v2_cpu_interface c.vcpu.0 c.offset c.width s)
request_printed (WriteCpuInterface c) s = outcome_printed (write_v2_cpu_interface c.vcpu.0 c.offset c.width c.value s)
request_printed (SetLevel l) s = outcome_printed (device_level l.vcpu.0 l.number l.asserted s)
request_printed (Pulse p) s = outcome_printed (device_pulse p.vcpu.0 p.number s)

-- "A line of any other form prints `?`"
abbrev pub asked_printed : Option Request → List ℕ → Printed
asked_printed (Some request) s = request_printed request s
asked_printed None s = record { text = unknown_text; state = s }

unfoldable pub line_answer : List ℕ → List ℕ → Printed
line_answer line s = asked_printed (request_of line) s

-- each line's answer, in the words that the lines before it left
abbrev pub text_first : List ℕ → Printed → Printed
text_first text p = record { text = text ++ p.text; state = p.state }

unfoldable pub lines_printed : List (List ℕ) → List ℕ → Printed
lines_printed [] s = record { text = []; state = s }
lines_printed (line ∷ lines) s = text_first (line_answer line s).text (lines_printed lines (line_answer line s).state)

-- the lines of an input, after bytes of a line that has begun; 10 is a newline. "the last may lack it", and an empty rest is no line
unfoldable pub lines_after : List ℕ → List ℕ → List (List ℕ)
lines_after line [] = cond (ltb 0 (length line)) (line ∷ []) []
lines_after line (b ∷ bs) = cond (eqb b 10) (line ∷ lines_after [] bs) (lines_after (line ++ b ∷ []) bs)

-- what the program prints for its whole input, from words s, and the words then
abbrev pub printed : List ℕ → List ℕ → Printed
printed input s = lines_printed (lines_after [] input) s

-- "Before an accepted `n`, calls answer 6": the program starts from n words that are all 0, and no state has count 0
abbrev pub start_words : ℕ → List ℕ
start_words n = replicate n 0

-- a function did it: the words are these, and the text stands in `out` from `at` up to `end`
pub record Prints (p : Printed) (at : ℕ) (words' out out' : List ℕ) (end : ℕ) : Type 0 where
  pub state : words' ≡ p.state
  pub put : PutText p.text at out out' end
