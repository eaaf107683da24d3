-- An example of each story of crates/stories, crates/handlers and crates/held_lines, so that a reader need not wonder whether its hypotheses can hold.
-- Each starts from a fresh controller, in words that were 0 and are just enough.
use Rattle.std.specs.Prelude.{false, List, [], ◌∷◌, ℕ}
use Rattle.register.specs.declared.frame.AccessWidth.TheVariants.{Byte, Dword}
use Rattle.state.specs.Layout.{size}
use Rattle.state.specs.Lent.{shaped}
use Rattle.history.specs.History.{Call, Setup, ReadDistributor, WriteDistributor, ReadCpuInterface, WriteCpuInterface, Pulse, ReadV2m, run, sgir_write, iar_read, setspi_write}
use Rattle.corners.specs.Corners.{zeros}
use Rattle.stories.specs.Stories.{TwoRings, PulseInFlight, SignalInFlight, OnePulse, TwoMessages}
use Rattle.handlers.specs.Handlers.{Handler}
use Rattle.held_lines.specs.HeldLines.{HeldLine}

abbrev pub lent : ℕ → ℕ → List ℕ
lent count limit = zeros (size (shaped count limit))

-- the words after a setup and calls
abbrev pub after_calls : ℕ → ℕ → List Call → List ℕ
after_calls count limit cs = run (Setup count limit ∷ cs) (lent count limit)

-- Two rings, in EOI mode; without it the corner list has the same story. Before them the Distributor is turned on, and the interface of vCPU 2,
-- which masks nothing and has nothing to do.
unfoldable pub before_rings : List Call
before_rings =
    WriteDistributor 0 0x000 Dword 1
    ∷ WriteCpuInterface 2 0x00 Dword 0x201
    ∷ WriteCpuInterface 2 0x04 Dword 255
    ∷ []

-- vCPU 1 rings SGI 3 at it, and vCPU 0, whose source is the lower, rings second. In between SPI 33, which has no target, is pulsed, and vCPU 0
-- reads TYPER and turns its own interface on. After both it rings SGI 4 at vCPUs 0 and 2: at vCPU 2 that one waits behind SGI 3. vCPU 0
-- acknowledges its own SGI 4 while vCPU 2 serves SGI 3, ends it between vCPU 2's writes to EOIR and DIR, and reads its running priority after them.
unfoldable pub two_rings_from : List ℕ → TwoRings
two_rings_from s = record {
  shape = shaped 3 34;
  words = s;
  target = 2;
  sgi = 3;
  one = 1;
  other = 0;
  one_writes = 0x00040003;
  other_writes = 0x00040003;
  meanwhile₁ = Pulse 1 33 ∷ ReadDistributor 0 0x004 Dword ∷ WriteCpuInterface 0 0x00 Dword 1 ∷ WriteCpuInterface 0 0x04 Dword 255 ∷ [];
  meanwhile₂ = sgir_write 0 0x00050004 ∷ [];
  meanwhile₃ = iar_read 0 ∷ [];
  meanwhile₄ = WriteCpuInterface 0 0x10 Dword 4 ∷ [];
  meanwhile₅ = ReadCpuInterface 0 0x14 Dword ∷ [];
}

abbrev pub rings_example : TwoRings
rings_example = two_rings_from (after_calls 3 34 before_rings)

-- A pulse in flight. Before it all is turned on; SPI 33 is made edge, vCPU 0's and enabled, and SGI 5 less urgent than it; SPI 33 is pulsed a
-- first time and acknowledged.
unfoldable pub before_pulse : List Call
before_pulse =
    WriteDistributor 0 0x000 Dword 1
    ∷ WriteCpuInterface 0 0x00 Dword 1
    ∷ WriteCpuInterface 0 0x04 Dword 255
    ∷ WriteDistributor 0 0xc08 Dword 0x8
    ∷ WriteDistributor 0 0x821 Byte 1
    ∷ WriteDistributor 0 0x405 Byte 0xa0
    ∷ WriteDistributor 0 0x104 Dword 0x2
    ∷ Pulse 0 33
    ∷ iar_read 0
    ∷ []

-- SPI 33 is pulsed again. vCPU 0, which still serves it, acknowledges in vain and rings SGI 5 at itself; it writes 33 to EOIR; it reads ISPENDR.
unfoldable pub pulse_in_flight_from : List ℕ → PulseInFlight
pulse_in_flight_from s = record {
  shape = shaped 1 34;
  words = s;
  vcpu = 0;
  interrupt = 33;
  meanwhile₁ = iar_read 0 ∷ sgir_write 0 0x02000005 ∷ [];
  retirer = 0;
  offset = 0x10;
  width = Dword;
  writes = 33;
  meanwhile₂ = ReadDistributor 0 0x204 Dword ∷ [];
  reader = 0;
}

abbrev pub pulse_example : PulseInFlight
pulse_example = pulse_in_flight_from (after_calls 1 34 before_pulse)

-- The same, by whatever call pulses it.
unfoldable pub signal_in_flight_from : Call → List ℕ → SignalInFlight
signal_in_flight_from call s = record {
  shape = shaped 1 34;
  words = s;
  vcpu = 0;
  interrupt = 33;
  call = call;
  meanwhile₁ = iar_read 0 ∷ sgir_write 0 0x02000005 ∷ [];
  retirer = 0;
  offset = 0x10;
  width = Dword;
  writes = 33;
  meanwhile₂ = ReadDistributor 0 0x204 Dword ∷ [];
  reader = 0;
}

-- by a card's message, in the window of the SPIs 32 and 33
abbrev pub message_example : SignalInFlight
message_example = signal_in_flight_from (setspi_write 32 2 33) (after_calls 1 34 before_pulse)

-- Two messages. Before them all is turned on; SPIs 33 and 34 are made edge, vCPU 1's and enabled.
unfoldable pub before_messages : List Call
before_messages =
    WriteDistributor 0 0x000 Dword 1
    ∷ WriteCpuInterface 1 0x00 Dword 1
    ∷ WriteCpuInterface 1 0x04 Dword 255
    ∷ WriteDistributor 0 0xc08 Dword 0x28
    ∷ WriteDistributor 0 0x820 Dword 0x00020200
    ∷ WriteDistributor 0 0x104 Dword 0x6
    ∷ []

-- In the window of the SPIs 32 to 35 the card rings 34, which wakes vCPU 1, and then 33; in between somebody reads TYPER, and after both somebody rings 36, which
-- is none of the window's. vCPU 1 acknowledges, ends what it is given, and acknowledges again: of one priority the smaller number goes first.
unfoldable pub two_messages_from : List ℕ → TwoMessages
two_messages_from s = record {
  shape = shaped 2 37;
  words = s;
  first = 32;
  count = 4;
  one = 34;
  other = 33;
  one_writes = 34;
  other_writes = 33;
  meanwhile₁ = ReadV2m 32 4 0x008 Dword ∷ [];
  meanwhile₂ = setspi_write 32 4 36 ∷ [];
  sooner = 33;
  later = 34;
  sooner_reader = 1;
  meanwhile₃ = WriteCpuInterface 1 0x10 Dword 33 ∷ [];
  later_reader = 1;
}

abbrev pub two_messages_example : TwoMessages
two_messages_example = two_messages_from (after_calls 2 37 before_messages)

-- One message: the card rings 34, and is given after 33, which is rung, given and ended in between.
unfoldable pub one_message_from : List ℕ → OnePulse
one_message_from s = record {
  shape = shaped 2 37;
  words = s;
  vcpu = 0;
  interrupt = 34;
  call = setspi_write 32 4 34;
  meanwhile = setspi_write 32 4 33 ∷ iar_read 1 ∷ WriteCpuInterface 1 0x10 Dword 33 ∷ [];
  reader = 1;
}

abbrev pub one_message_example : OnePulse
one_message_example = one_message_from (after_calls 2 37 before_messages)

-- The kernel's handler. Before it all is turned on and vCPU 0 sets its binary point to 2, as the kernel does; SPIs 33, 34 and 35 are vCPU 0's and
-- enabled, with priorities 0x47, 0x41 and 0x3f: by 2 the first two are of group 0x40, the third of 0x38. SPI 33 is pulsed.
unfoldable pub before_handler : List Call
before_handler =
    WriteDistributor 0 0x000 Dword 1
    ∷ WriteCpuInterface 0 0x00 Dword 1
    ∷ WriteCpuInterface 0 0x04 Dword 255
    ∷ WriteCpuInterface 0 0x08 Dword 2
    ∷ WriteDistributor 0 0x420 Dword 0x3f414700
    ∷ WriteDistributor 0 0x820 Dword 0x01010100
    ∷ WriteDistributor 0 0x104 Dword 0xe
    ∷ Pulse 0 33
    ∷ []

-- While it runs its neighbour SPI 34 is pulsed; vCPU 0 acknowledges and writes 34 to EOIR, both in vain, and sets its binary point to 2 again; vCPU 1
-- sets its own to 7.
unfoldable pub neighbour_rings : List Call
neighbour_rings = Pulse 0 34 ∷ iar_read 0 ∷ WriteCpuInterface 0 0x10 Dword 34 ∷ WriteCpuInterface 0 0x08 Dword 0x2 ∷ WriteCpuInterface 1 0x08 Dword 7 ∷ []

-- .. and SPI 35 too
unfoldable pub urgent_rings : List Call
urgent_rings = Pulse 0 34 ∷ iar_read 0 ∷ Pulse 0 35 ∷ []

abbrev pub handler_from : List Call → List ℕ → Handler
handler_from meanwhile s = record { shape = shaped 2 36; words = s; vcpu = 0; alias = false; interrupt = 33; source = 0; meanwhile = meanwhile }

abbrev pub handler_example : List Call → Handler
handler_example meanwhile = handler_from meanwhile (after_calls 2 36 before_handler)

-- The driver's held line. Before it all is turned on; SPI 33, which is level, is made vCPU 1's and enabled.
unfoldable pub before_line : List Call
before_line =
    WriteDistributor 0 0x000 Dword 1
    ∷ WriteCpuInterface 1 0x00 Dword 1
    ∷ WriteCpuInterface 1 0x04 Dword 255
    ∷ WriteDistributor 0 0x821 Byte 2
    ∷ WriteDistributor 1 0x104 Dword 0x2
    ∷ []

-- The device raises its line. The driver, on vCPU 0, clears SPI 33's pending bit, and then every one; vCPU 1 acknowledges it and clears it while it
-- serves it; it writes 33 to EOIR, with the line still high; and the driver clears it again.
unfoldable pub held_line_from : List ℕ → HeldLine
held_line_from s = record {
  shape = shaped 2 34;
  words = s;
  vcpu = 0;
  interrupt = 33;
  meanwhile₁ = WriteDistributor 0 0x284 Dword 0x2 ∷ WriteDistributor 0 0x284 Dword 0xffffffff ∷ [];
  meanwhile₂ = iar_read 1 ∷ WriteDistributor 1 0x284 Dword 0x2 ∷ [];
  retirer = 1;
  offset = 0x10;
  width = Dword;
  writes = 33;
  meanwhile₃ = WriteDistributor 0 0x284 Dword 0x2 ∷ [];
}

abbrev pub held_line_example : HeldLine
held_line_example = held_line_from (after_calls 2 34 before_line)
