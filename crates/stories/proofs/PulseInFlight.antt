-- A pulse that arrives while its interrupt is in flight is given again after it is retired: the general story, of the call `Pulse`. Assumes nothing.
use Rattle.history.specs.History.{Pulse}
use Rattle.stories.specs.Stories.{PulseInFlight, InService, GivenAgain, by_pulse, SignalInFlight, SignalInService, SignalGivenAgain}
use Rattle.stories.proofs.SignalInFlight.{signal_given_again}

module _ (h : PulseInFlight) (z : InService h) where
  abbrev by_call : SignalInFlight
  by_call = record {
    shape = h.shape;
    words = h.words;
    vcpu = h.vcpu;
    interrupt = h.interrupt;
    call = Pulse h.vcpu h.interrupt;
    meanwhile₁ = h.meanwhile₁;
    retirer = h.retirer;
    offset = h.offset;
    width = h.width;
    writes = h.writes;
    meanwhile₂ = h.meanwhile₂;
    reader = h.reader;
  }

  served : SignalInService by_call
  served = record {
    controls = z.controls;
    pulses = by_pulse z.there z.no_sgi;
    in_flight = z.in_flight;
    its_retirer = z.its_retirer;
    retired = z.retired;
    untaken₁ = z.untaken₁;
    untaken₂ = z.untaken₂;
    reader_exists = z.reader_exists;
    its_reader = z.its_reader;
    takes = z.takes;
    none_ahead = z.none_ahead;
  }

  given_by_call : SignalGivenAgain by_call
  given_by_call = signal_given_again by_call served

  pub given_again : GivenAgain h
  given_again = record {
    pulse_accepted = given_by_call.signal_accepted;
    noted = given_by_call.noted;
    waits = given_by_call.waits;
    idle = given_by_call.idle;
    not_in_flight = given_by_call.not_in_flight;
    read_accepted = given_by_call.read_accepted;
    given_again = given_by_call.given_again;
  }
