-- The user's own story (document 02, Four: "The virtio driver clears pending while the device still holds its level line high, and the ring then
-- stays silent until the device sets its line anew"), as calls to a controller and what they answer: the ring does not stay silent.
use Rattle.std.specs.Prelude.{◌≡◌, true, false, List, ℕ, ◌≤◌, ◌<◌}
use Rattle.interrupt.specs.Types.{is_level}
use Rattle.register.specs.declared.frame.AccessWidth.{AccessWidth}
use Rattle.state.specs.declared.layout.Shape.{Shape}
use Rattle.state.specs.Words.{RecordThere, record_at}
use Rattle.answer.specs.Answer.{Outcome}
use Rattle.lawful.specs.Lawful.{Controls}
use Rattle.history.specs.History.{Call, WriteCpuInterface, SetLevel, called, run, iar_read}
use Rattle.waiting.specs.Waiting.{meets, pends, lets_go, lets_go_or_gives, never}
use Rattle.stories.specs.Stories.{Takes, NoneAhead}
use Rattle.levels.specs.Levels.{told_level, wake_bit}

-- A device raises its line, and holds it. The interrupt waits while any calls come; then any calls come of which one gives it; a write, to EOIR or
-- DIR, retires it; and it waits again while any calls come. `vcpu` is whose the interrupt is, if it is a PPI.
pub record HeldLine : Type 0 where
  pub shape : Shape
  pub words : List ℕ
  pub vcpu : ℕ
  pub interrupt : ℕ
  pub meanwhile₁ : List Call
  pub meanwhile₂ : List Call
  pub retirer : ℕ
  pub offset : ℕ
  pub width : AccessWidth
  pub writes : ℕ
  pub meanwhile₃ : List Call

abbrev pub line_rises : HeldLine → Outcome
line_rises h = called (SetLevel h.vcpu h.interrupt true) h.words

abbrev pub line_waits : HeldLine → List ℕ
line_waits h = run h.meanwhile₁ (line_rises h).state

abbrev pub line_served : HeldLine → List ℕ
line_served h = run h.meanwhile₂ (line_waits h)

abbrev pub line_retires : HeldLine → Outcome
line_retires h = called (WriteCpuInterface h.retirer h.offset h.width h.writes) (line_served h)

abbrev pub line_waits_again : HeldLine → List ℕ
line_waits_again h = run h.meanwhile₃ (line_retires h).state

-- the interrupt is level; while it waits no call gives it, and none lets its line go: no setup or load is accepted, its device does not lower it, and it
-- is not made edge. Clears of its pending bit may be among the calls wherever they like (`a_clear_lets_nothing_go`).
pub record Holding (h : HeldLine) : Type 0 where
  pub controls : Controls h.shape h.words
  pub there : RecordThere h.shape h.vcpu h.interrupt
  pub no_sgi : 16 ≤ h.interrupt
  pub level : is_level (record_at h.shape h.vcpu h.interrupt h.words).trigger ≡ true
  pub held₁ : never (λ s. lets_go_or_gives h.vcpu h.interrupt) h.meanwhile₁ (line_rises h).state ≡ true

-- then no call lets the line go, a write retires the interrupt, and while it waits again it is as before
pub record Retirement (h : HeldLine) : Type 0 where
  pub held₂ : never (λ s. lets_go h.vcpu h.interrupt) h.meanwhile₂ (line_waits h) ≡ true
  pub its_retirer : meets h.vcpu h.interrupt h.retirer ≡ true
  pub retired : (line_retires h).retired ≡ h.interrupt
  pub held₃ : never (λ s. lets_go_or_gives h.vcpu h.interrupt) h.meanwhile₃ (line_retires h).state ≡ true

-- a vCPU that can take the interrupt
pub record Reader (h : HeldLine) (reader : ℕ) (s : List ℕ) : Type 0 where
  pub exists : reader < h.shape.count
  pub its_reader : meets h.vcpu h.interrupt reader ≡ true
  pub takes : Takes h.shape reader h.interrupt s

-- the interrupt is pending; a vCPU that can take it has the line up that leads into it, and if nothing goes before, its acknowledge gives the interrupt
pub record Heard (h : HeldLine) (s : List ℕ) : Type 0 where
  pub pending : pends h.shape h.vcpu h.interrupt s ≡ true
  pub line_up : (reader : ℕ) → Reader h reader s → told_level reader s ≡ 1
  pub accepted : (reader : ℕ) → Reader h reader s → NoneAhead h.shape reader h.interrupt s → (called (iar_read reader) s).refusal ≡ 0
  pub given : (reader : ℕ) → Reader h reader s → NoneAhead h.shape reader h.interrupt s → (called (iar_read reader) s).value ≡ h.interrupt

-- a call wakes whoever can take the interrupt after it and had no line up before it
abbrev pub WakesReaders : HeldLine → List ℕ → Outcome → Type 0
WakesReaders h before o = (reader : ℕ) → Reader h reader o.state → told_level reader before ≡ 0 → wake_bit reader o ≡ 1

-- retired, it is neither active nor in flight, and pending again
pub record HeardAgain (h : HeldLine) : Type 0 where
  pub idle : (record_at h.shape h.vcpu h.interrupt (line_retires h).state).active ≡ false
  pub not_in_flight : (record_at h.shape h.vcpu h.interrupt (line_retires h).state).inflight ≡ false
  pub pends_again : Heard h (line_retires h).state
  pub retirement_wakes : WakesReaders h (line_served h) (line_retires h)
  pub still_waits : Heard h (line_waits_again h)

-- the ring does not fall silent: not while the interrupt waits, whatever comes after, and not if it is retired
pub record NeverSilent (h : HeldLine) : Type 0 where
  pub rise_accepted : (line_rises h).refusal ≡ 0
  pub rise_wakes : WakesReaders h h.words (line_rises h)
  pub waits : Heard h (line_waits h)
  pub again : Retirement h → HeardAgain h
