-- What a public call comes to: document 01, "Refusal numbers" ("Each leaves all lent state as found"; "Order: 6, then 1, then 2, then 3, then
-- 7") and "The runner's lines" ("refusal, value, wake set and retired number (1023 for none)"). A call's promise is one equation between
-- its outcome and a definition in its own crate.
use Rattle.std.specs.Prelude.{◌≡◌, Bool, cond, ◌&&◌, List, ℕ, leb, Option, Some, None, Result, Ok, Err}
use Rattle.register.specs.declared.frame.Refusal.{Refusal}
use Rattle.register.specs.declared.frame.Refusal.TheVariants.{Vcpu, BrokenState}
use Rattle.register.specs.Frame.{refusal_number}
use Rattle.state.specs.declared.layout.Shape.{Shape}
use Rattle.wake.specs.Wake.{wake_set}
use Rattle.answer.specs.declared.Reply.{Reply}

-- what a call answers, or why it is refused
abbrev pub Answer : Type 0
Answer = Result Reply Refusal

-- the four numbers of an answer, and the whole lent state after the call
pub record Outcome : Type 0 where
  pub refusal : ℕ
  pub value : ℕ
  pub wake : ℕ
  pub retired : ℕ
  pub state : List ℕ

-- the numbers of each case
abbrev pub refusal_in : Answer → ℕ
refusal_in (Ok reply) = 0
refusal_in (Err r) = refusal_number r

abbrev pub value_in : Answer → ℕ
value_in (Ok reply) = reply.value
value_in (Err r) = 0

abbrev pub wake_in : Answer → ℕ
wake_in (Ok reply) = reply.wake
wake_in (Err r) = 0

abbrev pub retired_in : Answer → ℕ
retired_in (Ok reply) = reply.retired.0
retired_in (Err r) = 1023

abbrev pub outcome : Answer → List ℕ → Outcome
outcome a s = record { refusal = refusal_in a; value = value_in a; wake = wake_in a; retired = retired_in a; state = s }

-- "Prove any two outcomes it admits equal": of a promise, which is of an answer and the words after the call
abbrev pub AdmitsOne : {A : Type 0} → (A → List ℕ → Type 0) → Type 0
AdmitsOne {A} Promise = (a b : A) (x y : List ℕ) → Promise a x → Promise b y → (a ≡ b) × (x ≡ y)

-- a refusal: value 0, nobody woken, nothing retired, the state as found
abbrev pub refused : Refusal → List ℕ → Outcome
refused r s = record { refusal = refusal_number r; value = 0; wake = 0; retired = 1023; state = s }

-- "Reads and setup wake nobody"
abbrev pub gave : ℕ → List ℕ → Outcome
gave x s = record { refusal = 0; value = x; wake = 0; retired = 1023; state = s }

abbrev pub done : ℕ → ℕ → List ℕ → Outcome
done wake retired s = record { refusal = 0; value = 0; wake = wake; retired = retired; state = s }

-- a write or an input that takes the state from s to r
abbrev pub went : Shape → ℕ → List ℕ → List ℕ → Outcome
went shape retired s r = done (wake_set shape s r) retired r

-- 6, before all else
abbrev pub on_state : Option Shape → List ℕ → (Shape → Outcome) → Outcome
on_state None s f = refused BrokenState s
on_state (Some shape) s f = f shape

-- 3: "the call looks up its vCPU and the number is not below the count"
abbrev pub absent : Bool → Shape → ℕ → Bool
absent looks_up shape v = looks_up && leb shape.count v

abbrev pub looked_up : Bool → Shape → ℕ → List ℕ → Outcome → Outcome
looked_up looks_up shape v s out = cond (absent looks_up shape v) (refused Vcpu s) out
