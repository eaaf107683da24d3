-- What keeps the enabling of the SGI n at t, its enable bit and its priority: calls elsewhere, rings, the giving and the end. With the same stack
-- and the SGI not active, t can still take it. Assumes nothing.
use mathlib.Core.Path.{◌≡◌, refl, sym, ap, subst, ◌∙◌}
use mathlib.Core.Bool.{true, false, not, ◌&&◌}
use mathlib.Core.List.{List}
use mathlib.Core.Logic.{◌⊎◌, inl, inr}
use Prim.Native.Nat.{ℕ, ◌%◌, ◌≤◌, ◌<◌}
use native.Mathlib.Omega.{arith}
use borrow.Author.Tests.{eq-eqb, lt-ltb, not-true}
use Rattle.interrupt.specs.declared.record.InterruptRecord.{InterruptRecord}
use Rattle.word.specs.Word.{record_of}
use Rattle.state.specs.declared.layout.Shape.{Shape}
use Rattle.state.specs.declared.layout.InterfaceValue.{InterfaceValue}
use Rattle.state.specs.declared.layout.InterfaceValue.TheVariants.{Control, PriorityMask, BinaryPoint, Depth}
use Rattle.state.specs.Layout.{Slot, DistributorControl, Interface, Sources, Stack, on_stack, stack_capacity}
use Rattle.state.specs.Words.{word_at, record_slot, RecordThere, record_at, sources_at}
use Rattle.state.proofs.Accessors.{record_exists}
use Rattle.state.proofs.Steps.{Agree}
use Rattle.state.proofs.Tests.{left_true, right_true}
use Rattle.select.specs.Select.{both_on}
use Rattle.service.specs.Service.{depth_at, stack_at}
use Rattle.service.proofs.Stacks.{stack_same}
use Rattle.end.specs.End.{eoi_mode}
use Rattle.stories.specs.Stories.{Takes}
use Rattle.stories.proofs.Elsewhere.{Concerns, own_value, own_entry, own_sources}

-- what can be taken should it be pending is enabled, and not active
module _ {shape : Shape} {v n : ℕ} {s : List ℕ} (takes : Takes shape v n s) where
  abbrev it : InterruptRecord
  it = record_at shape v n s

  pub takes_enabled : it.enabled ≡ true
  takes_enabled = left_true it.enabled true (left_true (it.enabled && true) (not it.active) takes.ready)

  pub takes_idle : it.active ≡ false
  takes_idle = not-true it.active (right_true (it.enabled && true) (not it.active) takes.ready)

-- the slots of t's enabling: both switches, and t's priority mask and binary point
abbrev pub Enables : ℕ → Slot → Type 0
Enables t x = (x ≡ DistributorControl) ⊎ ((x ≡ Interface t Control) ⊎ ((x ≡ Interface t PriorityMask) ⊎ (x ≡ Interface t BinaryPoint)))

pub each_enables : (t : ℕ) (P : Slot → Type 0) → P DistributorControl → ((k : InterfaceValue) → on_stack (Interface t k) ≡ false → P (Interface t k)) → (x : Slot) → Enables t x → P x
each_enables t P switch values x (inl p) = subst P (sym p) switch
each_enables t P switch values x (inr (inl p)) = subst P (sym p) (values Control refl)
each_enables t P switch values x (inr (inr (inl p))) = subst P (sym p) (values PriorityMask refl)
each_enables t P switch values x (inr (inr (inr p))) = subst P (sym p) (values BinaryPoint refl)

pub record Steady (shape : Shape) (t n : ℕ) (s r : List ℕ) : Type 0 where
  pub enabling : Agree shape (Enables t) r s
  pub enabled : (record_at shape t n r).enabled ≡ (record_at shape t n s).enabled
  pub priority : (record_at shape t n r).priority ≡ (record_at shape t n s).priority

module _ {shape : Shape} {t n : ℕ} where
  pub then_steady : {s r q : List ℕ} → Steady shape t n s r → Steady shape t n r q → Steady shape t n s q
  then_steady a b = record {
    enabling = record { agree = λ x exists e. b.enabling.agree x exists e ∙ a.enabling.agree x exists e };
    enabled = b.enabled ∙ a.enabled;
    priority = b.priority ∙ a.priority;
  }

  module _ {s r : List ℕ} (steady : Steady shape t n s r) (exists : t < shape.count) where
    control_same : word_at shape (Interface t Control) r ≡ word_at shape (Interface t Control) s
    control_same = steady.enabling.agree (Interface t Control) exists (inr (inl refl))

    on_same : both_on shape t r ≡ both_on shape t s
    on_same = simp (steady.enabling.agree DistributorControl tt (inl refl), control_same)

    pub eoi_same : eoi_mode shape t r ≡ eoi_mode shape t s
    eoi_same = simp control_same

    pub takes_steady : n < 16 → Takes shape t n s → stack_at shape t r ≡ stack_at shape t s → (record_at shape t n r).active ≡ false → Takes shape t n r
    takes_steady sgi takes stack idle = record {
      on = on_same ∙ takes.on;
      for_it = simp (lt-ltb n 32 (omega (arith, sgi)));
      ready = simp (steady.enabled, takes_enabled takes, idle);
      unmasked = rw (steady.priority, steady.enabling.agree (Interface t PriorityMask) exists (inr (inr (inl refl)))) takes.unmasked;
      preempts = rw (steady.priority, stack, steady.enabling.agree (Interface t BinaryPoint) exists (inr (inr (inr refl)))) takes.preempts;
    }

-- calls elsewhere
module _ (shape : Shape) (t n : ℕ) (s r : List ℕ) (agrees : Agree shape (Concerns t n) r s) (exists : t < shape.count) (sgi : n < 16) (there : RecordThere shape t n) where
  enables_concern : (x : Slot) → Enables t x → Concerns t n x
  enables_concern = each_enables t (Concerns t n) (inl refl) (λ k off. own_value t n k)

  own : Concerns t n (record_slot t n)
  unfolding record_slot
  own = simp (lt-ltb n 32 (omega (arith, sgi))) (inr (record { whose = eq-eqb t t refl; number = λ e. refl }))

  pub agree_record : record_at shape t n r ≡ record_at shape t n s
  agree_record = ap record_of (agrees.agree (record_slot t n) (record_exists shape t n there) own)

  pub agree_sources : sources_at shape t n r ≡ sources_at shape t n s
  agree_sources = ap (λ (w : ℕ). w % 256) (agrees.agree (Sources t n) (exists, sgi) (own_sources t n))

  pub agree_stack : depth_at shape t s ≤ stack_capacity → stack_at shape t r ≡ stack_at shape t s
  agree_stack deep = stack_same shape t s r deep (agrees.agree (Interface t Depth) exists (own_value t n Depth)) (λ i b. agrees.agree (Stack t i) (exists, b) (own_entry t n i))

  pub agree_steady : Steady shape t n s r
  agree_steady = record {
    enabling = record { agree = λ x e c. agrees.agree x e (enables_concern x c) };
    enabled = ap (λ (q : InterruptRecord). q.enabled) agree_record;
    priority = ap (λ (q : InterruptRecord). q.priority) agree_record;
  }
