-- Outcomes of calls before and after a change of lent words that the slots do not see. Assumes nothing.
use mathlib.Core.Path.{◌≡◌, refl, ap, ◌∙◌}
use mathlib.Core.Bool.{Bool, true, false}
use mathlib.Core.List.{List}
use Prim.Native.Nat.{ℕ}
use lib.ListN.{length}
use Rattle.register.specs.declared.frame.Refusal.{Refusal}
use Rattle.state.specs.declared.layout.Shape.{Shape}
use Rattle.service.specs.Service.{Sound}
use Rattle.answer.specs.Answer.{Outcome, refused, gave, done, went, absent, looked_up}
use Rattle.reach.proofs.Readings.{wakes_alike}
use Rattle.reach.proofs.Around.{Around, Passes}

-- an outcome with its words changed
abbrev pub wrapped : (List ℕ → List ℕ) → Outcome → Outcome
wrapped wrap o = record { refusal = o.refusal; value = o.value; wake = o.wake; retired = o.retired; state = wrap o.state }

-- a call that may as well come before the change as after it
pub record Carries (wrap : List ℕ → List ℕ) (f : List ℕ → Outcome) (s : List ℕ) : Type 0 where
  pub same : f (wrap s) ≡ wrapped wrap (f s)
  pub long : length (f s).state ≡ length s

module _ {wrap : List ℕ → List ℕ} (s : List ℕ) where
  pub refused_carries : (r : Refusal) → Carries wrap (refused r) s
  refused_carries r = record { same = refl; long = refl }

  pub gave_carries : (x : List ℕ → ℕ) → x (wrap s) ≡ x s → Carries wrap (λ r. gave (x r) r) s
  gave_carries x alike = record { same = ap (λ (k : ℕ). gave k (wrap s)) alike; long = refl }

  -- with an argument that reads alike
  pub with_carries : {X : Type 0} (x : List ℕ → X) (f : X → List ℕ → Outcome) → x (wrap s) ≡ x s → Carries wrap (f (x s)) s → Carries wrap (λ r. f (x r) r) s
  with_carries {X = X} x f alike p = record { same = ap (λ (k : X). f k (wrap s)) alike ∙ p.same; long = p.long }

  -- what looks up its vCPU
  pub looked_carries : {f : List ℕ → Outcome} (shape : Shape) (v : ℕ) (looks_up : Bool) → (absent looks_up shape v ≡ false → Carries wrap f s) → Carries wrap (λ r. looked_up looks_up shape v r (f r)) s
  looked_carries {f = f} shape v looks_up found = go (absent looks_up shape v) refl
    where
      go : (b : Bool) → absent looks_up shape v ≡ b → Carries wrap (λ r. looked_up looks_up shape v r (f r)) s
      go true e = record { same = simp e; long = simp e }
      go false e = let p = found e in record { same = simp e p.same; long = simp e p.long }

module _ {shape : Shape} {wrap : List ℕ → List ℕ} (around : Around shape wrap) (s : List ℕ) (h : Sound shape s) where
  -- a write or an input
  pub went_carries : (x : List ℕ → ℕ) (g : List ℕ → List ℕ) → x (wrap s) ≡ x s → Passes wrap g s → Sound shape (g s) → Carries wrap (λ r. went shape (x r) r (g r)) s
  went_carries x g alike p after = record {
    same =
        (λ i. went shape (alike i) (wrap s) (p.same i))
        ∙ ap (λ (w : ℕ). done w (x s) (wrap (g s))) (wakes_alike (around.alike s h.state) (around.alike (g s) after.state) h after);
    long = p.long;
  }
