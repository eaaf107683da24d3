-- A write that retires a number retires its record, as the writer meets it. Assumes nothing.
use mathlib.Core.Path.{◌≡◌, refl, sym, subst, ◌∙◌}
use mathlib.Core.Bool.{Bool, true, false, cond, ◌&&◌}
use mathlib.Core.List.{List}
use Prim.Native.Nat.{ℕ, ◌<◌}
use native.Mathlib.Omega.{arith}
use lib.Dec.{ltb}
use borrow.Author.Tests.{ltb-true}
use Rattle.register.specs.declared.frame.AccessWidth.{AccessWidth}
use Rattle.register.specs.declared.frame.Refusal.{Refusal}
use Rattle.state.specs.declared.layout.Shape.{Shape}
use Rattle.state.specs.Words.{record_at}
use Rattle.state.proofs.Tests.{left_true, right_true}
use Rattle.service.specs.Service.{stack_at, is_newest}
use Rattle.end.specs.End.{served_here, eoi_mode, retire, deactivated, retired, ended, end_retired}
use Rattle.delivery.proofs.Deactivation.{deactivated_record}
use Rattle.delivery.proofs.Ended.{ended_record, ended_retired}
use Rattle.delivery.proofs.Registers.{each_write}
use Rattle.cpu_interface.specs.CpuInterface.{write_register, write_retired, write_register_looks_up}
use Rattle.answer.specs.Answer.{Outcome, refused}
use Rattle.lawful.specs.Lawful.{Controls}
use Rattle.moves.proofs.Slots.{served}
use Rattle.moves.proofs.Sounds.{lawful_sound}
use Rattle.history.specs.History.{WriteCpuInterface, Looks, ReadsRegister, WritesRegister, WritesPlace, Signals, Deed, Starts, Acts, called}
use Rattle.history.proofs.Each.{valid, each_call}

module _ (shape : Shape) (s : List ℕ) (h : Controls shape s) (v n : ℕ) (numbered : n < 1020) where
  -- the number that Deactivate retires is its own
  served_here_lem : (k : ℕ) → retired shape v k s ≡ n → (k ≡ n) × ((ltb n shape.limit && served_here v (record_at shape v n s)) ≡ true)
  unfolding retired
  served_here_lem k p = go (ltb k shape.limit && served_here v (record_at shape v k s)) refl p
    where
      go : (b : Bool) → (ltb k shape.limit && served_here v (record_at shape v k s)) ≡ b → cond b k 1023 ≡ n → (k ≡ n) × ((ltb n shape.limit && served_here v (record_at shape v n s)) ≡ true)
      go true e q = (q, subst (λ (i : ℕ). (ltb i shape.limit && served_here v (record_at shape v i s)) ≡ true) q e)
      go false e q = absurd (omega (arith, q, numbered))

  module _ (exists : v < shape.count) where
    abbrev Retired : List ℕ → Type 0
    Retired r = record_at shape v n r ≡ retire (record_at shape v n s)

    deactivated_retires : (k : ℕ) → retired shape v k s ≡ n → Retired (deactivated shape v k s)
    deactivated_retires k p =
        let is = served_here_lem k p in
        let below = ltb-true n shape.limit (left_true (ltb n shape.limit) (served_here v (record_at shape v n s)) is.1) in
        rw is.0
        (deactivated_record shape v n s h.lawful.in_range.state exists below ∙ simp (right_true (ltb n shape.limit) (served_here v (record_at shape v n s)) is.1))

    -- an end that retires popped it, with EOI mode off
    ended_retires : (k : ℕ) → end_retired shape v k s ≡ n → Retired (ended shape v k s)
    unfolding end_retired
    ended_retires k p = newest (is_newest k (stack_at shape v s)) refl
      where
        off : is_newest k (stack_at shape v s) ≡ true → (b : Bool) → eoi_mode shape v s ≡ b → Retired (ended shape v k s)
        off top true e = absurd (omega (arith, numbered, simp (top, e) at p))
        off top false e =
            let is = served_here_lem k (sym (ended_retired shape v k s (served shape s (lawful_sound h.lawful) v exists) top e) ∙ p) in
            let below = ltb-true n shape.limit (left_true (ltb n shape.limit) (served_here v (record_at shape v n s)) is.1) in
            rw is.0
            (ended_record shape v n s (served shape s (lawful_sound h.lawful) v exists) (subst (λ (i : ℕ). is_newest i (stack_at shape v s) ≡ true) is.0 top) e below
            ∙ simp (right_true (ltb n shape.limit) (served_here v (record_at shape v n s)) is.1))

        newest : (b : Bool) → is_newest k (stack_at shape v s) ≡ b → Retired (ended shape v k s)
        newest true e = off e (eoi_mode shape v s) refl
        newest false e = absurd (omega (arith, numbered, simp e at p))

  -- of a write to v's interface
  abbrev Retires : Deed → Outcome → Type 0
  Retires (Starts count limit) o = Unit
  Retires (Acts (Looks by)) o = Unit
  Retires (Acts (ReadsRegister u a)) o = Unit
  Retires (Acts (WritesRegister u a value)) o = u ≡ v → o.retired ≡ n → record_at shape v n o.state ≡ retire (record_at shape v n s)
  Retires (Acts (WritesPlace u a width value)) o = Unit
  Retires (Acts (Signals u m signal)) o = Unit

  refused_retires : (d : Deed) (r : Refusal) → Retires d (refused r s)
  refused_retires (Starts count limit) r = tt
  refused_retires (Acts (Looks by)) r = tt
  refused_retires (Acts (ReadsRegister u a)) r = tt
  refused_retires (Acts (WritesRegister u a value)) r = λ p q. absurd (omega (arith, q, numbered))
  refused_retires (Acts (WritesPlace u a width value)) r = tt
  refused_retires (Acts (Signals u m signal)) r = tt

  pub retiring_record : (offset : ℕ) (width : AccessWidth) (value : ℕ) → (called (WriteCpuInterface v offset width value) s).retired ≡ n
      → record_at shape v n (called (WriteCpuInterface v offset width value) s).state ≡ retire (record_at shape v n s)
  retiring_record offset width value =
      each_call shape s (valid shape s h) (λ c. Retires)
      (λ c d r may bar. refused_retires d r)
      (λ c by x. tt)
      (λ c u register x no. tt)
      (λ c u register is looked full. tt)
      (λ c u register x looked p.
      subst (λ (k : ℕ). write_retired shape k register x s ≡ n → record_at shape v n (write_register shape k register x s) ≡ retire (record_at shape v n s)) (sym p)
      (each_write shape v s x (λ looks_up number r. (looks_up ≡ true → v < shape.count) → number ≡ n → record_at shape v n r ≡ retire (record_at shape v n s))
      (λ looks_up q e. absurd (omega (arith, e, numbered)))
      (λ k away q e. absurd (omega (arith, e, numbered)))
      (λ k q e. ended_retires (q refl) k e)
      (λ k q e. deactivated_retires (q refl) k e)
      register (subst (λ (k : ℕ). write_register_looks_up register x ≡ true → k < shape.count) p looked)))
      (λ c u place w x at. tt)
      (λ c u m signal there past. tt)
      (WriteCpuInterface v offset width value) refl refl
