-- What the two calls come to, case by case. Each law takes what the steps of its call have shown, one premise for each step. Assumes nothing.
use Rattle.std.specs.Prelude.{Option, Some, None}
use mathlib.Core.Path.{◌≡◌, refl, sym, ◌∙◌}
use mathlib.Core.Bool.{Bool, true, false}
use mathlib.Core.List.{List}
use Prim.Native.Nat.{ℕ, ◌≤◌, ◌<◌}
use borrow.Author.Tests.{lt-ltb, le-ltb}
use Rattle.interrupt.specs.Types.{is_private_id}
use Rattle.interrupt.specs.declared.record.InterruptRecord.{InterruptRecord}
use Rattle.word.specs.Word.{bit_of, word_of}
use Rattle.register.specs.declared.frame.Refusal.TheVariants.{Vcpu, BrokenState}
use Rattle.state.specs.declared.layout.Shape.{Shape}
use Rattle.state.specs.Lent.{validated}
use Rattle.state.specs.Words.{Reached, record_at}
use Rattle.service.specs.Service.{Served}
use Rattle.service.proofs.Soundness.{sound_served}
use Rattle.answer.specs.Answer.{Outcome, refused, gave, absent}
use Rattle.answer.proofs.Present.{found_sound, present}
use Rattle.look.specs.Look.{line_level, irq_level, interrupt_word}

module _ (v : ℕ) (s : List ℕ) (found : Option Shape) (e : found ≡ validated s) where
  module _ (shape : Shape) (h : found ≡ Some shape) where
    module _ (q : Bool) (a : q ≡ absent true shape v) where
      pub level_served : q ≡ false → Served shape v s
      level_served p = sound_served v (found_sound s found e shape h) (present true shape v (sym a ∙ p) refl)

      pub level_seen : (b : Bool) (x : ℕ) (out : Outcome) → q ≡ false → b ≡ line_level shape v s → x ≡ bit_of b → out ≡ gave x s → out ≡ irq_level v s
      unfolding irq_level
      level_seen b x out p l i given = given ∙ simp (← e, h, ← a, p, i, l)

    module _ (n : ℕ) where
      pub interrupt_past : (out : Outcome) → shape.limit ≤ n → out ≡ gave 0 s → out ≡ interrupt_word v n s
      unfolding interrupt_word
      interrupt_past out past given = given ∙ simp (← e, h, le-ltb n shape.limit past)

      module _ (below : n < shape.limit) (private q : Bool) (i : private ≡ is_private_id (record { 0 = n })) (a : q ≡ absent private shape v) where
        -- (no proof cites it: the check finds the refusal; `an_spi_is_looked_up` is refused by it)
        pub interrupt_absent : q ≡ true → refused Vcpu s ≡ interrupt_word v n s
        unfolding interrupt_word
        interrupt_absent p = simp (← e, h, lt-ltb n shape.limit below, ← i, ← a, p)

        pub interrupt_there : q ≡ false → Reached shape v n s
        interrupt_there p = record {
          state = (found_sound s found e shape h).state;
          there = record { numbered = below; banked = λ low. present private shape v (sym a ∙ p) (i ∙ lt-ltb n 32 low) };
        }

        pub interrupt_seen : (r : InterruptRecord) (x : ℕ) (out : Outcome) → q ≡ false → r ≡ record_at shape v n s → x ≡ word_of r → out ≡ gave x s → out ≡ interrupt_word v n s
        unfolding interrupt_word
        interrupt_seen r x out p l w given = given ∙ simp (← e, h, lt-ltb n shape.limit below, ← i, ← a, p, w, l)
