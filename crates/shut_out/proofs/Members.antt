-- There is a controller that keeps the promises, and each kind has members, so the theorems shut something out: the fourth has one that does
-- give a first interrupt. Assumes nothing.
use mathlib.Core.Path.{◌≡◌, refl, ap}
use mathlib.Core.Bool.{true, false, not, true≢false}
use mathlib.Core.List.{List, [], ◌∷◌}
use mathlib.Core.Logic.{inl}
use Prim.Native.Nat.{ℕ}
use native.Mathlib.Omega.{arith}
use borrow.Author.Tests.{not-true}
use Rattle.register.specs.declared.frame.AccessWidth.TheVariants.{Dword}
use Rattle.register.specs.declared.frame.Refusal.TheVariants.{BrokenState}
use Rattle.state.proofs.Tests.{left_true, right_true}
use Rattle.answer.specs.Answer.{Outcome, refused, gave}
use Rattle.history.specs.History.{Call, WriteCpuInterface, Looks, ReadsRegister, WritesRegister, WritesPlace, Signals, Deed, Starts, Acts, deed, starts_anew, is_start, called, no_start, iar_read}
use Rattle.shut_out.specs.ShutOut.{Behaviour, KeepsPromises, behaved, words_after, Frame, Access, read_call, write_call, Refuser, ReadsNothing, IgnoresWrites, gave_number, OneShot, PointForShow}

pub one_meets : KeepsPromises called
one_meets c s p = refl

-- one that refuses everything: it is of the first three kinds and the last
abbrev refuses : Behaviour
refuses c s = refused BrokenState s

pub a_refuser : Refuser refuses
a_refuser h c p q e = omega (arith, e)

pub a_constant_reader : (frame : Frame) → ReadsNothing frame refuses
a_constant_reader frame h a = inl refl

pub a_deaf_controller : (frame : Frame) → IgnoresWrites frame refuses
a_deaf_controller frame h a b value = refl

pub a_point_for_show : PointForShow refuses
a_point_for_show h v value = refl

-- one whose writes leave the words as they were ignores them, whatever it answers
pub unchanged_ignores : (frame : Frame) (f : Behaviour) → ((a : Access) (value : ℕ) (s : List ℕ) → (f (write_call frame a value) s).state ≡ s) → IgnoresWrites frame f
unchanged_ignores frame f k h a b value = ap (λ (s : List ℕ). (f (read_call frame b) s).value) (k a value (words_after f h))

-- .. and one whose writes to BPR do keeps it for show
pub unchanged_for_show : (f : Behaviour) → ((v value : ℕ) (s : List ℕ) → (f (WriteCpuInterface v 0x08 Dword value) s).state ≡ s) → PointForShow f
unchanged_for_show f k h v value = ap (λ (s : List ℕ). (f (iar_read v) s).value) (k v value (words_after f h))

-- one that gives SGI 5 while it has a word, which setup leaves it and an acknowledge takes away
abbrev acknowledges : List ℕ → Outcome
acknowledges [] = gave 1023 []
acknowledges (x ∷ s) = gave 5 []

abbrev does : Deed → List ℕ → Outcome
does (Starts count limit) s = gave 0 (0 ∷ [])
does (Acts (Looks by)) s = gave 0 s
does (Acts (ReadsRegister v a)) s = acknowledges s
does (Acts (WritesRegister v a value)) s = gave 0 s
does (Acts (WritesPlace v a width value)) s = gave 0 s
does (Acts (Signals v n signal)) s = gave 0 s

abbrev once : Behaviour
once c s = does (deed c) s

leaves_empty : (d : Deed) → starts_anew d ≡ false → (does d []).state ≡ []
leaves_empty (Starts count limit) p = absurd (true≢false p)
leaves_empty (Acts (Looks by)) p = refl
leaves_empty (Acts (ReadsRegister v a)) p = refl
leaves_empty (Acts (WritesRegister v a value)) p = refl
leaves_empty (Acts (WritesPlace v a width value)) p = refl
leaves_empty (Acts (Signals v n signal)) p = refl

stays_empty : (cs : List Call) → no_start cs ≡ true → behaved once cs [] ≡ []
unfolding behaved
stays_empty [] p = refl
stays_empty (c ∷ cs) p =
    rw (leaves_empty (deed c) (not-true (is_start c) (left_true (not (is_start c)) (no_start cs) p))) (stays_empty cs (right_true (not (is_start c)) (no_start cs) p))

emptied : (s : List ℕ) → (acknowledges s).state ≡ []
emptied [] = refl
emptied (x ∷ s) = refl

pub a_one_shot : OneShot once
a_one_shot h v later p within q = simp (emptied (words_after once h), stays_empty later q)

pub gives_the_first : (count limit v : ℕ) (s : List ℕ) → gave_number (once (iar_read v) (words_after once (record { count = count; limit = limit; lent = s; calls = []; in_scope = refl }))) ≡ true
unfolding behaved
gives_the_first count limit v s = refl
