-- What a window that was tested says of its numbers: they fit TYPER's fields, and each is an SPI of this controller. Assumes nothing.
use Rattle.std.specs.Prelude.{Option, Some, None}
use mathlib.Core.Path.{◌≡◌, refl, sym, subst, ◌∙◌}
use mathlib.Core.Bool.{Bool, true, false, cond, false≢true}
use mathlib.Core.List.{List}
use Prim.Native.Nat.{ℕ, ◌+◌, ◌-◌, ◌≤◌, ◌<◌}
use native.Mathlib.Omega.{arith}
use lib.Dec.{leb, ltb}
use borrow.Author.Tests.{leb-true, ltb-true, ltb-false, le-leb, lt-ltb, le-ltb}
use Rattle.state.specs.declared.layout.Shape.{Shape}
use Rattle.state.specs.Lent.{validated}
use Rattle.state.specs.Words.{RecordThere}
use Rattle.state.proofs.Tests.{left_true, right_true}
use Rattle.answer.proofs.Present.{found_sound}
use Rattle.message_frame.specs.declared.Window.{Window}
use Rattle.message_frame.specs.declared.MessageRegister.{MessageRegister}
use Rattle.message_frame.specs.declared.MessageRegister.TheVariants.{Typer, Setspi, Other}
use Rattle.message_frame.specs.MessageFrame.{is_window, window_of, decoded_window, in_window, rings_spi}
use Rattle.message_frame.specs.Framing.{FitsTyper, Framed}

-- the numbers of a window
record Spis (shape : Shape) (window : Window) : Type 0 where
  spis : 32 ≤ window.first.0
  end : window.first.0 + window.count ≤ shape.limit

window_spis : (shape : Shape) (first count : ℕ) → is_window shape first count ≡ true → Spis shape (window_of first count)
window_spis shape first count e = record {
  spis = leb-true 32 first (left_true (leb 32 first) _ e);
  end = leb-true (first + count) shape.limit (right_true (leb 1 count) _ (right_true (leb 32 first) _ e));
}

abbrev Tested : Shape → Option Window → Type 0
Tested shape (Some window) = Spis shape window
Tested shape None = Unit

decoded_spis : (shape : Shape) (first count : ℕ) (window : Window) → decoded_window shape first count ≡ Some window → Spis shape window
unfolding decoded_window
decoded_spis shape first count window p = subst (Tested shape) p (go (is_window shape first count) refl)
  where
    go : (b : Bool) → is_window shape first count ≡ b → Tested shape (cond b (Some (window_of first count)) None)
    go true e = window_spis shape first count e
    go false e = tt

module _ (s : List ℕ) (held : Option Shape) (e : held ≡ validated s) (shape : Shape) (h : held ≡ Some shape) (first count : ℕ) (seen : Option Window) (d : seen ≡ decoded_window shape first count)
    (window : Window) (q : seen ≡ Some window) where
  it : Spis shape window
  it = decoded_spis shape first count window (sym d ∙ q)

  pub seen_framed : Framed shape window s
  seen_framed = record { sound = found_sound s held e shape h; spis = it.spis; end = it.end }

  pub seen_fits : FitsTyper window
  seen_fits = record { few = omega (arith, it.end, (found_sound s held e shape h).state.limits.few_numbers) }

-- a number inside the window, by the room that is left of it
pub inside_by_room : (window : Window) (n : ℕ) → window.first.0 ≤ n → ltb (n - window.first.0) window.count ≡ in_window window n
inside_by_room window n from = simp (le-leb window.first.0 n from) (go (ltb (n - window.first.0) window.count) refl)
  where
    go : (b : Bool) → ltb (n - window.first.0) window.count ≡ b → b ≡ ltb n (window.first.0 + window.count)
    go true e = sym (lt-ltb n (window.first.0 + window.count) (omega (arith, ltb-true (n - window.first.0) window.count e)))
    go false e = sym (le-ltb n (window.first.0 + window.count) (omega (arith, ltb-false (n - window.first.0) window.count e)))

-- is an SPI, whose record any vCPU meets
pub record AnSpi (shape : Shape) (n : ℕ) : Type 0 where
  pub from : 32 ≤ n
  pub below : n < shape.limit
  pub there : (v : ℕ) → RecordThere shape v n

module _ (shape : Shape) (window : Window) (n : ℕ) where
  pub inside_spi : 32 ≤ window.first.0 → window.first.0 + window.count ≤ shape.limit → in_window window n ≡ true → AnSpi shape n
  inside_spi spis end e =
      let low : window.first.0 ≤ n = leb-true window.first.0 n (left_true (leb window.first.0 n) _ e) in
      let high : n < window.first.0 + window.count = ltb-true n (window.first.0 + window.count) (right_true (leb window.first.0 n) _ e) in
      let from : 32 ≤ n = omega arith in
      let below : n < shape.limit = omega arith in
      record { from = from; below = below; there = λ v. record { numbered = below; banked = λ private. absurd (omega arith) } }

  rings_inside : (register : MessageRegister) → rings_spi window register n ≡ true → in_window window n ≡ true
  rings_inside Typer e = absurd (false≢true e)
  rings_inside Setspi e = e
  rings_inside Other e = absurd (false≢true e)

-- what a message rings is one
pub rung_spi : (shape : Shape) (first count : ℕ) → is_window shape first count ≡ true → (register : MessageRegister) (n : ℕ) → rings_spi (window_of first count) register n ≡ true → AnSpi shape n
rung_spi shape first count it register n e =
    let own = window_spis shape first count it in
    inside_spi shape (window_of first count) n own.spis own.end (rings_inside shape (window_of first count) n register e)
