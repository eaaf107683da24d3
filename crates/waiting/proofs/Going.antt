-- What a call takes is gone after it, whatever it is: if the giving of it, each write and each signal that takes it leave it gone, and none of
-- these can be refused. Assumes nothing.
use Rattle.std.specs.Prelude.{Result, Ok, Err}
use mathlib.Core.Path.{◌≡◌, sym, ◌∙◌}
use mathlib.Core.Bool.{Bool, true, false, ◌&&◌, true≢false, false≢true}
use mathlib.Core.List.{List}
use Prim.Native.Nat.{ℕ, ◌≤◌, ◌<◌}
use lib.Dec.{eqb}
use borrow.Author.Tests.{eqb-true}
use Rattle.register.specs.declared.frame.AccessWidth.{AccessWidth}
use Rattle.register.specs.declared.frame.Refusal.{Refusal}
use Rattle.register.specs.declared.distributor.Place.{Place}
use Rattle.register.specs.declared.distributor.DistributorAccess.TheVariants as distributor
use Rattle.register.specs.declared.cpu_interface.CpuInterfaceRegister.{CpuInterfaceRegister}
use Rattle.register.specs.Frame.{refusal_number}
use Rattle.state.specs.declared.layout.Shape.{Shape}
use Rattle.state.specs.Words.{RecordThere, changed, enabled_at}
use Rattle.state.proofs.Tests.{left_true, right_true}
use Rattle.select.specs.declared.Candidate.{Candidate}
use Rattle.acknowledge.specs.Acknowledge.{given, acknowledge, acknowledged}
use Rattle.cpu_interface.specs.CpuInterface.{acknowledging}
use Rattle.places.specs.Places.{write_place_looks_up, write_place, Located, PlaceWritten}
use Rattle.answer.specs.Answer.{Outcome, refused}
use Rattle.cpu_interface_frame.specs.CpuInterfaceFrame.{read_answer}
use Rattle.input.specs.declared.Signal.{Signal}
use Rattle.input.specs.declared.Signal.TheVariants.{Level, Edge}
use Rattle.input.specs.Input as input
use Rattle.lawful.specs.Lawful.{Controls}
use Rattle.moves.specs.Moves.{Giving}
use Rattle.history.specs.History.{Call, Looks, ReadsRegister, WritesRegister, WritesPlace, Signals, Deed, Starts, Acts, deed, is_start, called}
use Rattle.history.proofs.Each.{some_refusal, valid, Barred, each_call}
use Rattle.waiting.specs.Waiting.{gives, Taker, taken_by}
use Rattle.waiting.proofs.Keeping.{handed_out, acknowledge_cases}

-- all that is asked of what is gone from words: `Gone`
pub record Goes (shape : Shape) (s : List ℕ) (taker : Taker) (Gone : List ℕ → Type 0) : Type 0 where
  pub some : taker.answer 1023 ≡ false
  pub given_takes : (v : ℕ) (e : Candidate) → taker.by v ≡ true → Giving shape v e s → taker.answer (handed_out shape v e s) ≡ true → Gone (given shape v e s)
  pub write_found : (v : ℕ) (place : Place) (width : AccessWidth) (value : ℕ) → taker.by v ≡ true → taker.write (distributor.At place) width value ≡ true → Located place width
      → write_place_looks_up place.class place.private value ≡ true → v < shape.count
  pub write_takes : (v : ℕ) (place : Place) (width : AccessWidth) (value : ℕ) → taker.by v ≡ true → taker.write (distributor.At place) width value ≡ true
      → PlaceWritten shape v place width value s → Gone (write_place shape v place width value s)
  pub nowhere_refused : (r : Refusal) (width : AccessWidth) (value : ℕ) → taker.write (distributor.Refused r) width value ≡ false
  pub nowhere_private : (width : AccessWidth) (value : ℕ) → taker.write distributor.PrivateWidth width value ≡ false
  pub no_pulse : (n : ℕ) → taker.signal n Edge ≡ false
  pub signal_found : (v n : ℕ) (signal : Signal) → taker.by v ≡ true → taker.signal n signal ≡ true → RecordThere shape v n × (16 ≤ n)
  pub signal_takes : (v n : ℕ) (signal : Signal) → taker.by v ≡ true → taker.signal n signal ≡ true → Gone (changed shape v n (input.signalled signal) s)

gives_nothing : (these : ℕ → Bool) (a : Result CpuInterfaceRegister Refusal) (r : Refusal) (s : List ℕ) → gives these a (refused r s) ≡ true → ⊥
gives_nothing these (Err q) r s e = false≢true e
gives_nothing these (Ok register) r s e =
    let front = left_true (acknowledging register && eqb (refusal_number r) 0) (these 0) e in
    some_refusal r (eqb-true (refusal_number r) 0 (right_true (acknowledging register) (eqb (refusal_number r) 0) front))

module _ {shape : Shape} {s : List ℕ} {taker : Taker} {Gone : List ℕ → Type 0} (g : Goes shape s taker Gone) (h : Controls shape s) where
  by_and : (v : ℕ) {b : Bool} → (taker.by v && b) ≡ true → (taker.by v ≡ true) × (b ≡ true)
  by_and v {b} e = (left_true (taker.by v) b e, right_true (taker.by v) b e)

  -- a refused call takes nothing
  refused_takes : (d : Deed) (r : Refusal) → Barred shape d → taken_by taker d (refused r s) ≡ true → ⊥
  refused_takes (Starts count limit) r bar e = some_refusal r (eqb-true (refusal_number r) 0 e)
  refused_takes (Acts (Looks by)) r bar e = false≢true e
  refused_takes (Acts (ReadsRegister v a)) r bar e = gives_nothing taker.answer a r s (by_and v e).1
  refused_takes (Acts (WritesRegister v a value)) r bar e = false≢true e
  refused_takes (Acts (WritesPlace v (distributor.Refused q) width value)) r bar e = true≢false (sym (by_and v e).1 ∙ g.nowhere_refused q width value)
  refused_takes (Acts (WritesPlace v distributor.PrivateWidth width value)) r bar e = true≢false (sym (by_and v e).1 ∙ g.nowhere_private width value)
  refused_takes (Acts (WritesPlace v (distributor.At place) width value)) r bar e =
      let both = by_and v e in
      bar.1 (g.write_found v place width value both.0 both.1 bar.0)
  refused_takes (Acts (Signals v n (Level asserted))) r bar e =
      let both = by_and v e in
      let found = g.signal_found v n (Level asserted) both.0 both.1 in
      bar found.0 found.1
  refused_takes (Acts (Signals v n Edge)) r bar e = true≢false (sym (by_and v e).1 ∙ g.no_pulse n)

  -- a call that comes to this does not take it, or it is gone
  abbrev Takes : Deed → Outcome → Type 0
  Takes d o = taken_by taker d o ≡ true → Gone o.state

  acknowledges : (v : ℕ) (register : CpuInterfaceRegister) → acknowledging register ≡ true → (enabled_at shape s ≡ true → v < shape.count)
      → Takes (Acts (ReadsRegister v (Ok register))) (read_answer (acknowledge shape v s) s (acknowledged shape v s))
  acknowledges v register is looked =
      acknowledge_cases shape s h v looked (Takes (Acts (ReadsRegister v (Ok register))))
      (λ e. absurd (true≢false (sym (rw is at (by_and v e).1) ∙ g.some)))
      (λ d o e. g.given_takes v d (by_and v e).0 o (rw is at (by_and v e).1))

  pub call_takes : (c : Call) → is_start c ≡ false → Takes (deed c) (called c s)
  call_takes =
      each_call shape s (valid shape s h) (λ c. Takes)
      (λ c d r may bar e. absurd (refused_takes d r bar e))
      (λ c by x e. absurd (false≢true e))
      (λ c v register x no e. absurd (false≢true (rw no at (by_and v e).1)))
      (λ c v register is looked full. acknowledges v register is looked)
      (λ c v register value looked e. absurd (false≢true e))
      (λ c v place width value at e. let both = by_and v e in g.write_takes v place width value both.0 both.1 at)
      (λ c v n signal there past e. let both = by_and v e in g.signal_takes v n signal both.0 both.1)
