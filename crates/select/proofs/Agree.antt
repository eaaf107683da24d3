-- Document 02, Five: "Selection by bits and by records agree on every such state", one whose summary is exact. So a candidate is enabled, pending
-- and not active there. Assumes nothing.
use Rattle.std.specs.Prelude.{Option}
use mathlib.Core.Path.{◌≡◌, refl, sym, ap, ap₂, ◌∙◌}
use mathlib.Core.Bool.{Bool, true, false, not, cond, ◌&&◌}
use mathlib.Core.List.{List}
use Prim.Native.Nat.{ℕ, zero, suc, ◌≤◌, ◌<◌}
use native.Mathlib.Omega.{arith}
use lib.Dec.{ltb}
use borrow.Author.Tests.{ltb-false, not-true}
use Rattle.interrupt.specs.Record.{is_ready}
use Rattle.word.specs.Word.{record_of}
use Rattle.state.specs.declared.layout.Shape.{Shape}
use Rattle.state.specs.declared.layout.InterfaceValue.TheVariants.{PriorityMask}
use Rattle.state.specs.Layout.{Slot}
use Rattle.state.specs.Words.{word_at, record_at, ready_bit, interface_at, Exact}
use Rattle.state.proofs.Accessors.{record_spi}
use Rattle.state.proofs.Tests.{left_true, right_true}
use Rattle.select.specs.Select.{offered, eligible, ready_at, candidate, candidate_by_record, candidate_for, better, best_among, best, best_by_records}
use Rattle.select.specs.declared.Candidate.{Candidate}

module _ (shape : Shape) (v : ℕ) (s : List ℕ) (x : Exact shape s) where
  pub ready_by_record : (n : ℕ) → n < shape.limit → ready_at shape v s n ≡ is_ready (record_at shape v n s)
  ready_by_record n h = go (ltb n 32) refl
    where
      go : (b : Bool) → ltb n 32 ≡ b → cond b (is_ready (record_at shape v n s)) (ready_bit shape n s) ≡ is_ready (record_at shape v n s)
      go true e = refl
      go false e = x.exact n (ltb-false n 32 e, h) ∙ ap (λ (t : Slot). is_ready (record_of (word_at shape t s))) (sym (record_spi v n e))

  pub candidates_agree : (n : ℕ) → n < shape.limit → candidate shape v s n ≡ candidate_by_record shape v s n
  unfolding candidate candidate_by_record
  candidates_agree n h = ap (λ (b : Bool). eligible (interface_at shape v PriorityMask s) v n b (record_at shape v n s)) (ready_by_record n h)

  agree_below : (n : ℕ) → n ≤ shape.limit → best_among (candidate shape v s) shape v s n ≡ best_among (candidate_by_record shape v s) shape v s n
  unfolding best_among
  agree_below zero h = refl
  agree_below (suc n) h = ap₂ (λ (b : Bool) (y : Option Candidate). better b (candidate_for shape v s n) y) (candidates_agree n h) (agree_below n (omega arith))

  -- what is offered goes by the records
  pub bits_and_records : best shape v s ≡ best_by_records shape v s
  bits_and_records = agree_below shape.limit (omega arith)

  pub candidate_ready : (n : ℕ) → n < shape.limit → candidate shape v s n ≡ true → is_ready (record_at shape v n s) ≡ true
  unfolding candidate_by_record
  candidate_ready n h c =
      let r = record_at shape v n s in
      let e = sym (candidates_agree n h) ∙ c in
      right_true (offered v n r) (is_ready r) (left_true (offered v n r && is_ready r) (ltb r.priority.0 (interface_at shape v PriorityMask s)) e)

  pub candidate_idle : (n : ℕ) → n < shape.limit → candidate shape v s n ≡ true → (record_at shape v n s).active ≡ false
  candidate_idle n h c = let r = record_at shape v n s in not-true r.active (right_true (r.enabled && r.pending) (not r.active) (candidate_ready n h c))
