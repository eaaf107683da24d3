-- The changes of its record that leave a PPI or SPI pending: all that clear no pending bit. Assumes nothing.
use mathlib.Core.Path.{◌≡◌, refl}
use mathlib.Core.Bool.{Bool, true, false, cond, ◌&&◌, ◌||◌}
use Rattle.interrupt.specs.declared.record.InterruptRecord.{InterruptRecord}
use Rattle.interrupt.specs.Record.{set_enabled, set_pending, set_active, cancel_inflight, set_priority, set_trigger, set_cpu_target_mask, set_owner, set_level, pulse, complete, deactivate_inflight, held, falls_idle}
use Rattle.end.specs.End.{retire}
use Rattle.moves.specs.Moves.{Change, SetEnabled, SetPending, SetActive, CancelInflight, SetTrigger, SetPriority, SetCpuTargetMask, SetLevel, Pulse, DeactivateInflight, Complete, ClearDeliveryState, becomes}
use Rattle.waiting.proofs.RecordMoves.{Lasting}

-- a change that leaves a pending bit set (of ICPENDR's see Clearing.antt)
abbrev pub SparesRecord : Change → InterruptRecord → Type 0
SparesRecord (SetEnabled e) r = Unit
SparesRecord (SetPending true) r = Unit
SparesRecord (SetPending false) r = ⊥
SparesRecord (SetActive a) r = Unit
SparesRecord CancelInflight r = Unit
SparesRecord (SetTrigger t) r = Unit
SparesRecord (SetPriority q) r = Unit
SparesRecord (SetCpuTargetMask m) r = Unit
SparesRecord (SetLevel a) r = falls_idle r a ≡ false
SparesRecord Pulse r = Unit
SparesRecord DeactivateInflight r = Unit
SparesRecord Complete r = Unit
SparesRecord ClearDeliveryState r = ⊥

-- joined with any bit, or left
or_true : (a b : Bool) → a ≡ true → (a || b) ≡ true
or_true a b e = rw e refl

if_true : (a b : Bool) → b ≡ true → cond a true b ≡ true
if_true true b e = refl
if_true false b e = e

pub pending_kept : (c : Change) (r : InterruptRecord) → SparesRecord c r → r.pending ≡ true → (becomes c r).pending ≡ true
unfolding set_enabled set_pending set_active cancel_inflight set_owner set_trigger set_priority set_cpu_target_mask set_level pulse retire deactivate_inflight complete
pending_kept (SetEnabled e) r spares now = if_true (e && r.line_asserted) r.pending now
pending_kept (SetPending true) r spares now = refl
pending_kept (SetPending false) r spares now = absurd spares
pending_kept (SetActive a) r spares now = now
pending_kept CancelInflight r spares now = or_true r.pending r.redelivery_pending now
pending_kept (SetTrigger t) r spares now = now
pending_kept (SetPriority q) r spares now = now
pending_kept (SetCpuTargetMask m) r spares now = now
pending_kept (SetLevel a) r spares now = simp spares (if_true a r.pending now)
pending_kept Pulse r spares now = refl
pending_kept DeactivateInflight r spares now = rw now refl
pending_kept Complete r spares now = if_true (held r) r.pending now
pending_kept ClearDeliveryState r spares now = absurd spares

-- what is given is no longer pending
abbrev pub pending_lasts : Lasting
pending_lasts = record { holds = λ r. r.pending; Spared = SparesRecord; Givable = ⊥; change_keeps = pending_kept; giving_keeps = λ none u r now. absurd none }
