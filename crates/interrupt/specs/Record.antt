-- One interrupt's record and its transitions. Document 01, "Port order" 1: "All its transitions exactly as the Rust, less routes", so each
-- definition stands beside the function of interrupt.rs that its comment names, line by line, but for `set_pending`, which departs from it; what the
-- states mean is IHI 0048's "Interrupt handling state machine", and the registers that its comment names are IHI 0048's that reach it. A chain of
-- `with..` (With.antt) is read from the inside: it says field by field what is new, and all else stays.
-- Left out on purpose: the interrupt's number, which is the record's place in the lent state, and the affinity route.
use Rattle.std.specs.Prelude.{Bool, true, false, not, cond, ◌&&◌, ◌||◌, ℕ, Option, Some, None}
use Rattle.interrupt.specs.Types.{is_sgi, is_level, starting_trigger, pending_in, active_in}
use Rattle.interrupt.specs.With.{with_enabled, with_pending, with_active, with_inflight, with_redelivery, with_line, with_priority, with_trigger, with_mask, with_owner}
use Rattle.interrupt.specs.declared.types.IntId.{IntId}
use Rattle.interrupt.specs.declared.types.Priority.{Priority}
use Rattle.interrupt.specs.declared.types.TriggerMode.{TriggerMode}
use Rattle.interrupt.specs.declared.types.InterruptState.{InterruptState}
use Rattle.interrupt.specs.declared.types.InterruptState.TheVariants.{Inactive, Pending, Active, ActivePending}
use Rattle.interrupt.specs.declared.record.InterruptRecord.{InterruptRecord}
use Rattle.interrupt.specs.declared.record.Synchronized.{Synchronized}
use Rattle.interrupt.specs.declared.types.GicVcpuId.{GicVcpuId}

-- `new`: only an SGI starts enabled; the priority is IHI's reset value; no target mask is set, and nobody serves it
unfoldable pub new_record : IntId → TriggerMode → InterruptRecord
new_record n t = record {
  enabled = is_sgi n;
  pending = false;
  active = false;
  inflight = false;
  redelivery_pending = false;
  line_asserted = false;
  priority = record { 0 = 0 };
  trigger = t;
  cpu_target_mask = None;
  owner = None;
}

-- what the interrupt n has after setup
unfoldable pub starting_record : IntId → InterruptRecord
starting_record n = new_record n (starting_trigger n)

-- `set_enabled` (GICD_ISENABLERn, GICD_ICENABLERn): to enable an interrupt whose line is asserted pends it
unfoldable pub set_enabled : InterruptRecord → Bool → InterruptRecord
set_enabled r e = with_pending (cond (e && r.line_asserted) true r.pending) (with_enabled e r)

-- a level interrupt with its line asserted
unfoldable pub held : InterruptRecord → Bool
held r = is_level r.trigger && r.line_asserted

-- `set_pending` (GICD_ISPENDRn, GICD_ICPENDRn, GICD_SGIR): clearing takes the redelivery note with it. Document 02, Four, departs from the Rust:
-- "Clearing pending on a level interrupt with its line asserted must leave the pending bit as it stands; the redelivery note is still cleared."
unfoldable pub set_pending : InterruptRecord → Bool → InterruptRecord
set_pending r p = with_redelivery (cond (not p) false r.redelivery_pending) (with_pending (cond (not p && held r) r.pending p) r)

-- `set_active` (GICD_ISACTIVERn, GICD_ICACTIVERn)
unfoldable pub set_active : InterruptRecord → Bool → InterruptRecord
set_active r a = with_active a r

-- `state`: of the pending and the active bit
abbrev pub state_from : Bool → Bool → InterruptState
state_from false false = Inactive
state_from true false = Pending
state_from false true = Active
state_from true true = ActivePending

unfoldable pub state_of : InterruptRecord → InterruptState
state_of r = state_from r.pending r.active

-- `set_state`
unfoldable pub set_state : InterruptRecord → InterruptState → InterruptRecord
set_state r s = with_active (active_in s) (with_pending (pending_in s) r)

-- `has_delivery_state`
unfoldable pub has_delivery_state : InterruptRecord → Bool
has_delivery_state r = r.pending || r.active || r.inflight || r.redelivery_pending

-- `clear_delivery_state`: the line too
unfoldable pub clear_delivery_state : InterruptRecord → InterruptRecord
clear_delivery_state r = with_line false (with_redelivery false (with_inflight false (with_active false (with_pending false r))))

-- `mark_inflight` (GICC_IAR)
unfoldable pub mark_inflight : InterruptRecord → InterruptRecord
mark_inflight r = with_inflight true r

-- `synchronize_inflight` (GICC_IAR): the note counts as pending in the merged state; merged into "active and pending", it is spent
abbrev pub note_merged : InterruptRecord → InterruptRecord
note_merged r = with_pending (r.pending || r.redelivery_pending) r

abbrev pub note_spent : InterruptRecord → InterruptRecord
note_spent r = with_redelivery (cond (r.pending && r.active) false r.redelivery_pending) r

unfoldable pub synchronize_inflight : InterruptRecord → InterruptState → Synchronized
synchronize_inflight r s = record {
  after = note_spent (note_merged (set_state r s));
  merged = state_of (note_merged (set_state r s));
}

-- `cancel_inflight` (GICD_ICACTIVERn): what was noted becomes pending
unfoldable pub cancel_inflight : InterruptRecord → InterruptRecord
cancel_inflight r = with_redelivery false (with_inflight false (note_merged r))

-- `finish_inflight`: pending again if that was noted, or if its line is held
unfoldable pub finish_inflight : InterruptRecord → InterruptRecord
finish_inflight r = with_redelivery false (with_pending (r.redelivery_pending || held r) (with_active false (with_inflight false r)))

-- `deactivate_inflight` (GICC_EOIR, GICC_DIR): the same, or if the delivery itself was pending
unfoldable pub deactivate_inflight : InterruptRecord → Bool → InterruptRecord
deactivate_inflight r p = with_redelivery false (with_pending (p || r.redelivery_pending || held r) (with_active false (with_inflight false r)))

-- `set_priority` (GICD_IPRIORITYRn)
unfoldable pub set_priority : InterruptRecord → Priority → InterruptRecord
set_priority r q = with_priority q r

-- `set_trigger` (GICD_ICFGRn)
unfoldable pub set_trigger : InterruptRecord → TriggerMode → InterruptRecord
set_trigger r t = with_trigger t r

-- `set_cpu_target_mask` (GICD_ITARGETSRn)
unfoldable pub set_cpu_target_mask : InterruptRecord → ℕ → InterruptRecord
set_cpu_target_mask r m = with_mask (Some m) r

-- who serves it, or nobody (in the Rust a delivery slot)
unfoldable pub set_owner : InterruptRecord → Option GicVcpuId → InterruptRecord
set_owner r o = with_owner o r

-- `set_level` (a device's line): an asserted line pends, and if it rises while the interrupt is served, that is noted; a line that falls takes back what a
-- level interrupt had pending, unless it is active
abbrev pub rises_in_service : InterruptRecord → Bool → Bool
rises_in_service r a = r.inflight && r.active && (a && not r.line_asserted)

abbrev pub falls_idle : InterruptRecord → Bool → Bool
falls_idle r a = not a && (is_level r.trigger && not r.active)

unfoldable pub set_level : InterruptRecord → Bool → InterruptRecord
set_level r a =
    with_redelivery (cond (rises_in_service r a) true (cond (falls_idle r a) false r.redelivery_pending))
    (with_pending (cond a true (cond (falls_idle r a) false r.pending))
    (with_line a r))

-- `pulse` (a device's edge): pending; noted for redelivery while in flight
unfoldable pub pulse : InterruptRecord → InterruptRecord
pulse r = with_redelivery (cond r.inflight true r.redelivery_pending) (with_pending true r)

-- `complete` (GICC_EOIR, GICC_DIR, where nothing is in flight): no longer active; pending if its line is held
unfoldable pub complete : InterruptRecord → InterruptRecord
complete r = with_pending (cond (held r) true r.pending) (with_active false r)

-- `deliverable`
unfoldable pub deliverable : InterruptRecord → Bool
deliverable r = r.enabled && r.pending

-- "enabled, pending, not active" (01, CPU interface places, Candidate)
abbrev pub is_ready : InterruptRecord → Bool
is_ready r = r.enabled && r.pending && not r.active
