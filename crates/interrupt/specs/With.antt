-- A record with one field new, and all else as it was: what the transitions of Record.antt are written with. There is no shorter way to say it
-- than field by field.
use Rattle.std.specs.Prelude.{Bool, ℕ, Option}
use Rattle.interrupt.specs.declared.types.Priority.{Priority}
use Rattle.interrupt.specs.declared.types.TriggerMode.{TriggerMode}
use Rattle.interrupt.specs.declared.record.InterruptRecord.{InterruptRecord}
use Rattle.interrupt.specs.declared.types.GicVcpuId.{GicVcpuId}

abbrev pub with_enabled : Bool → InterruptRecord → InterruptRecord
with_enabled x r = record {
  enabled = x;
  pending = r.pending;
  active = r.active;
  inflight = r.inflight;
  redelivery_pending = r.redelivery_pending;
  line_asserted = r.line_asserted;
  priority = r.priority;
  trigger = r.trigger;
  cpu_target_mask = r.cpu_target_mask;
  owner = r.owner;
}

abbrev pub with_pending : Bool → InterruptRecord → InterruptRecord
with_pending x r = record {
  enabled = r.enabled;
  pending = x;
  active = r.active;
  inflight = r.inflight;
  redelivery_pending = r.redelivery_pending;
  line_asserted = r.line_asserted;
  priority = r.priority;
  trigger = r.trigger;
  cpu_target_mask = r.cpu_target_mask;
  owner = r.owner;
}

abbrev pub with_active : Bool → InterruptRecord → InterruptRecord
with_active x r = record {
  enabled = r.enabled;
  pending = r.pending;
  active = x;
  inflight = r.inflight;
  redelivery_pending = r.redelivery_pending;
  line_asserted = r.line_asserted;
  priority = r.priority;
  trigger = r.trigger;
  cpu_target_mask = r.cpu_target_mask;
  owner = r.owner;
}

abbrev pub with_inflight : Bool → InterruptRecord → InterruptRecord
with_inflight x r = record {
  enabled = r.enabled;
  pending = r.pending;
  active = r.active;
  inflight = x;
  redelivery_pending = r.redelivery_pending;
  line_asserted = r.line_asserted;
  priority = r.priority;
  trigger = r.trigger;
  cpu_target_mask = r.cpu_target_mask;
  owner = r.owner;
}

abbrev pub with_redelivery : Bool → InterruptRecord → InterruptRecord
with_redelivery x r = record {
  enabled = r.enabled;
  pending = r.pending;
  active = r.active;
  inflight = r.inflight;
  redelivery_pending = x;
  line_asserted = r.line_asserted;
  priority = r.priority;
  trigger = r.trigger;
  cpu_target_mask = r.cpu_target_mask;
  owner = r.owner;
}

abbrev pub with_line : Bool → InterruptRecord → InterruptRecord
with_line x r = record {
  enabled = r.enabled;
  pending = r.pending;
  active = r.active;
  inflight = r.inflight;
  redelivery_pending = r.redelivery_pending;
  line_asserted = x;
  priority = r.priority;
  trigger = r.trigger;
  cpu_target_mask = r.cpu_target_mask;
  owner = r.owner;
}

abbrev pub with_priority : Priority → InterruptRecord → InterruptRecord
with_priority x r = record {
  enabled = r.enabled;
  pending = r.pending;
  active = r.active;
  inflight = r.inflight;
  redelivery_pending = r.redelivery_pending;
  line_asserted = r.line_asserted;
  priority = x;
  trigger = r.trigger;
  cpu_target_mask = r.cpu_target_mask;
  owner = r.owner;
}

abbrev pub with_trigger : TriggerMode → InterruptRecord → InterruptRecord
with_trigger x r = record {
  enabled = r.enabled;
  pending = r.pending;
  active = r.active;
  inflight = r.inflight;
  redelivery_pending = r.redelivery_pending;
  line_asserted = r.line_asserted;
  priority = r.priority;
  trigger = x;
  cpu_target_mask = r.cpu_target_mask;
  owner = r.owner;
}

abbrev pub with_mask : Option ℕ → InterruptRecord → InterruptRecord
with_mask x r = record {
  enabled = r.enabled;
  pending = r.pending;
  active = r.active;
  inflight = r.inflight;
  redelivery_pending = r.redelivery_pending;
  line_asserted = r.line_asserted;
  priority = r.priority;
  trigger = r.trigger;
  cpu_target_mask = x;
  owner = r.owner;
}

abbrev pub with_owner : Option GicVcpuId → InterruptRecord → InterruptRecord
with_owner x r = record {
  enabled = r.enabled;
  pending = r.pending;
  active = r.active;
  inflight = r.inflight;
  redelivery_pending = r.redelivery_pending;
  line_asserted = r.line_asserted;
  priority = r.priority;
  trigger = r.trigger;
  cpu_target_mask = r.cpu_target_mask;
  owner = x;
}
