-- An input wakes those alone whom its record is for. Assumes nothing.
use mathlib.Core.Path.{◌≡◌, refl}
use mathlib.Core.List.{List}
use Prim.Native.Nat.{ℕ}
use Rattle.interrupt.specs.declared.record.InterruptRecord.{InterruptRecord}
use Rattle.interrupt.specs.Record.{set_level, pulse}
use Rattle.word.specs.Word.{InRange}
use Rattle.state.specs.declared.layout.Shape.{Shape}
use Rattle.state.specs.Words.{RecordThere, changed}
use Rattle.targets.specs.Targets.{read_target}
use Rattle.service.specs.Service.{Sound}
use Rattle.wake.specs.Halves.{quiet_among, wake_from}
use Rattle.wake.specs.Wake.{wake_set}
use Rattle.wake.proofs.Seen.{one_record_wakes}
use Rattle.wake.proofs.WakeSets.{wake_among}
use Rattle.input.specs.declared.Signal.{Signal}
use Rattle.input.specs.declared.Signal.TheVariants.{Level, Edge}
use Rattle.input.specs.Input.{signalled}

-- a signal leaves the mask, and the ranges
mask_stays : (signal : Signal) (r : InterruptRecord) → (signalled signal r).cpu_target_mask ≡ r.cpu_target_mask
unfolding set_level pulse
mask_stays (Level asserted) r = refl
mask_stays Edge r = refl

in_range_stays : (signal : Signal) (r : InterruptRecord) → InRange r → InRange (signalled signal r)
unfolding set_level pulse
in_range_stays (Level asserted) r i = record { priority_byte = i.priority_byte; mask_byte_lem = i.mask_byte_lem; owner_byte_lem = i.owner_byte_lem }
in_range_stays Edge r i = record { priority_byte = i.priority_byte; mask_byte_lem = i.mask_byte_lem; owner_byte_lem = i.owner_byte_lem }

pub signal_wakes : (shape : Shape) (v n : ℕ) (signal : Signal) (s : List ℕ) → Sound shape s → RecordThere shape v n
    → wake_from (quiet_among (read_target shape v s n) shape s) shape (changed shape v n (signalled signal) s) ≡ wake_set shape s (changed shape v n (signalled signal) s)
signal_wakes shape v n signal s h there =
    wake_among shape (read_target shape v s n) s (changed shape v n (signalled signal) s) (one_record_wakes shape v n (signalled signal) s h there (in_range_stays signal) (mask_stays signal))
