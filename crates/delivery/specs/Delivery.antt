-- What Deactivate makes of a record: document 01, "CPU interface places", its three cases. The promise of DIR and EOIR says the same of the
-- words (`deactivated`); the laws here lead from one to the other.
use Rattle.std.specs.Prelude.{cond, ℕ}
use Rattle.interrupt.specs.Record.{complete}
use Rattle.interrupt.specs.declared.record.InterruptRecord.{InterruptRecord}
use Rattle.end.specs.End.{served_here, only_active, retire}

abbrev pub deactivate : ℕ → InterruptRecord → InterruptRecord
deactivate v r = cond (served_here v r) (retire r) (cond (only_active r) (complete r) r)
