-- What `set_pending` leaves of the pending bit, which is all that is known of it above. Assumes nothing.
use mathlib.Core.Path.{◌≡◌, refl}
use mathlib.Core.Bool.{Bool, true, false, cond, ◌&&◌}
use Rattle.interrupt.specs.declared.record.InterruptRecord.{InterruptRecord}
use Rattle.interrupt.specs.Record.{set_pending, held}

-- cleared it is as it stands where a line is held, and else not pending
pub left_cleared : (r : InterruptRecord) → (set_pending r false).pending ≡ (held r && r.pending)
unfolding set_pending
left_cleared r = go (held r)
  where
    go : (b : Bool) → cond b r.pending false ≡ (b && r.pending)
    go true = refl
    go false = refl

-- set or cleared where no line is held: so of an SGI
pub left_unheld : (r : InterruptRecord) → held r ≡ false → (p : Bool) → (set_pending r p).pending ≡ p
unfolding set_pending
left_unheld r low true = refl
left_unheld r low false = rw low refl
