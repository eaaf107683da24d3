-- `save::walking::put_private` meets its contract. Assumes nothing.
use mathlib.Core.Path.{sym, ◌∙◌}
use native.Mathlib.Omega.{arith}
use Rattle.save.proofs.Pieces.{number_fits, number_puts, fits_first, fits_next, puts_more}
use Rattle.save.proofs.walking.put_private.Goals as goal

pub put_two-requires : goal.put_two-requires
put_two-requires c =
    let found = c.record-found.ensures in
    let flags = c.flags_number-flags.ensures in
    (omega arith, omega arith, rw (flags.0, found) (fits_first _ _ c.requires.1))

pub put_number-requires : goal.put_number-requires
put_number-requires c =
    let found = c.record-found.ensures in
    let flags = c.flags_number-flags.ensures in
    let sgi = sym c.is_sgi.ensures ∙ c.if-is_sgi.true in
    let same = c.sgi_sources-sources.ensures in
    let first = rw (flags.0, found) at c.put_two.ensures in
    rw same (number_fits _ (omega arith) (fits_next _ _ (rw sgi at c.requires.1) first))

pub returns-then-is_sgi : goal.returns-then-is_sgi
returns-then-is_sgi c =
    let found = c.record-found.ensures in
    let flags = c.flags_number-flags.ensures in
    let sgi = sym c.is_sgi.ensures ∙ c.if-is_sgi.true in
    let same = c.sgi_sources-sources.ensures in
    let first = rw (flags.0, found) at c.put_two.ensures in
    rw sgi (puts_more _ _ first (number_puts _ (rw same at c.put_number.ensures)))
