-- `state::words::put_record_at` meets its contract. Assumes nothing.
use mathlib.Core.Path.{sym, ◌∙◌}
use Rattle.state.proofs.Accessors.{record_private, record_spi, record_exists}
use Rattle.state.proofs.words.put_record_at.Goals as goal

pub put_spi_word-requires : goal.put_spi_word-requires
put_spi_word-requires c =
    let spi = record_spi c.args.vcpu.0 c.args.intid.0 (sym c.is_private.ensures ∙ c.if-is_private.false) in
    (record { state = c.requires.0.state; exists = rw spi at (record_exists c.args.shape c.args.vcpu.0 c.args.intid.0 c.requires.0.there) }, rw spi at c.requires.1)

pub returns-then-is_private : goal.returns-then-is_private
returns-then-is_private c =
    rw (c.encode-word.ensures, c.requires.1.at, record_private c.args.vcpu.0 c.args.intid.0 (sym c.is_private.ensures ∙ c.if-is_private.true))

pub returns-else-is_private : goal.returns-else-is_private
returns-else-is_private c =
    rw (record_spi c.args.vcpu.0 c.args.intid.0 (sym c.is_private.ensures ∙ c.if-is_private.false), ← c.encode-word.ensures) c.put_spi_word.ensures
