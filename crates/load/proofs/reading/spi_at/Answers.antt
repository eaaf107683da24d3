-- `load::reading::spi_at` meets its contract. Assumes nothing.
use mathlib.Core.Path.{sym, ◌∙◌}
use borrow.Author.Tests.{not-true, not-false}
use Rattle.load.proofs.Spis.{spi_no_owner, spi_no_mask, spi_read}
use Rattle.std.proofs.lemmas.Bool.{not_from_true, not_from_false}
use Rattle.load.proofs.reading.spi_at.Goals as goal

pub returns-in_err-owner : goal.returns-in_err-owner
returns-in_err-owner c n high =
    let a = c.args in
    c.from_residual-in_err-owner.ensures ∙ sym (spi_no_owner a.shape n high a.image.now a.at _ _ _ _ (sym c.flags_at.ensures ∙ c.in_ok-flags.was) (sym c.number_up_to.ensures ∙ c.in_ok-priority.was) (sym c.read.ensures ∙ c.in_err-owner.was))

pub returns-in_err-mask : goal.returns-in_err-mask
returns-in_err-mask c n high =
    let a = c.args in
    c.from_residual-in_err-mask.ensures ∙ sym (spi_no_mask a.shape n high a.image.now a.at _ _ _ _ (sym c.flags_at.ensures ∙ c.in_ok-flags.was) (sym c.number_up_to.ensures ∙ c.in_ok-priority.was) _ _ (sym c.read.ensures ∙ c.in_ok-owner.was) (sym c.number_up_to-2.ensures ∙ c.in_err-mask.was))

pub returns-then-not-spi_lawful : goal.returns-then-not-spi_lawful
returns-then-not-spi_lawful c n high =
    let a = c.args in
    let read = spi_read a.shape n high a.image.now a.at _ _ _ _ (sym c.flags_at.ensures ∙ c.in_ok-flags.was) (sym c.number_up_to.ensures ∙ c.in_ok-priority.was) _ _ (sym c.read.ensures ∙ c.in_ok-owner.was) _ _ c.requires.few_vcpus (sym c.number_up_to-2.ensures ∙ c.in_ok-mask.was) in
    sym (read ∙ simp (sym c.spi_lawful.ensures ∙ not-true c.spi_lawful.result (not_from_false _ c.if-not-spi_lawful.true)))

pub returns : goal.returns
returns c n high =
    let a = c.args in
    let read = spi_read a.shape n high a.image.now a.at _ _ _ _ (sym c.flags_at.ensures ∙ c.in_ok-flags.was) (sym c.number_up_to.ensures ∙ c.in_ok-priority.was) _ _ (sym c.read.ensures ∙ c.in_ok-owner.was) _ _ c.requires.few_vcpus (sym c.number_up_to-2.ensures ∙ c.in_ok-mask.was) in
    sym (read ∙ simp (sym c.spi_lawful.ensures ∙ not-false c.spi_lawful.result (not_from_true _ c.if-not-spi_lawful.false), c.record_from-record.ensures, c.mask_from.ensures, c.owner_of-server.ensures))
