-- `acknowledge::sgi_source` meets its contract. Assumes nothing.
use mathlib.Core.Path.{sym, ◌∙◌}
use Prim.Native.Nat.{◌<◌}
use native.Mathlib.Omega.{arith}
use borrow.Author.Tests.{ltb-true}
use Rattle.acknowledge.specs.Acknowledge.{source_of}
use borrow.Author.Rules.{rules}
use Rattle.acknowledge.proofs.sgi_source.Goals as goal

pub sgi_sources-requires : goal.sgi_sources-requires
sgi_sources-requires c =
    let sgi : c.args.intid.0 < 16 = ltb-true _ _ (sym c.is_sgi.ensures ∙ c.if-is_sgi.true) in
    record { state = search rules; exists = (c.requires.there.banked (omega arith), sgi) }

pub returns-then-is_sgi : goal.returns-then-is_sgi
unfolding source_of
returns-then-is_sgi c = (simp (sym c.is_sgi.ensures ∙ c.if-is_sgi.true, c.lowest_source.ensures.0, c.sgi_sources.ensures), c.lowest_source.ensures.1)

pub returns-else-is_sgi : goal.returns-else-is_sgi
unfolding source_of
returns-else-is_sgi c = (simp (sym c.is_sgi.ensures ∙ c.if-is_sgi.false), omega arith)
