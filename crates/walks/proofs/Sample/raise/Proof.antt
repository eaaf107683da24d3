-- `Sample::raise` meets its contract: it is `*self = (*self).raised(level, is_up)`, and `Thin` has the walk.
use mathlib.Core.List.{[], ◌∷◌}
use mathlib.Core.Path.{refl}
use mir.Syntax.{w8}
use contract.Running.{tables, tables_of}
use denote.Triple.Spec.{triple_of}
use denote.Triple.Table.{entered}
use Rattle.walks.specs.Forms.{raised}
use Rattle.walks.specs.contracts.Sample as T
use Rattle.walks.specs.contracts.Sample.raise as f
use Rattle.walks.proofs.Scalar.{bools, uints}
use Rattle.walks.proofs.Thin.{thin_meets}
use Rattle.walks.proofs.Sample.TheLaws as T'
use Rattle.walks.proofs.Sample.raised.Symbol as g
use Rattle.walks.proofs.Sample.raised.Met as g_met
use Rattle.walks.proofs.Sample.raise.Statement as stated
use Rattle.walks.proofs.Sample.raise.Code as code

pub raise_spec : {M : Type 1} → stated.statement M
unfolding tables_of
raise_spec 𝓤 𝓛 𝓜 𝓡 wired =
    let 𝓣 = tables 𝓤 𝓛.H 𝓜 𝓡 𝓡.env in
    entered 𝓤 𝓛.H (triple_of 𝓛 f.signature (f.spec 𝓛 𝓜.mem 𝓡.returns)) 𝓣.C 𝓣.Λ f.Key.name code.function (code.unfolded 𝓤 𝓛.H 𝓜 𝓡 wired)
    (thin_meets T.the_type (uints w8 ∷ bools ∷ []) T'.the_laws 𝓛 (λ r x. raised r x.0 x.1.0) (f.clauses 𝓛 𝓜.mem 𝓡.returns) refl (tables_of 𝓤 𝓛.H 𝓜 𝓣) g.name
    (g_met.met 𝓤 𝓛 𝓜 𝓡 (code.calls-walks::Sample::raised 𝓡.env wired)))
