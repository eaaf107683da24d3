-- `after_raise` meets its contract: it lends its struct to `Sample::raise`, and `Lends` has the walk.
use mathlib.Core.List.{[], ◌∷◌}
use mathlib.Core.Path.{refl}
use mir.Syntax.{w8}
use contract.Running.{tables, tables_of}
use denote.Triple.Spec.{triple_of}
use denote.Triple.Table.{entered}
use Rattle.walks.specs.Forms.{raised}
use Rattle.walks.specs.contracts.Sample as T
use Rattle.walks.specs.contracts.after_raise as f
use Rattle.walks.proofs.Scalar.{bools, uints}
use Rattle.walks.proofs.Lends.{lends_meets}
use Rattle.walks.proofs.Sample.TheLaws as T'
use Rattle.walks.proofs.Sample.raise.Symbol as g
use Rattle.walks.proofs.Sample.raise.Met as g_met
use Rattle.walks.proofs.after_raise.Statement as stated
use Rattle.walks.proofs.after_raise.Code as code

pub after_raise_spec : {M : Type 1} → stated.statement M
unfolding tables_of
after_raise_spec 𝓤 𝓛 𝓜 𝓡 wired =
    let 𝓣 = tables 𝓤 𝓛.H 𝓜 𝓡 𝓡.env in
    entered 𝓤 𝓛.H (triple_of 𝓛 f.signature (f.spec 𝓛 𝓜.mem 𝓡.returns)) 𝓣.C 𝓣.Λ f.Key.name code.function (code.unfolded 𝓤 𝓛.H 𝓜 𝓡 wired)
    (lends_meets T.the_type (uints w8 ∷ bools ∷ []) T'.the_laws refl 𝓛 (λ r x. raised r x.0 x.1.0) (f.clauses 𝓛 𝓜.mem 𝓡.returns) refl (tables_of 𝓤 𝓛.H 𝓜 𝓣) g.name
    (g_met.met 𝓤 𝓛 𝓜 𝓡 (code.calls-walks::Sample::raise 𝓡.env wired)))
