-- `with_mode` meets its contract: it stores what it is passed in field 2, and `Stores` has the walk.
use mathlib.Core.Path.{refl}
use contract.Running.{tables, tables_of}
use denote.Triple.Spec.{triple_of}
use denote.Triple.Table.{entered}
use Rattle.walks.specs.Forms.{in_mode}
use Rattle.walks.specs.contracts.Sample as T
use Rattle.walks.specs.contracts.with_mode as f
use Rattle.walks.proofs.Stores.{stores_meets}
use Rattle.walks.proofs.Sample.TheLaws as T'
use Rattle.walks.proofs.with_mode.Statement as stated
use Rattle.walks.proofs.with_mode.Code as code

pub with_mode_spec : {M : Type 1} → stated.statement M
unfolding tables_of in_mode
with_mode_spec 𝓤 𝓛 𝓜 𝓡 wired =
    let 𝓣 = tables 𝓤 𝓛.H 𝓜 𝓡 𝓡.env in
    entered 𝓤 𝓛.H (triple_of 𝓛 f.signature (f.spec 𝓛 𝓜.mem 𝓡.returns)) 𝓣.C 𝓣.Λ f.Key.name code.function (code.unfolded 𝓤 𝓛.H 𝓜 𝓡 wired)
    (stores_meets T.struct T.the_propositions 2 T'.the_laws refl refl 𝓛 refl refl in_mode (λ h x. refl) (f.clauses 𝓛 𝓜.mem 𝓡.returns) refl (tables_of 𝓤 𝓛.H 𝓜 𝓣))
