-- `byte_in` meets its contract: `byte_read` of the reader over the image, at the place, and `Inside` has the walk.
use mathlib.Core.List.{[], ◌∷◌}
use mathlib.Core.Path.{refl}
use mir.Syntax.{w8}
use base.Logic.{emp}
use contract.Running.{tables, tables_of}
use denote.Triple.Spec.{triple_of}
use denote.Triple.Table.{entered}
use Rattle.walks.specs.Forms.{byte_at}
use Rattle.walks.specs.contracts.byte_in as f
use Rattle.walks.proofs.Scalar.{uints}
use Rattle.walks.proofs.Inside.{inside_meets}
use Rattle.walks.proofs.Readers.{readers, a_byte}
use Rattle.walks.proofs.byte_read.Symbol as g
use Rattle.walks.proofs.byte_read.Met as g_met
use Rattle.walks.proofs.byte_in.Statement as stated
use Rattle.walks.proofs.byte_in.Code as code

pub byte_in_spec : {M : Type 1} → stated.statement M
unfolding tables_of
byte_in_spec 𝓤 𝓛 𝓜 𝓡 wired =
    let 𝓣 = tables 𝓤 𝓛.H 𝓜 𝓡 𝓡.env in
    entered 𝓤 𝓛.H (triple_of 𝓛 f.signature (f.spec 𝓛 𝓜.mem 𝓡.returns)) 𝓣.C 𝓣.Λ f.Key.name code.function (code.unfolded 𝓤 𝓛.H 𝓜 𝓡 wired)
    (inside_meets readers (uints w8 ∷ []) a_byte 𝓛 (λ image at x. emp 𝓤) (λ image at x. byte_at image at x.0) (f.clauses 𝓛 𝓜.mem 𝓡.returns) refl (tables_of 𝓤 𝓛.H 𝓜 𝓣) g.name
    (g_met.met 𝓤 𝓛 𝓜 𝓡 (code.calls-walks::byte_read 𝓡.env wired)))
