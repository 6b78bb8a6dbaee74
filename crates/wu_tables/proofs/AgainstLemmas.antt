-- What stands against one table stands against all that the version has.
use Rattle.std.proofs.Common.{codes, ℕ, IfErr, Result, Ok, Err, refl, subst}
use Rattle.sqlite.specs.Schema.{Schema}
use Rattle.wu_schema.specs.Tables.{host_at}
use Rattle.wu_schema.specs.ProjectTables.{HasTables, ProjectTrees}
use Rattle.wu_schema.specs.declared.table.ProjectTable.TheVariants as the_table
use Rattle.wu_tables.specs.Found.{AreByBytes, IsMisfitOf}
use Rattle.wu_tables.specs.declared.project.Misfit.{Misfit}
use Rattle.wu_tables.specs.declared.project.Misfit.TheVariants.{Altered, HostNames, Missing}
use Rattle.wu_tables.proofs.FoundLemmas.{tree_once}

pub against_tables : (version : ℕ) (schema : Schema) (misfit : Misfit) → IsMisfitOf version schema misfit → (trees : ProjectTrees) → HasTables version schema trees → ⊥
against_tables version schema (Missing which) against trees has = let part = has.each which against.0 in let named = part.1.named in let none = against.1 in cc
against_tables version schema (Altered which) against trees has = against.2 (trees which) (has.each which against.0)
against_tables version schema HostNames against trees has =
    against.2 (subst (AreByBytes schema) (tree_once schema (codes "host") host_at (λ _. refl) (trees the_table.Host) against.0 (has.each the_table.Host tt) against.1) has.by_bytes)

-- a misfit that is handed on stands against all tables
pub handed_against : {T : Type 0} (version : ℕ) (schema : Schema) (r : Result T Misfit) (misfit : Misfit) → IsMisfitOf version schema misfit → IfErr r (λ _. (trees : ProjectTrees) → HasTables version schema trees → ⊥)
handed_against version schema (Ok x) misfit against = tt
handed_against version schema (Err other) misfit against = against_tables version schema misfit against
