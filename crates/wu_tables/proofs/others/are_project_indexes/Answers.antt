use Rattle.std.proofs.Common.{rules, ◌↔◌, IsTrue}
use Rattle.std.specs.List.{All}
use Rattle.sqlite_schema.specs.declared.schema.Index.{Index}
use Rattle.wu_tables.specs.Others.{IsIndexName}
use Rattle.wu_tables.proofs.FoundLemmas.{all_listed, listed_all}
use Rattle.wu_tables.proofs.others.are_project_indexes.Goals as goal

pub returns : goal.returns
returns c =
    let P : Index → Type 0 = λ x. IsIndexName x.name in
    let all : IsTrue c.all.result ↔ All P c.args.indexes.now = search rules in
    (λ h. all_listed P _ (all.0 h), λ each. all.1 (listed_all P _ each))
