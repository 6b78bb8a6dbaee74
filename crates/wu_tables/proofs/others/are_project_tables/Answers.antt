use Rattle.std.proofs.Common.{rules, ◌↔◌, IsTrue}
use Rattle.std.specs.List.{All}
use Rattle.sqlite_rules.specs.Lists.{Has}
use Rattle.sqlite_schema.specs.declared.schema.Table.{Table}
use Rattle.wu_schema.specs.Fresh.{project_names}
use Rattle.wu_tables.proofs.FoundLemmas.{all_listed, listed_all}
use Rattle.wu_tables.proofs.others.are_project_tables.Goals as goal

pub returns : goal.returns
returns c =
    let P : Table → Type 0 = λ x. Has project_names x.name in
    let all : IsTrue c.all.result ↔ All P c.args.tables.now = search rules in
    (λ h. all_listed P _ (all.0 h), λ each. all.1 (listed_all P _ each))
