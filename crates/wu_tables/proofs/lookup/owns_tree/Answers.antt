use Rattle.std.proofs.Common.{rules, ◌≡◌, ◌↔◌, IsTrue}
use Rattle.std.specs.List.{All}
use Rattle.sqlite.specs.Table.{Table}
use Rattle.wu_tables.specs.Forms.{table_of_form}
use Rattle.wu_tables.proofs.FoundLemmas.{all_listed, listed_all}
use Rattle.wu_tables.proofs.lookup.owns_tree.Goals as goal

pub returns : goal.returns
returns c =
    let P : Table → Type 0 = λ t. t.tree ≡ c.args.tree → t ≡ table_of_form c.args.form.now c.args.tree in
    let all : IsTrue c.all.result ↔ All P c.args.schema.now.tables = search rules in
    (λ h. all_listed P _ (all.0 h), λ owns. all.1 (listed_all P _ owns))
