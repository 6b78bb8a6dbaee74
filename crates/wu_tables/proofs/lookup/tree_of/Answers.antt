use Rattle.std.proofs.Common.{rules, ◌≡◌, Some, slice_get, ap, ◌∙◌}
use Rattle.sqlite_schema.specs.Names.{table_named}
use Rattle.wu_tables.specs.Forms.{table_of_form}
use Rattle.wu_tables.specs.Found.{Stands}
use Rattle.wu_tables.proofs.FoundLemmas.{named_from}
use Rattle.wu_tables.proofs.lookup.tree_of.Goals as goal

pub returns-then-stands : goal.returns-then-stands
returns-then-stands c =
    let schema = c.args.schema.now in
    let table = c.in_ok-table.table.now in
    let stands : Stands schema table c.args.form.now = search rules in
    let named : table_named schema c.args.form.now.name.now ≡ Some c.in_ok-at.at = search rules in
    let got : slice_get schema.tables c.in_ok-at.at ≡ Some table = search rules in
    let there : slice_get schema.tables c.in_ok-at.at ≡ Some (table_of_form c.args.form.now table.tree) = got ∙ ap Some stands.like in
    named_from schema c.args.form.now.name.now c.in_ok-at.at (table_of_form c.args.form.now table.tree) named there stands.low stands.owns
