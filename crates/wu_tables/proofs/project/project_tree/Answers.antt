use Rattle.std.proofs.Common.{rules, sym}
use Rattle.wu_tables.proofs.FoundLemmas.{named_same}
use Rattle.wu_tables.proofs.project.project_tree.Goals as goal

pub returns-in-Some-table_named-clause-told : goal.returns-in-Some-table_named-clause-told
returns-in-Some-table_named-clause-told c =
    let form = c.form_of-form.ensures in
    (search rules, search rules, λ tree has. c.in_default.ensures tree (named_same c.args.schema.now (sym form.name) (sym (form.table tree)) has))
