use Rattle.std.proofs.lemmas.Result.{IfErr-weaker}
use Rattle.wu_tables.proofs.AgainstLemmas.{against_tables, handed_against}
use Rattle.wu_tables.proofs.OrderLemmas.{tables_found}
use Rattle.wu_tables.proofs.project.know_tables.Goals as goal

pub returns-clause-found : goal.returns-clause-found
returns-clause-found c = tables_found c.args.version c.args.schema.now c.know_host_names.result c.in_ok-know_each.ensures.there c.know_host_names.ensures.found

pub returns-clause-missing : goal.returns-clause-missing
returns-clause-missing c = IfErr-weaker c.know_host_names.result _ _ (λ misfit first. against_tables c.args.version c.args.schema.now misfit first.wrong) c.know_host_names.ensures.told

pub returns-in_err-know_each-clause-missing : goal.returns-in_err-know_each-clause-missing
returns-in_err-know_each-clause-missing c =
    handed_against c.args.version c.args.schema.now c.from_residual.result c.in_err-know_each.field-0.0 c.in_err-know_each.ensures.told.wrong
