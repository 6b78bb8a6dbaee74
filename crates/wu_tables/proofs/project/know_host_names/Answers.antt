use Rattle.std.proofs.lemmas.Bool.{iff_false}
use Rattle.wu_schema.specs.declared.table.ProjectTable.TheVariants.{Host}
use Rattle.wu_tables.proofs.OrderLemmas.{all_before, first_in}
use Rattle.wu_tables.proofs.project.know_host_names.Goals as goal

pub returns-in_err-host-clause-told : goal.returns-in_err-host-clause-told
returns-in_err-host-clause-told c =
    let it = c.in_err-host in
    first_in c.args.version c.args.schema.now c.from_residual.result it.field-0.0 Host (all_before c.args.version c.args.schema.now c.requires Host) c.from_residual.ensures.1 it.ensures.told it.ensures.table

pub returns-then-are_by_bytes-clause-found : goal.returns-then-are_by_bytes-clause-found
returns-then-are_by_bytes-clause-found c = (c.in_ok-host.host, c.in_ok-host.ensures.found, c.are_by_bytes.ensures.0 c.if-are_by_bytes.true)

pub returns-else-are_by_bytes-clause-told : goal.returns-else-are_by_bytes-clause-told
returns-else-are_by_bytes-clause-told c =
    record { wrong = (c.in_ok-host.host, c.in_ok-host.ensures.found tt, iff_false c.are_by_bytes.ensures c.if-are_by_bytes.false); before = c.requires }
