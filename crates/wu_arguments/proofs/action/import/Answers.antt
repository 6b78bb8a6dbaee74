use Rattle.std.proofs.Common.{rules}
use Rattle.wu_machine.specs.declared.command.Command.TheVariants as command
use Rattle.wu_arguments.specs.Actions.{bytes_of, rows_file}
use Rattle.wu_arguments.proofs.ActionLemmas.{made, not_made}
use Rattle.wu_arguments.proofs.action.import.Goals as goal

pub returns-in-Batch : goal.returns-in-Batch
returns-in-Batch c = rw c.in-Batch.is (record { action = c.batch.ensures.action; told = c.batch.ensures.told })

pub returns-in_ok-rows_file-in-Sent : goal.returns-in_ok-rows_file-in-Sent
returns-in_ok-rows_file-in-Sent c =
    rw c.in-Sent.is (made command.Sent _ (rows_file c.args.name.now (bytes_of c.args.contents.items)) _ c.in_ok-rows_file-in-Sent.ensures.file c.one.ensures)

pub returns-in_err-rows_file-in-Sent : goal.returns-in_err-rows_file-in-Sent
returns-in_err-rows_file-in-Sent c =
    rw c.in-Sent.is
    (not_made command.Sent _ (rows_file c.args.name.now (bytes_of c.args.contents.items)) _ (search rules)
    c.in_err-rows_file-in-Sent.ensures.file c.in_err-rows_file-in-Sent.ensures.told)

pub returns-in_ok-rows_file-in-Reported : goal.returns-in_ok-rows_file-in-Reported
returns-in_ok-rows_file-in-Reported c =
    rw c.in-Reported.is (made command.Reported _ (rows_file c.args.name.now (bytes_of c.args.contents.items)) _ c.in_ok-rows_file-in-Reported.ensures.file c.one-in-Reported.ensures)

pub returns-in_err-rows_file-in-Reported : goal.returns-in_err-rows_file-in-Reported
returns-in_err-rows_file-in-Reported c =
    rw c.in-Reported.is
    (not_made command.Reported _ (rows_file c.args.name.now (bytes_of c.args.contents.items)) _ (search rules)
    c.in_err-rows_file-in-Reported.ensures.file c.in_err-rows_file-in-Reported.ensures.told)

pub returns-in_ok-rows_file-in-Classes : goal.returns-in_ok-rows_file-in-Classes
returns-in_ok-rows_file-in-Classes c =
    rw c.in-Classes.is (made command.Classes _ (rows_file c.args.name.now (bytes_of c.args.contents.items)) _ c.in_ok-rows_file-in-Classes.ensures.file c.one-in-Classes.ensures)

pub returns-in_err-rows_file-in-Classes : goal.returns-in_err-rows_file-in-Classes
returns-in_err-rows_file-in-Classes c =
    rw c.in-Classes.is
    (not_made command.Classes _ (rows_file c.args.name.now (bytes_of c.args.contents.items)) _ (search rules)
    c.in_err-rows_file-in-Classes.ensures.file c.in_err-rows_file-in-Classes.ensures.told)
