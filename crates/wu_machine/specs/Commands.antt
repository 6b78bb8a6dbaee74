-- What a command asks of the machine, and which reply an answer means.
use Rattle.std.specs.Prelude.{[]}
use Rattle.wu_core.specs.declared.import.ImportKind.{ImportKind}
use Rattle.wu_rules.specs.declared.due.Pass.TheVariants as pass
use Rattle.wu_machine.specs.declared.command.Answer.{Answer}
use Rattle.wu_machine.specs.declared.command.Answer.TheVariants as answer
use Rattle.wu_machine.specs.declared.command.Batch.{Batch}
use Rattle.wu_machine.specs.declared.command.Command.{Command}
use Rattle.wu_machine.specs.declared.command.Command.TheVariants as command
use Rattle.wu_machine.specs.declared.command.RowsFile.{RowsFile}
use Rattle.wu_machine.specs.Imports.{Given, batch_given}
use Rattle.wu_machine.specs.Requests.{Request, AskBatch, AskCancel, AskClasses, AskPass, AskReported, AskSent, AskUpgrade, Reply, Cancelled, Imported, Passed, Upgraded}

-- What a batch is imported as, and what it asks of the machine.
abbrev pub batch_of : Batch → Given
batch_of batch = batch_given batch.name batch.template batch.file

abbrev pub request_of_batch : Batch → Request
request_of_batch batch = AskBatch batch.name batch.template batch.file

-- What a file of rows of this kind is imported as; it has no template.
abbrev pub file_of : ImportKind → RowsFile → Given
file_of kind file = record { kind = kind; name = file.name; template = []; content = file.file }

-- What a command asks of the machine; a pass without a moment asks at the first one.
abbrev pub request_of : Command → Request
request_of (command.Batch batch) = request_of_batch batch
request_of (command.Sent file) = AskSent file.name file.file
request_of (command.Reported file) = AskReported file.name file.file
request_of (command.Classes file) = AskClasses file.name file.file
request_of (command.Transition now limit) = AskPass pass.Transition now limit 0
request_of (command.Validate limit) = AskPass pass.Validate 0 limit 0
request_of (command.Assimilate now limit) = AskPass pass.Assimilate now limit 0
request_of (command.Delete limit) = AskPass pass.Delete 0 limit 0
request_of (command.Purge now limit min_age) = AskPass pass.Purge now limit min_age
request_of (command.Cancel workunit) = AskCancel workunit
request_of command.Upgrade = AskUpgrade

-- The reply that an answer means.
abbrev pub reply_of_answer : Answer → Reply
reply_of_answer (answer.Imported kind name first verdicts) = Imported kind name first verdicts
reply_of_answer (answer.Passed pass handled) = Passed pass handled
reply_of_answer (answer.Cancelled workunit) = Cancelled workunit
reply_of_answer (answer.Upgraded from to) = Upgraded from to
