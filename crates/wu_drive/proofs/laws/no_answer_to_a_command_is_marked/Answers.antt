use Rattle.std.proofs.Common.{IfOk, Ok, Err, Result}
use Rattle.wu_core.specs.declared.fault.Fault.{Fault}
use Rattle.wu_machine.specs.Commands.{request_of}
use Rattle.wu_machine.specs.Machine.{reply}
use Rattle.wu_machine.specs.Requests.{Reply}
use Rattle.wu_drive.proofs.laws.no_answer_to_a_command_is_marked.Goals as goal

-- what holds of an answer's name gives what holds of its text
if_ok : (P Q : Reply → Type 0) → ((answer : Reply) → P answer → Q answer) → (told : Result Reply Fault) → IfOk told P → IfOk told Q
if_ok P Q gives (Ok answer) is = gives answer is
if_ok P Q gives (Err fault) is = tt

pub returns : goal.returns
returns c world project =
    let law = c.no_answer_line_is_marked.ensures in
    if_ok _ _ law.text (reply world (request_of c.args.command.now)) (law.names world (request_of c.args.command.now) c.has_values.ensures project)
