use Rattle.wu_machine.specs.Commands.{request_of}
use Rattle.wu_machine.proofs.laws.commands_keep_projects.Goals as goal

pub returns : goal.returns
returns c = c.requests_keep_projects.ensures (request_of c.args.command.now) c.has_values.ensures
