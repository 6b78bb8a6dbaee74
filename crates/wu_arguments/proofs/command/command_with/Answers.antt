use Rattle.wu_arguments.proofs.TableLemmas.{subcommands_added}
use Rattle.wu_arguments.proofs.command.command_with.Goals as goal

pub returns : goal.returns
returns c =
    subcommands_added c.args.which.now c.in_ok-subcommands.subcommands.items c.bare_command.result c.subcommands-2.result
    c.in_ok-subcommands.ensures c.bare_command.ensures c.subcommands-2.ensures
