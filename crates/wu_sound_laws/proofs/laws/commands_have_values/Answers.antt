use Rattle.std.proofs.Common.{subst, rules}
use Rattle.std.proofs.lemmas.List.{take_all}
use Rattle.std.proofs.lemmas.List.Elements.{All-more}
use Rattle.wu_machine.specs.declared.command.Command.{Command}
use Rattle.wu_machine.specs.Machine.{HasValues}
use Rattle.wu_machine.specs.Commands.{request_of}
use Rattle.wu_sound_laws.specs.Laws.{HaveValues}
use Rattle.wu_sound_laws.proofs.laws.commands_have_values.Goals as goal

pub loop-command-preserved : goal.loop-command-preserved
loop-command-preserved c =
    All-more (λ (command : Command). HasValues (request_of command)) c.args.commands.now c.loop-command.command-index c.command-item.result
    (search rules) c.loop-command.invariant (search rules)

pub returns : goal.returns
returns c = subst HaveValues (take_all c.loop-command.command-index c.args.commands.now (search rules)) c.loop-command.invariant
