use Rattle.std.specs.Prelude.{take}
use Rattle.wu_sound_laws.specs.Laws.{HaveValues}
use Rattle.wu_sound_laws.proofs.laws.commands_have_values.Given as goal

abbrev pub invariant-loop-command : goal.invariant-loop-command
invariant-loop-command l = HaveValues (take l.command-index l.commands)
