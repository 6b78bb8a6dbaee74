use Rattle.std.proofs.Common.{take, None}
use Rattle.wu_cli.specs.Scripting.{PerformsScript}
use Rattle.wu_cli.proofs.performing.perform_script.Given as goal

abbrev pub invariant-loop-step : goal.invariant-loop-step
invariant-loop-step g l = PerformsScript g.W.Write.contents l.initial.project l.project l.initial.out l.out (take l.step-index l.steps) None
