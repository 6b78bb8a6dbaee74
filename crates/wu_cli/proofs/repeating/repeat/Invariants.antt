use Rattle.std.proofs.Common.{ℕ}
use Rattle.wu_cli.proofs.RepeatLemmas.{HasRounds}
use Rattle.wu_cli.proofs.repeating.repeat.Given as goal

abbrev pub invariant-each : goal.invariant-each
invariant-each g l = (number : ℕ) → HasRounds g.W.Write.contents l.initial.project l.project l.initial.out l.out number l.action l.counter
