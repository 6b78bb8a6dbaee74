use Rattle.std.proofs.Common.{ℕ, List, Result}
use Rattle.wu_arguments.specs.declared.refusal.Refusal.{Refusal}
use Rattle.wu_cli.specs.Hearing.{Hears}
use Rattle.wu_cli.specs.Sessions.{AnswersEach}
use Rattle.wu_cli.proofs.session.serve.Given as goal

abbrev pub invariant-loop : goal.invariant-loop
invariant-loop g l = (heard : List (Result (List ℕ) Refusal))
    × AnswersEach g.W.Write.contents (g.F.ReadFile.gives l.files) (g.F.MakeExport.exports l.files) l.db l.initial.project l.project l.initial.out l.out heard
    × Hears (g.R.Read.remaining l.initial.input) (g.R.Read.remaining l.input) heard
