use Rattle.wu_schema.specs.Made.{MakesTables, work_tables}
use Rattle.wu_schema.proofs.CreateTexts.{project_made, result_made, workunit_made}
use Rattle.wu_schema.proofs.StepLemmas.{last_one, made_then, makes_one, stopped}
use Rattle.wu_schema.proofs.creation.create_work.Goals as goal

pub returns-in_err-execute : goal.returns-in_err-execute
returns-in_err-execute g c =
    let one = makes_one project_made c.in_err-execute.ensures in
    stopped (MakesTables work_tables) one c.from_residual.result c.from_residual.ensures.1

pub returns-in_err-execute-2 : goal.returns-in_err-execute-2
returns-in_err-execute-2 g c =
    let one = makes_one project_made c.in_ok-execute.ensures in
    let two = makes_one workunit_made c.in_err-execute-2.ensures in
    stopped (MakesTables work_tables) (made_then (λ old mid made over. tt) one two) c.from_residual-in_err-execute-2.result c.from_residual-in_err-execute-2.ensures.1

pub returns : goal.returns
returns g c =
    let one = makes_one project_made c.in_ok-execute.ensures in
    let two = makes_one workunit_made c.in_ok-execute-2.ensures in
    let three = last_one (makes_one result_made c.execute-3.ensures) in
    made_then (λ old mid made over. tt) one (made_then (λ old mid made over. tt) two three)
