use Rattle.wu_schema.specs.Made.{MakesTables, class_tables}
use Rattle.wu_schema.proofs.CreateTexts.{host_class_made, workunit_class_made}
use Rattle.wu_schema.proofs.StepLemmas.{last_one, made_then, makes_one, stopped}
use Rattle.wu_schema.proofs.classes.create_classes.Goals as goal

pub returns-in_err-execute : goal.returns-in_err-execute
returns-in_err-execute g c =
    let one = makes_one host_class_made c.in_err-execute.ensures in
    stopped (MakesTables class_tables) one c.from_residual.result c.from_residual.ensures.1

pub returns : goal.returns
returns g c =
    let one = makes_one host_class_made c.in_ok-execute.ensures in
    let two = last_one (makes_one workunit_class_made c.execute-2.ensures) in
    made_then (λ old mid made over. tt) one two
