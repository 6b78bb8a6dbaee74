use Rattle.wu_schema.specs.Made.{MakesTables, record_tables}
use Rattle.wu_schema.proofs.CreateTexts.{archived_made, grant_made, host_made, import_made}
use Rattle.wu_schema.proofs.StepLemmas.{last_one, made_then, makes_one, stopped}
use Rattle.wu_schema.proofs.creation.create_records.Goals as goal

pub returns-in_err-execute : goal.returns-in_err-execute
returns-in_err-execute g c =
    let one = makes_one grant_made c.in_err-execute.ensures in
    stopped (MakesTables record_tables) one c.from_residual.result c.from_residual.ensures.1

pub returns-in_err-execute-2 : goal.returns-in_err-execute-2
returns-in_err-execute-2 g c =
    let one = makes_one grant_made c.in_ok-execute.ensures in
    let two = makes_one host_made c.in_err-execute-2.ensures in
    stopped (MakesTables record_tables) (made_then (λ old mid made over. tt) one two) c.from_residual-in_err-execute-2.result c.from_residual-in_err-execute-2.ensures.1

pub returns-in_err-execute-3 : goal.returns-in_err-execute-3
returns-in_err-execute-3 g c =
    let one = makes_one grant_made c.in_ok-execute.ensures in
    let two = makes_one host_made c.in_ok-execute-2.ensures in
    let three = makes_one archived_made c.in_err-execute-3.ensures in
    stopped (MakesTables record_tables) (made_then (λ old mid made over. tt) one (made_then (λ old mid made over. tt) two three)) c.from_residual-in_err-execute-3.result c.from_residual-in_err-execute-3.ensures.1

pub returns : goal.returns
returns g c =
    let one = makes_one grant_made c.in_ok-execute.ensures in
    let two = makes_one host_made c.in_ok-execute-2.ensures in
    let three = makes_one archived_made c.in_ok-execute-3.ensures in
    let four = last_one (makes_one import_made c.execute-4.ensures) in
    made_then (λ old mid made over. tt) one (made_then (λ old mid made over. tt) two (made_then (λ old mid made over. tt) three four))
