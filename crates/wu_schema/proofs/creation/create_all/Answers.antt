use Rattle.wu_schema.proofs.Words.{IsDatabase, ⊤}
use Rattle.wu_schema.specs.Made.{MakesEmpty}
use Rattle.wu_schema.specs.Fresh.{MakesProject}
use Rattle.wu_schema.specs.Queue.{MakesQueue}
use Rattle.wu_schema.proofs.QueueLemmas.{fresh_is_made}
use Rattle.wu_schema.proofs.StepLemmas.{made_as, made_then, stopped}
use Rattle.wu_schema.proofs.creation.create_all.Goals as goal

pub returns-in_err-create_empty : goal.returns-in_err-create_empty
returns-in_err-create_empty g c =
    let one = c.in_err-create_empty.ensures in
    stopped MakesProject one c.from_residual.result c.from_residual.ensures.1

pub returns : goal.returns
returns g c =
    let one = c.in_ok-create_empty.ensures in
    let two = c.make_queue.ensures in
    made_as (λ old new it. fresh_is_made old it.0 new it.1 it.2) (made_then (λ old mid made over. tt) one two)
