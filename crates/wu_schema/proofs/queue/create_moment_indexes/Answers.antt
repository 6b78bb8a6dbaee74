use Rattle.wu_schema.proofs.Words.{[], ◌∷◌}
use Rattle.wu_schema.specs.Indexes.{moment_indexes, queue_purge, queue_wake}
use Rattle.wu_schema.specs.Queue.{MakesIndexes, queue_table}
use Rattle.wu_schema.proofs.CreateTexts.{purge_made, wake_made}
use Rattle.wu_schema.proofs.StepLemmas.{indexes_one, indexes_then, stopped}
use Rattle.wu_schema.proofs.queue.create_moment_indexes.Goals as goal

pub returns-in_err-execute : goal.returns-in_err-execute
returns-in_err-execute g c =
    let one = indexes_one wake_made c.in_err-execute.ensures in
    stopped (MakesIndexes queue_table moment_indexes) one c.from_residual.result c.from_residual.ensures.1

pub returns : goal.returns
returns g c =
    let one = indexes_one wake_made c.in_ok-execute.ensures in
    let two = indexes_one purge_made c.execute-2.ensures in
    indexes_then (queue_wake ∷ []) (queue_purge ∷ []) one two
