use Rattle.wu_schema.proofs.Words.{[], ◌∷◌}
use Rattle.wu_schema.specs.Indexes.{mark_indexes, queue_assimilate, queue_delete, queue_validate}
use Rattle.wu_schema.specs.Queue.{MakesIndexes, queue_table}
use Rattle.wu_schema.proofs.CreateTexts.{assimilate_made, delete_made, validate_made}
use Rattle.wu_schema.proofs.StepLemmas.{indexes_one, indexes_then, stopped}
use Rattle.wu_schema.proofs.queue.create_mark_indexes.Goals as goal

pub returns-in_err-execute : goal.returns-in_err-execute
returns-in_err-execute g c =
    let one = indexes_one validate_made c.in_err-execute.ensures in
    stopped (MakesIndexes queue_table mark_indexes) one c.from_residual.result c.from_residual.ensures.1

pub returns-in_err-execute-2 : goal.returns-in_err-execute-2
returns-in_err-execute-2 g c =
    let one = indexes_one validate_made c.in_ok-execute.ensures in
    let two = indexes_one assimilate_made c.in_err-execute-2.ensures in
    stopped (MakesIndexes queue_table mark_indexes) (indexes_then (queue_validate ∷ []) (queue_assimilate ∷ []) one two) c.from_residual-in_err-execute-2.result c.from_residual-in_err-execute-2.ensures.1

pub returns : goal.returns
returns g c =
    let one = indexes_one validate_made c.in_ok-execute.ensures in
    let two = indexes_one assimilate_made c.in_ok-execute-2.ensures in
    let three = indexes_one delete_made c.execute-3.ensures in
    indexes_then (queue_validate ∷ queue_assimilate ∷ []) (queue_delete ∷ []) (indexes_then (queue_validate ∷ []) (queue_assimilate ∷ []) one two) three
