use Rattle.wu_schema.specs.Indexes.{mark_indexes, moment_indexes}
use Rattle.wu_schema.specs.Queue.{HasEmpty, MakesIndexes, MakesQueue, queue_table}
use Rattle.wu_schema.proofs.BreakLemmas.{empty_made}
use Rattle.wu_schema.proofs.CreateTexts.{queue_made}
use Rattle.wu_schema.proofs.QueueLemmas.{queue_is_made}
use Rattle.wu_schema.proofs.StepLemmas.{indexes_then, made_as, made_then, makes_one, stopped}
use Rattle.wu_schema.proofs.queue.make_queue.Goals as goal

pub returns-in_err-execute : goal.returns-in_err-execute
returns-in_err-execute g c =
    stopped MakesQueue (makes_one queue_made c.in_err-execute.ensures) c.from_residual.result c.from_residual.ensures.1

pub returns-in_err-create_mark_indexes : goal.returns-in_err-create_mark_indexes
returns-in_err-create_mark_indexes g c =
    let table = makes_one queue_made c.in_ok-execute.ensures in
    let one = c.in_err-create_mark_indexes.ensures in
    stopped MakesQueue (made_then (λ old mid made over. empty_made old mid queue_table made) table one) c.from_residual-in_err-create_mark_indexes.result c.from_residual-in_err-create_mark_indexes.ensures.1

pub returns : goal.returns
returns g c =
    let table = makes_one queue_made c.in_ok-execute.ensures in
    let one = c.in_ok-create_mark_indexes.ensures in
    let two = c.create_moment_indexes.ensures in
    made_as (λ old new it. queue_is_made old it.0 new it.1 it.2) (made_then (λ old mid made over. empty_made old mid queue_table made) table (indexes_then mark_indexes moment_indexes one two))
