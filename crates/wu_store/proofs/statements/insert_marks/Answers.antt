use Rattle.wu_schema.specs.Queue.{queue_table}
use Rattle.wu_schema.proofs.CallLemmas.{ok_on}
use Rattle.wu_store.proofs.QueueLemmas.{leaves_world, puts_marks}
use Rattle.wu_schema.proofs.OthersLemmas.{insert_spares, ours_queue}
use Rattle.wu_store.proofs.InsertTexts.{queue_fits, queue_put}
use Rattle.wu_store.proofs.statements.insert_marks.Goals as goal

pub returns : goal.returns
returns g c =
    let m = c.args.marks.now in
    record {
      writes = c.run_marks.ensures.writes;
      makes = λ clean. ok_on c.run_marks.result _ _ (λ it world marked s q. puts_marks _ _ world s marked q c.args.workunit m it.0 it.1) (c.run_marks.ensures.ran clean);
      keeps = λ clean. ok_on c.run_marks.result _ _ (λ it world marked s q. leaves_world _ _ world s marked q c.args.workunit m it.0 it.1) (c.run_marks.ensures.ran clean);
      spares = λ clean. ok_on c.run_marks.result _ _ (λ it. insert_spares queue_table.0 queue_table.1 queue_put queue_fits (λ tree. ours_queue) _ _ _ it.0 it.1) (c.run_marks.ensures.ran clean);
    }
