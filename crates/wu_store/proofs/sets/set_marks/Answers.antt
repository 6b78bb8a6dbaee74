use Rattle.wu_schema.proofs.Words.{refl}
use Rattle.wu_schema.specs.Queue.{queue_table}
use Rattle.wu_schema.proofs.CallLemmas.{ok_on}
use Rattle.wu_schema.proofs.OthersLemmas.{ours_queue}
use Rattle.wu_store.proofs.SetLemmas.{marks_set, marks_set_fits, sets_beside, sets_marks}
use Rattle.wu_store.proofs.SpareLemmas.{set_spares}
use Rattle.wu_store.proofs.sets.set_marks.Goals as goal

pub returns : goal.returns
returns g c =
    let m = c.args.marks.now in
    record {
      writes = c.run_marks.ensures.writes;
      makes = λ clean. ok_on c.run_marks.result _ _ (λ it world marked s q. sets_marks _ _ world s marked q c.args.workunit m it.0 it.1) (c.run_marks.ensures.ran clean);
      keeps = λ clean. ok_on c.run_marks.result _ _ (λ it world marked s q. sets_beside _ _ world s marked q c.args.workunit m it.0 it.1) (c.run_marks.ensures.ran clean);
      spares = λ clean. ok_on c.run_marks.result _ _ (λ it. set_spares queue_table (λ tree. (refl, ours_queue)) 1 marks_set marks_set_fits _ _ _ it.0 it.1) (c.run_marks.ensures.ran clean);
    }
