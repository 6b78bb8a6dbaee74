use Rattle.wu_schema.specs.Made.{result_table}
use Rattle.wu_schema.proofs.CallLemmas.{ok_on}
use Rattle.wu_schema.proofs.OthersLemmas.{insert_spares, ours_result}
use Rattle.wu_schema.specs.declared.table.ProjectTable.TheVariants as the_table
use Rattle.wu_schema.proofs.QueueLemmas.{queue_beside}
use Rattle.wu_store.proofs.ChangeLemmas.{put_instance}
use Rattle.wu_store.proofs.InsertTexts.{instance_fits, instance_put}
use Rattle.wu_store.proofs.PlacedLemmas.{stands_with_instance}
use Rattle.wu_store.proofs.statements.insert_instance.Goals as goal

pub returns : goal.returns
returns g c =
    let i = c.args.instance.now in
    record {
      writes = c.run_instance.ensures.writes;
      makes = λ clean. ok_on c.run_instance.result _ _ (λ it world s has. stands_with_instance _ _ world s c.args.workunit c.args.n i (put_instance _ _ world s c.args.workunit c.args.n i it.0 it.1) has) (c.run_instance.ensures.ran clean);
      keeps = λ clean. ok_on c.run_instance.result _ _ (λ it world marked s q. queue_beside _ world s marked q _ the_table.Result tt _ (put_instance _ _ world s c.args.workunit c.args.n i it.0 it.1)) (c.run_instance.ensures.ran clean);
      spares = λ clean. ok_on c.run_instance.result _ _ (λ it. insert_spares result_table.0 result_table.1 instance_put instance_fits (λ tree. ours_result) _ _ _ it.0 it.1) (c.run_instance.ensures.ran clean);
    }
