use Rattle.wu_schema.proofs.Words.{refl}
use Rattle.wu_schema.specs.Made.{result_table}
use Rattle.wu_schema.proofs.CallLemmas.{ok_on}
use Rattle.wu_schema.proofs.OthersLemmas.{ours_result}
use Rattle.wu_store.proofs.SetInstance.{instance_set, instance_set_fits, set_leaves, sets_instance}
use Rattle.wu_store.proofs.SpareLemmas.{set_spares}
use Rattle.wu_store.proofs.sets.set_instance.Goals as goal

pub returns : goal.returns
returns g c =
    let i = c.args.instance.now in
    record {
      writes = c.run_instance.ensures.writes;
      makes = λ clean. ok_on c.run_instance.result _ _ (λ it world w s is low. sets_instance _ _ world s c.args.workunit c.args.n i w is low it.0 it.1) (c.run_instance.ensures.ran clean);
      keeps = λ clean. ok_on c.run_instance.result _ _ (λ it world w marked s is low q. set_leaves _ _ world s c.args.workunit c.args.n i w is low it.0 it.1 marked q) (c.run_instance.ensures.ran clean);
      spares = λ clean. ok_on c.run_instance.result _ _ (λ it. set_spares result_table (λ tree. (refl, ours_result)) 2 instance_set instance_set_fits _ _ _ it.0 it.1) (c.run_instance.ensures.ran clean);
    }
