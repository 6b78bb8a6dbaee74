use Rattle.wu_schema.proofs.Words.{refl}
use Rattle.wu_schema.specs.Made.{workunit_table}
use Rattle.wu_schema.proofs.CallLemmas.{ok_on}
use Rattle.wu_schema.proofs.OthersLemmas.{ours_workunit}
use Rattle.wu_store.proofs.SetLemmas.{row_leaves, sets_row, workunit_set, workunit_set_fits}
use Rattle.wu_store.proofs.SpareLemmas.{set_spares}
use Rattle.wu_store.proofs.sets.set_workunit.Goals as goal

pub returns : goal.returns
returns g c =
    let w = c.args.workunit.now in
    record {
      writes = c.run_workunit.ensures.writes;
      makes = λ clean. ok_on c.run_workunit.result _ _ (λ it world s there. sets_row _ _ world s w there it.0 it.1) (c.run_workunit.ensures.ran clean);
      keeps = λ clean. ok_on c.run_workunit.result _ _ (λ it world marked s there q. row_leaves _ _ world s w there it.0 it.1 marked q) (c.run_workunit.ensures.ran clean);
      spares = λ clean. ok_on c.run_workunit.result _ _ (λ it. set_spares workunit_table (λ tree. (refl, ours_workunit)) 1 workunit_set workunit_set_fits _ _ _ it.0 it.1) (c.run_workunit.ensures.ran clean);
    }
