use Rattle.wu_schema.proofs.Words.{[], ap, bound_value, number, ◌∷◌, ◌≡◌}
use Rattle.wu_schema.specs.Made.{workunit_class_table}
use Rattle.wu_schema.proofs.InsertEffect.{also, no_more}
use Rattle.wu_schema.proofs.CallLemmas.{ran_as}
use Rattle.wu_schema.proofs.OthersLemmas.{insert_spares, ours_workunit_class}
use Rattle.wu_store.proofs.ChangeLemmas.{sent_number}
use Rattle.wu_store.proofs.ClassEffect.{adds_class, class_fits, class_put, puts_class}
use Rattle.wu_store.proofs.classes.insert_class.Goals as goal

pub returns : goal.returns
returns g c =
    let given : _ ≡ number c.args.workunit ∷ number c.args.class ∷ [] = also (sent_number c.args.workunit c.params-to_sql.ensures c.in_ok-workunit.ensures.value c.in_ok-workunit.ensures.within) (also (ap bound_value c.params-to_sql-2.ensures) no_more) in
    record {
      writes = c.execute.ensures.writes;
      puts = λ clean. ran_as _ _ class_put.text _ _ given c.execute.result (c.execute.ensures.ran clean) (puts_class _ _ c.args.workunit c.args.class);
      adds = λ clean. ran_as _ _ class_put.text _ _ given c.execute.result (c.execute.ensures.ran clean) (λ count ran. adds_class _ _ c.args.workunit c.args.class (puts_class _ _ c.args.workunit c.args.class count ran));
      spares = λ clean. ran_as _ _ class_put.text _ _ given c.execute.result (c.execute.ensures.ran clean) (insert_spares workunit_class_table.0 workunit_class_table.1 class_put class_fits (λ tree. ours_workunit_class) _ _ _);
    }
