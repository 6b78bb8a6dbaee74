use Rattle.wu_schema.proofs.Words.{[], ap, bound_value, number, refl, ◌∷◌, ◌≡◌}
use Rattle.wu_schema.specs.Made.{workunit_class_table}
use Rattle.wu_schema.proofs.InsertEffect.{also, no_more}
use Rattle.wu_schema.proofs.CallLemmas.{ran_as}
use Rattle.wu_store.proofs.ChangeLemmas.{sent_number}
use Rattle.wu_schema.proofs.OthersLemmas.{ours_workunit_class}
use Rattle.wu_store.proofs.ClassEffect.{changes_class, class_set, class_set_fits}
use Rattle.wu_store.proofs.SpareLemmas.{set_spares}
use Rattle.wu_store.proofs.classes.set_class.Goals as goal

pub returns : goal.returns
returns g c =
    let given : _ ≡ number c.args.workunit ∷ number c.args.class ∷ [] = also (sent_number c.args.workunit c.params-to_sql.ensures c.in_ok-workunit.ensures.value c.in_ok-workunit.ensures.within) (also (ap bound_value c.params-to_sql-2.ensures) no_more) in
    record {
      writes = c.execute.ensures.writes;
      makes = λ clean. ran_as _ _ class_set.text _ _ given c.execute.result (c.execute.ensures.ran clean) (changes_class c.args.workunit c.args.class _ _);
      spares = λ clean. ran_as _ _ class_set.text _ _ given c.execute.result (c.execute.ensures.ran clean) (set_spares workunit_class_table (λ tree. (refl, ours_workunit_class)) 1 class_set class_set_fits _ _ _);
    }
