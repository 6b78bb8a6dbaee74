use Rattle.wu_schema.proofs.Words.{[], number, refl, ◌∷◌, ◌≡◌}
use Rattle.wu_store.proofs.ProjectEffect.{next_fits, next_set}
use Rattle.wu_schema.specs.Made.{project_table}
use Rattle.wu_schema.proofs.InsertEffect.{also, no_more}
use Rattle.wu_schema.proofs.CallLemmas.{ran_as}
use Rattle.wu_schema.proofs.OthersLemmas.{ours_project}
use Rattle.wu_store.proofs.ChangeLemmas.{sent_number, sets_number}
use Rattle.wu_store.proofs.QueueLemmas.{project_leaves}
use Rattle.wu_store.proofs.SpareLemmas.{set_spares}
use Rattle.wu_store.proofs.statements.set_next_number.Goals as goal

pub returns : goal.returns
returns g c =
    let given : _ ≡ number c.args.next_number ∷ [] = also (sent_number c.args.next_number c.params-to_sql.ensures c.in_ok-next_number.ensures.value c.in_ok-next_number.ensures.within) no_more in
    record {
      writes = c.execute.ensures.writes;
      makes = λ clean. ran_as _ _ next_set.text _ _ given c.execute.result (c.execute.ensures.ran clean) (λ count ran world s. sets_number _ _ world s c.args.next_number count ran);
      keeps = λ clean. ran_as _ _ next_set.text _ _ given c.execute.result (c.execute.ensures.ran clean) (λ count ran world marked s q. project_leaves _ _ world s marked q next_set next_fits c.args.next_number count ran);
      spares = λ clean. ran_as _ _ next_set.text _ _ given c.execute.result (c.execute.ensures.ran clean) (set_spares project_table (λ tree. (refl, ours_project)) 0 next_set next_fits _ _ _);
    }
