use Rattle.wu_schema.proofs.Words.{[], number, ◌∷◌, ◌≡◌}
use Rattle.wu_store.proofs.DeleteTexts.{delete_text}
use Rattle.wu_schema.proofs.InsertEffect.{also, no_more}
use Rattle.wu_schema.proofs.CallLemmas.{ran_as}
use Rattle.wu_store.proofs.ChangeLemmas.{sent_number}
use Rattle.wu_store.proofs.CutLemmas.{deletes_workunit}
use Rattle.wu_store.proofs.QueueLemmas.{deletes_marks}
use Rattle.wu_store.proofs.SpareLemmas.{spares_delete_workunit}
use Rattle.wu_store.proofs.statements.delete_workunit.Goals as goal

pub returns : goal.returns
returns g c =
    let given : _ ≡ number c.args.number ∷ [] = also (sent_number c.args.number c.params-to_sql.ensures c.in_ok-number.ensures.value c.in_ok-number.ensures.within) no_more in
    record {
      writes = c.execute.ensures.writes;
      makes = λ clean. ran_as _ _ delete_text _ _ given c.execute.result (c.execute.ensures.ran clean) (λ count ran world s. deletes_workunit _ _ world s c.args.number count ran);
      keeps = λ clean. ran_as _ _ delete_text _ _ given c.execute.result (c.execute.ensures.ran clean) (λ count ran world marked s q. deletes_marks _ _ world s marked q c.args.number count ran);
      spares = λ clean. ran_as _ _ delete_text _ _ given c.execute.result (c.execute.ensures.ran clean) (spares_delete_workunit c.args.number _ _);
    }
