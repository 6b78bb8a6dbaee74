use Rattle.wu_schema.specs.Made.{project_table}
use Rattle.wu_store.specs.Changes.{with_version}
use Rattle.wu_schema.proofs.Words.{Executes, Ok, Refines, [], number, refl, state, subst, sym, ◌∷◌, ◌≡◌}
use Rattle.wu_store.proofs.ProjectEffect.{version_fits, version_set}
use Rattle.wu_schema.proofs.InsertEffect.{also, no_more}
use Rattle.wu_schema.proofs.CallLemmas.{ran_as}
use Rattle.wu_schema.proofs.OthersLemmas.{ours_project}
use Rattle.wu_store.proofs.ChangeLemmas.{sent_number, sets_classes}
use Rattle.wu_store.proofs.QueueLemmas.{project_leaves}
use Rattle.wu_store.proofs.SpareLemmas.{set_spares}
use Rattle.wu_store.proofs.statements.set_version.Goals as goal

pub returns : goal.returns
returns g c =
    let given : _ ≡ number c.args.version ∷ [] = also (sent_number c.args.version c.params-to_sql.ensures c.in_ok-version.ensures.value c.in_ok-version.ensures.within) no_more in
    let old = state g.S.Store c.args.tx.now.conn.now in
    let new = state g.S.Store c.execute.new.tx.conn.now in
    record {
      writes = c.execute.ensures.writes;
      makes = λ clean. ran_as old new version_set.text _ _ given c.execute.result (c.execute.ensures.ran clean) (λ count ran world three older s c'. subst (λ n. Executes version_set.text (number n ∷ []) old new (Ok count) → Refines new.now (with_version n world)) (sym three) (sets_classes old new world s older c' count) ran);
      keeps = λ clean. ran_as _ _ version_set.text _ _ given c.execute.result (c.execute.ensures.ran clean) (λ count ran world marked s q. project_leaves _ _ world s marked q version_set version_fits c.args.version count ran);
      spares = λ clean. ran_as _ _ version_set.text _ _ given c.execute.result (c.execute.ensures.ran clean) (set_spares project_table (λ tree. (refl, ours_project)) 0 version_set version_fits _ _ _);
    }
