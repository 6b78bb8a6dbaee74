use Rattle.wu_schema.proofs.Words.{Int, [], subst, ap, bound_value, state, to_z-of_z, w64, ◌∙◌, ◌∷◌, ◌≡◌}
use Rattle.wu_schema.proofs.InsertTexts.{project_put}
use Rattle.wu_schema.proofs.InsertEffect.{also, no_more}
use Rattle.wu_schema.specs.Calls.{RefusesText}
use Rattle.wu_schema.proofs.BreakLemmas.{project_breaks}
use Rattle.wu_schema.proofs.CallLemmas.{ran_as}
use Rattle.wu_schema.proofs.CreatedLemmas.{puts_project}
use Rattle.wu_schema.proofs.creation.insert_project.Goals as goal

pub returns : goal.returns
returns g c =
    let old = state g.S.Store c.args.tx.now.conn.now in
    let new = state g.S.Store c.execute.new.tx.conn.now in
    let given : _ ≡ Int c.args.version ∷ [] = also (ap bound_value c.params-to_sql.ensures ∙ ap (λ z. Int z) (to_z-of_z w64 c.args.version c.ranges.version)) no_more in
    record {
      writes = c.execute.ensures.writes;
      makes = λ clean. ran_as old new project_put.text _ _ given c.execute.result (c.execute.ensures.ran clean) (λ count ran at tree has. puts_project old new c.args.version count at tree has ran);
      breaks = λ over.
          project_breaks g.S.Store c.args.tx.now c.execute.new.tx c.args.version over c.execute.result
          (subst (λ row. RefusesText g.S.Store c.args.tx.now c.execute.new.tx c.execute.result project_put.text row) given c.execute.ensures.refused);
    }
