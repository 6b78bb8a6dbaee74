use Rattle.wu_schema.proofs.Words.{Error, Executes, HasCleanDisk, Ok, Result, Text, [], ap, arith, bound_value, class_cells, state, ℕ, ◌∙◌, ◌∷◌, ◌≡◌}
use Rattle.wu_core.specs.declared.workunit.HostClass.{HostClass}
use Rattle.wu_schema.proofs.InsertEffect.{also, no_more}
use Rattle.wu_schema.proofs.CallLemmas.{ran_as}
use Rattle.wu_schema.proofs.StepLemmas.{frame_then}
use Rattle.wu_store.proofs.HostClassEffect.{changes_host, cut_text, host_fits, host_put}
use Rattle.wu_store.proofs.SpareLemmas.{spares_delete_host}
use Rattle.wu_schema.specs.Made.{host_class_table}
use Rattle.wu_schema.proofs.OthersLemmas.{insert_spares, ours_host_class, spares_then}
use Rattle.wu_store.proofs.classes.put_host_class.Goals as goal

-- the row that the host had goes, and the new one is put in
pub returns : goal.returns
returns g c =
    let it : HostClass = record { host = c.args.host.now; class = c.args.class } in
    let old = state g.S.Store c.args.tx.now.conn.now in
    let mid = state g.S.Store c.execute.new.tx.conn.now in
    let new = state g.S.Store c.execute-2.new.tx.conn.now in
    let r = c.execute-2.result in
    let given : _ ≡ Text it.host ∷ [] = also (ap bound_value c.params-to_sql.ensures ∙ ap (λ t. Text t) c.as_str.ensures) no_more in
    let then : _ ≡ class_cells it = also (ap bound_value c.params-to_sql-2.ensures ∙ ap (λ t. Text t) c.as_str-2.ensures) (also (ap bound_value c.params-to_sql-3.ensures) no_more) in
    let done : Result (Unit {0}) Error = Ok tt in
    let first : HasCleanDisk mid → (count : ℕ) × Executes cut_text (Text it.host ∷ []) old mid (Ok count) = λ clean. ran_as old mid cut_text _ _ given done (c.in_ok-execute.ensures.ran clean) (λ count ran. (count, ran)) in
    record {
      writes = frame_then g.S.Store _ _ _ tt c.in_ok-execute.ensures.writes r c.execute-2.ensures.writes;
      makes = λ clean.
          let one = first (omega (arith, clean, c.execute-2.ensures.writes.part.survives.clean)) in
          ran_as mid new host_put.text _ _ then r (c.execute-2.ensures.ran clean) (λ count ran. changes_host it old mid new one.0 one.1 count ran);
      spares = λ clean.
          let one = first (omega (arith, clean, c.execute-2.ensures.writes.part.survives.clean)) in
          ran_as mid new host_put.text _ _ then r (c.execute-2.ensures.ran clean) (λ count ran. spares_then (host_class_table ∷ []) old.now mid.now new.now (spares_delete_host it.host old mid one.0 one.1) (insert_spares host_class_table.0 host_class_table.1 host_put host_fits (λ tree. ours_host_class) _ mid new count ran));
    }
