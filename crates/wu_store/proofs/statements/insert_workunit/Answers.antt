use Rattle.wu_schema.proofs.Words.{Executes, HasCleanDisk, Ok, arith, state, workunit_row, ℕ}
use Rattle.wu_schema.specs.Made.{workunit_table}
use Rattle.wu_schema.proofs.CallLemmas.{ok_on}
use Rattle.wu_schema.proofs.StepLemmas.{frame_then}
use Rattle.wu_store.proofs.ChangeLemmas.{put_workunit}
use Rattle.wu_store.proofs.ClassEffect.{places_workunit, placed_leaves}
use Rattle.wu_store.proofs.InsertTexts.{workunit_fits, workunit_put}
use Rattle.wu_store.proofs.PlacedLemmas.{was_free}
use Rattle.wu_schema.specs.declared.table.ProjectTable.TheVariants as the_table
use Rattle.wu_schema.proofs.QueueLemmas.{queue_beside}
use Rattle.wu_store.proofs.SpareLemmas.{of_class, of_workunit}
use Rattle.wu_schema.specs.Others.{tables_of_workunits}
use Rattle.wu_schema.proofs.OthersLemmas.{insert_spares, ours_workunit, spares_then}
use Rattle.wu_store.proofs.statements.insert_workunit.Goals as goal

-- its row, and then that of its class
pub returns : goal.returns
returns g c =
    let w = c.args.workunit.now in
    let old = state g.S.Store c.args.tx.now.conn.now in
    let mid = state g.S.Store c.run_workunit.new.tx.conn.now in
    let new = state g.S.Store c.insert_class.new.tx.conn.now in
    let r = c.insert_class.result in
    let first : HasCleanDisk new → (count : ℕ) × Executes workunit_put.text (workunit_row w) old mid (Ok count) = λ clean. c.in_ok-run_workunit.ensures.ran (omega (arith, clean, c.insert_class.ensures.writes.part.survives.clean)) in
    record {
      writes = frame_then g.S.Store _ _ _ tt c.in_ok-run_workunit.ensures.writes r c.insert_class.ensures.writes;
      free = λ clean. let it = first clean in ok_on r _ _ (λ class world s. was_free old.now mid.now world s w (put_workunit old mid world s w it.0 it.1)) (c.insert_class.ensures.puts clean);
      puts = λ clean. let it = first clean in ok_on r _ _ (λ class. record {
        stands = λ world known s. places_workunit old.now mid.now new.now w class world known s (put_workunit old mid world s w it.0 it.1);
        queue = λ world marked known s q. placed_leaves old.now mid.now new.now w class world known s (put_workunit old mid world s w it.0 it.1) marked (queue_beside old.now world s marked q mid.now the_table.Workunit tt _ (put_workunit old mid world s w it.0 it.1));
      }) (c.insert_class.ensures.puts clean);
      spares = λ clean. let it = first clean in ok_on r _ _ (λ class. spares_then tables_of_workunits old.now mid.now new.now (of_workunit old.now mid.now (insert_spares workunit_table.0 workunit_table.1 workunit_put workunit_fits (λ tree. ours_workunit) _ old mid it.0 it.1)) (of_class mid.now new.now class)) (c.insert_class.ensures.spares clean);
    }
