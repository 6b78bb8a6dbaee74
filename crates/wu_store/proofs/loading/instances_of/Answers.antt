use Rattle.wu_schema.proofs.Words.{Ok, [], number, refl, state, ◌∙◌, ◌∷◌, ◌≡◌}
use Rattle.wu_schema.specs.declared.table.ProjectTable.TheVariants as the_table
use Rattle.wu_schema.proofs.InsertEffect.{also, no_more}
use Rattle.wu_store.specs.Answers.{instance_rows_of}
use Rattle.wu_store.proofs.AskLemmas.{asked_all, fault_read, never_broken, nothing_handed, question, reads_also, reads_handed, reads_unkeyed, reads_if}
use Rattle.wu_store.proofs.ChangeLemmas.{sent_number}
use Rattle.wu_store.proofs.SelectTexts.{instances_asked, instances_fits}
use Rattle.wu_store.proofs.InstanceAnswers as answers
use Rattle.wu_store.proofs.LoadLemmas.{instances_found, instances_read, instances_stored}
use Rattle.wu_store.proofs.loading.instances_of.Goals as goal

pub returns-in_err-key : goal.returns-in_err-key
returns-in_err-key g c =
    let key = c.in_err-key.ensures in
    let same = c.from_residual.ensures.1 in
    record {
      stored = nothing_handed _ _ same _;
      reads = reads_handed g.S.Store _ _ _ _ same (reads_unkeyed g.S.Store _ c.args.workunit _ key.refused key.beyond) (λ other told world. told) (λ world stands has. has.0);
    }

pub returns-in_err-rows : goal.returns-in_err-rows
returns-in_err-rows g c =
    let q = c.in_err-rows.ensures in
    let same = c.from_residual-in_err-rows.ensures.1 in
    let it = asked_all g.S.Store (question the_table.Result (λ _. tt) instances_asked instances_fits (number c.args.workunit ∷ []) refl (λ _. refl)) c.args.conn.now c.query.new.conn _ (also (sent_number c.args.workunit c.params-to_sql.ensures c.in_ok-key.ensures.value c.in_ok-key.ensures.within) no_more) (λ rows world. rows ≡ instance_rows_of c.args.workunit world)
    (λ rows h world s. answers.instances_found (state g.S.Store c.args.conn.now) (state g.S.Store c.query.new.conn) world s c.args.workunit rows h) _ q.asks q.opens q.shows q.fails q.told in
    record {
      stored = nothing_handed _ _ same _;
      reads = reads_handed g.S.Store _ _ _ _ same (reads_if (λ low. tt) it) (λ other told world. told) (λ world stands has. tt);
    }

pub returns : goal.returns
returns g c =
    let q = c.in_ok-rows.ensures in
    let r = c.instances_from.result in
    let reads = c.instances_from.ensures in
    let it = asked_all g.S.Store (question the_table.Result (λ _. tt) instances_asked instances_fits (number c.args.workunit ∷ []) refl (λ _. refl)) c.args.conn.now c.query.new.conn _ (also (sent_number c.args.workunit c.params-to_sql.ensures c.in_ok-key.ensures.value c.in_ok-key.ensures.within) no_more) (λ rows world. rows ≡ instance_rows_of c.args.workunit world)
    (λ rows h world s. answers.instances_found (state g.S.Store c.args.conn.now) (state g.S.Store c.query.new.conn) world s c.args.workunit rows h) (Ok c.in_ok-rows.rows) q.asks q.opens q.shows q.fails q.told in
    record {
      stored = instances_stored _ r reads;
      reads = reads_also g.S.Store _ _ _ _ (never_broken _ reads.refused) (fault_read _ reads.refused) (reads_if (λ low. tt) it) (λ world stands found. instances_found c.args.workunit world _ (c.deref.ensures.value ∙ found) r reads) (λ world stands found has. instances_read c.args.workunit world _ (c.deref.ensures.value ∙ found) r reads has.1);
    }
