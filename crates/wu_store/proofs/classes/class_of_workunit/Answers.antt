use Rattle.wu_schema.proofs.Words.{None, Some, [], ap, number, refl, state, subst, sym, ◌∙◌, ◌∷◌, ◌≡◌}
use Rattle.std.specs.Prelude.{IfSome}
use Rattle.wu_core.specs.Storable.{IsClass}
use Rattle.wu_schema.specs.declared.table.ProjectTable.TheVariants as the_table
use Rattle.wu_schema.proofs.InsertEffect.{also, no_more}
use Rattle.wu_store.proofs.AskLemmas.{asked_row, fault_read, handed_on, never_broken, nothing_handed, read_handed, reads_also, reads_handed, reads_made, reads_unkeyed, reads_if}
use Rattle.wu_store.proofs.ChangeLemmas.{sent_number}
use Rattle.wu_store.proofs.ClassAnswers.{class_question, class_asked, class_fits, class_found, no_work, row_classed, shown_work}
use Rattle.wu_store.proofs.LoadLemmas.{never_unread}
use Rattle.wu_store.proofs.classes.class_of_workunit.Goals as goal

pub returns-in_err-key : goal.returns-in_err-key
returns-in_err-key g c =
    let key = c.in_err-key.ensures in
    let same = c.from_residual.ensures.1 in
    record {
      reads = reads_handed g.S.Store _ _ _ _ same (reads_unkeyed g.S.Store _ c.args.number _ key.refused key.beyond) (λ other told world. tt) (λ world stood can. can.0);
    }

pub returns-in_err-row : goal.returns-in_err-row
returns-in_err-row g c =
    let q = c.in_err-row.ensures in
    let n = c.args.number in
    let given = also (sent_number n c.params-to_sql.ensures c.in_ok-key.ensures.value c.in_ok-key.ensures.within) no_more in
    let same = c.from_residual-in_err-row.ensures.1 in
    let it = asked_row g.S.Store (class_question the_table.WorkunitClass (λ version known. known) class_asked class_fits (number n ∷ []) refl (λ _. refl)) c.args.conn.now c.ask_row.new.conn _ given (row_classed n)
    (class_found (state g.S.Store c.args.conn.now) (state g.S.Store c.ask_row.new.conn) n) _ q.asks q.opens q.shows q.fails q.told in
    record {
      reads = reads_handed g.S.Store _ _ _ _ same (reads_if (λ low. tt) it) (λ other told world. tt) (λ world stood can. tt);
    }

pub returns-in_err-class_at-in-Some : goal.returns-in_err-class_at-in-Some
returns-in_err-class_at-in-Some g c =
    let q = c.in_ok-row.ensures in
    let n = c.args.number in
    let given = also (sent_number n c.params-to_sql.ensures c.in_ok-key.ensures.value c.in_ok-key.ensures.within) no_more in
    let same = c.from_residual-in_err-class_at-in-Some.ensures.1 in
    let reads = c.in_err-class_at-in-Some.ensures in
    let refused = read_handed _ _ same reads.refused in
    let it = asked_row g.S.Store (class_question the_table.WorkunitClass (λ version known. known) class_asked class_fits (number n ∷ []) refl (λ _. refl)) c.args.conn.now c.ask_row.new.conn _ given (row_classed n)
    (class_found (state g.S.Store c.args.conn.now) (state g.S.Store c.ask_row.new.conn) n) _ q.asks q.opens q.shows q.fails q.told in
    record {
      reads = reads_also g.S.Store _ _ _ _ (never_broken _ refused) (fault_read _ refused) (reads_if (λ low. tt) it) (λ world stood found. nothing_handed _ _ same _) (λ world stood found can.
          let class = shown_work _ c.in-Some.row (sym (found) ∙ c.in-Some.is) in
          handed_on _ _ same (never_unread number IsClass _ _ class.0 reads (subst (λ o. IfSome o IsClass) class.1 can.1) class.2));
    }

pub returns-in_ok-class_at-in-Some : goal.returns-in_ok-class_at-in-Some
returns-in_ok-class_at-in-Some g c =
    let q = c.in_ok-row.ensures in
    let n = c.args.number in
    let given = also (sent_number n c.params-to_sql.ensures c.in_ok-key.ensures.value c.in_ok-key.ensures.within) no_more in
    let reads = c.in_ok-class_at-in-Some.ensures in
    let x = c.in_ok-class_at-in-Some.field-0 in
    let it = asked_row g.S.Store (class_question the_table.WorkunitClass (λ version known. known) class_asked class_fits (number n ∷ []) refl (λ _. refl)) c.args.conn.now c.ask_row.new.conn _ given (row_classed n)
    (class_found (state g.S.Store c.args.conn.now) (state g.S.Store c.ask_row.new.conn) n) _ q.asks q.opens q.shows q.fails q.told in
    record {
      reads = reads_made g.S.Store _ _ _ (Some x) (reads_if (λ low. tt) it) (λ world stood told.
          let class = shown_work _ c.in-Some.row (sym (told) ∙ c.in-Some.is) in
          let e : number x ≡ number class.0 = sym reads.value.0 ∙ class.2 in
          let k : x ≡ class.0 = cc in
          ap (λ m. Some m) k ∙ sym class.1);
    }

pub returns-in-None : goal.returns-in-None
returns-in-None g c =
    let q = c.in_ok-row.ensures in
    let n = c.args.number in
    let given = also (sent_number n c.params-to_sql.ensures c.in_ok-key.ensures.value c.in_ok-key.ensures.within) no_more in
    let it = asked_row g.S.Store (class_question the_table.WorkunitClass (λ version known. known) class_asked class_fits (number n ∷ []) refl (λ _. refl)) c.args.conn.now c.ask_row.new.conn _ given (row_classed n)
    (class_found (state g.S.Store c.args.conn.now) (state g.S.Store c.ask_row.new.conn) n) _ q.asks q.opens q.shows q.fails q.told in
    record {
      reads = reads_made g.S.Store _ _ _ None (reads_if (λ low. tt) it) (λ world stood told. sym (no_work _ (sym (told) ∙ c.in-None.is)));
    }
