use Rattle.wu_schema.proofs.Words.{Text, [], ap, bound_value, number, refl, state, sym, ◌∙◌, ◌∷◌, ◌≡◌}
use Rattle.wu_core.specs.Storable.{IsClass}
use Rattle.wu_schema.specs.declared.table.ProjectTable.TheVariants as the_table
use Rattle.wu_schema.proofs.InsertEffect.{also, no_more}
use Rattle.wu_schema.proofs.ReadLemmas.{if_ok}
use Rattle.wu_store.specs.Classes.{class_named}
use Rattle.wu_store.proofs.AskLemmas.{fault_read, asked_row, reads_handed, reads_also, reads_made, never_broken}
use Rattle.wu_store.proofs.ClassAnswers.{class_question, host_asked, host_fits, host_found, none_shown, row_named, shown_class}
use Rattle.wu_store.proofs.LoadLemmas.{never_unread}
use Rattle.wu_store.proofs.classes.class_of.Goals as goal

pub returns-in_err-row : goal.returns-in_err-row
returns-in_err-row g c =
    let q = c.in_err-row.ensures in
    let host = c.args.host.now in
    let given = also (ap bound_value c.params-to_sql.ensures ∙ ap (λ t. Text t) c.as_str.ensures) no_more in
    let same = c.from_residual.ensures.1 in
    let it = asked_row g.S.Store (class_question the_table.HostClass (λ version known. known) host_asked host_fits (Text host ∷ []) refl (λ _. refl)) c.args.conn.now c.ask_row.new.conn _ given (row_named host)
    (host_found (state g.S.Store c.args.conn.now) (state g.S.Store c.ask_row.new.conn) host) _ q.asks q.opens q.shows q.fails q.told in
    record {
      reads = reads_handed g.S.Store _ _ _ _ same it (λ other told world. tt) (λ world stood can. tt);
    }

pub returns-in-Some : goal.returns-in-Some
returns-in-Some g c =
    let q = c.in_ok-row.ensures in
    let host = c.args.host.now in
    let given = also (ap bound_value c.params-to_sql.ensures ∙ ap (λ t. Text t) c.as_str.ensures) no_more in
    let r = c.class_at.result in
    let reads = c.class_at.ensures in
    let it = asked_row g.S.Store (class_question the_table.HostClass (λ version known. known) host_asked host_fits (Text host ∷ []) refl (λ _. refl)) c.args.conn.now c.ask_row.new.conn _ given (row_named host)
    (host_found (state g.S.Store c.args.conn.now) (state g.S.Store c.ask_row.new.conn) host) _ q.asks q.opens q.shows q.fails q.told in
    record {
      reads = reads_also g.S.Store _ _ _ _ (never_broken _ reads.refused) (fault_read _ reads.refused) it (λ world stood found. if_ok r _ _ (λ x value. let e : number x ≡ number (class_named host world) = sym value.0 ∙ shown_class _ c.in-Some.row (sym (found) ∙ c.in-Some.is) in cc) reads.value) (λ world stood found can. never_unread number IsClass _ r (class_named host world) reads can (shown_class _ c.in-Some.row (sym (found) ∙ c.in-Some.is)));
    }

pub returns-in-None : goal.returns-in-None
returns-in-None g c =
    let q = c.in_ok-row.ensures in
    let host = c.args.host.now in
    let given = also (ap bound_value c.params-to_sql.ensures ∙ ap (λ t. Text t) c.as_str.ensures) no_more in
    let it = asked_row g.S.Store (class_question the_table.HostClass (λ version known. known) host_asked host_fits (Text host ∷ []) refl (λ _. refl)) c.args.conn.now c.ask_row.new.conn _ given (row_named host)
    (host_found (state g.S.Store c.args.conn.now) (state g.S.Store c.ask_row.new.conn) host) _ q.asks q.opens q.shows q.fails q.told in
    record {
      reads = reads_made g.S.Store _ _ _ 0 it (λ world stood told. sym (none_shown _ (sym (told) ∙ c.in-None.is)));
    }
