use Rattle.wu_schema.proofs.Words.{None, Ok, Text, [], ap, bound_value, import_kind_code, number, refl, state, sym, ◌∙◌, ◌∷◌, ◌≡◌}
use Rattle.wu_schema.specs.declared.table.ProjectTable.TheVariants as the_table
use Rattle.wu_schema.proofs.InsertEffect.{also, no_more}
use Rattle.wu_store.specs.Answers.{kept_of}
use Rattle.wu_store.proofs.SelectTexts.{import_asked, import_fits}
use Rattle.wu_store.proofs.ReadAnswers.{import_found}
use Rattle.std.specs.Option.{option_copied}
use Rattle.wu_store.proofs.AskLemmas.{asked_all, fault_read, handed_on, match_handed, question, read_handed, read_told, reads_handed, reads_also, reads_made, never_broken}
use Rattle.wu_store.proofs.LoadLemmas.{import_read, no_first, none_earlier, one_first, some_earlier}
use Rattle.wu_store.proofs.loading.import_of.Goals as goal

pub returns-in_err-rows : goal.returns-in_err-rows
returns-in_err-rows g c =
    let q = c.in_err-rows.ensures in
    let same = c.from_residual.ensures.1 in
    let it = asked_all g.S.Store (question the_table.Import (λ _. tt) import_asked import_fits (number (import_kind_code c.args.kind) ∷ Text c.args.name.now ∷ []) refl (λ _. refl)) c.args.conn.now c.query.new.conn _
    (also (ap bound_value c.params-to_sql.ensures ∙ ap number c.code.ensures) (also (ap bound_value c.params-to_sql-2.ensures ∙ ap (λ t. Text t) c.as_str.ensures) no_more)) (λ rows world. rows ≡ kept_of c.args.kind c.args.name.now world)
    (λ rows h world s. import_found (state g.S.Store c.args.conn.now) (state g.S.Store c.query.new.conn) world s c.args.kind c.args.name.now rows h) _ q.asks q.opens q.shows q.fails q.told in
    record {
      reads = reads_handed g.S.Store _ _ _ _ same it (λ other told world. told) (λ world stands has. tt);
    }

pub returns-in_err-import_from-in-Some : goal.returns-in_err-import_from-in-Some
returns-in_err-import_from-in-Some g c =
    let q = c.in_ok-rows.ensures in
    let asked = asked_all g.S.Store (question the_table.Import (λ _. tt) import_asked import_fits (number (import_kind_code c.args.kind) ∷ Text c.args.name.now ∷ []) refl (λ _. refl)) c.args.conn.now c.query.new.conn _
    (also (ap bound_value c.params-to_sql.ensures ∙ ap number c.code.ensures) (also (ap bound_value c.params-to_sql-2.ensures ∙ ap (λ t. Text t) c.as_str.ensures) no_more)) (λ rows world. rows ≡ kept_of c.args.kind c.args.name.now world)
    (λ rows h world s. import_found (state g.S.Store c.args.conn.now) (state g.S.Store c.query.new.conn) world s c.args.kind c.args.name.now rows h) (Ok c.in_ok-rows.rows) q.asks q.opens q.shows q.fails q.told in
    let same = c.from_residual-in_err-import_from-in-Some.ensures.1 in
    let refused = read_handed _ _ same c.in_err-import_from-in-Some.ensures.refused in
    record {
      reads = reads_also g.S.Store _ _ _ _ (never_broken _ refused) (fault_read _ refused) asked (λ world stands found. match_handed _ _ same _ (read_told _ c.in_err-import_from-in-Some.ensures.refused)) (λ world stands found has.
          let first = one_first c.deref.result.now c.in-Some.row.now (sym c.first.ensures.value ∙ ap option_copied c.in-Some.is) in
          handed_on _ _ same (import_read c.args.kind c.args.name.now world c.in-Some.row.now first.0 (sym (c.deref.ensures.value ∙ found) ∙ first.1) _ c.in_err-import_from-in-Some.ensures has));
    }

pub returns-in-Some : goal.returns-in-Some
returns-in-Some g c =
    let q = c.in_ok-rows.ensures in
    let asked = asked_all g.S.Store (question the_table.Import (λ _. tt) import_asked import_fits (number (import_kind_code c.args.kind) ∷ Text c.args.name.now ∷ []) refl (λ _. refl)) c.args.conn.now c.query.new.conn _
    (also (ap bound_value c.params-to_sql.ensures ∙ ap number c.code.ensures) (also (ap bound_value c.params-to_sql-2.ensures ∙ ap (λ t. Text t) c.as_str.ensures) no_more)) (λ rows world. rows ≡ kept_of c.args.kind c.args.name.now world)
    (λ rows h world s. import_found (state g.S.Store c.args.conn.now) (state g.S.Store c.query.new.conn) world s c.args.kind c.args.name.now rows h) (Ok c.in_ok-rows.rows) q.asks q.opens q.shows q.fails q.told in
    record {
      reads = reads_made g.S.Store _ _ c.in_ok-rows.rows _ asked (λ world stands found.
          let first = one_first c.deref.result.now c.in-Some.row.now (sym c.first.ensures.value ∙ ap option_copied c.in-Some.is) in
          some_earlier c.args.kind c.args.name.now world c.in-Some.row.now first.0 (sym (c.deref.ensures.value ∙ found) ∙ first.1) c.in_ok-import_from-in-Some.field-0 c.in_ok-import_from-in-Some.ensures);
    }

pub returns : goal.returns
returns g c =
    let q = c.in_ok-rows.ensures in
    let asked = asked_all g.S.Store (question the_table.Import (λ _. tt) import_asked import_fits (number (import_kind_code c.args.kind) ∷ Text c.args.name.now ∷ []) refl (λ _. refl)) c.args.conn.now c.query.new.conn _
    (also (ap bound_value c.params-to_sql.ensures ∙ ap number c.code.ensures) (also (ap bound_value c.params-to_sql-2.ensures ∙ ap (λ t. Text t) c.as_str.ensures) no_more)) (λ rows world. rows ≡ kept_of c.args.kind c.args.name.now world)
    (λ rows h world s. import_found (state g.S.Store c.args.conn.now) (state g.S.Store c.query.new.conn) world s c.args.kind c.args.name.now rows h) (Ok c.in_ok-rows.rows) q.asks q.opens q.shows q.fails q.told in
    record {
      reads = reads_made g.S.Store _ _ c.in_ok-rows.rows None asked (λ world stands found.
          none_earlier c.args.kind c.args.name.now world (sym (c.deref.ensures.value ∙ found) ∙ no_first c.deref.result.now (sym c.first.ensures.value ∙ ap option_copied c.in-None.is)));
    }
