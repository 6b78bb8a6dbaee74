use Rattle.std.specs.Option.{IfSome}
use Rattle.std.specs.Prelude.{◌≤◌}
use Rattle.wu_schema.proofs.Words.{HasProject, HasVersion, IsFailure, Some, inl, inr, state, subst, sym, ℕ, ◌∙◌, ◌≡◌}
use Rattle.wu_schema.proofs.AskingLemmas.{asks_error, asks_read, error_told, opens_error, opens_read}
use Rattle.wu_schema.proofs.ReadLemmas.{if_ok, if_err, on_ok}
use Rattle.wu_schema.proofs.VersionLemmas.{answered_there, each_fault, fault_of_missing, has_understood, project_of, project_row, row_fault, row_never_broken, rows_refused, rows_stored, same_version, stored_is}
use Rattle.wu_schema.proofs.version.version_of.Goals as goal

pub returns-in-Ok-clause-asks : goal.returns-in-Ok-clause-asks
returns-in-Ok-clause-asks g c =
    let reads = c.in-Ok.ensures.reads in
    asks_read g.S.Store c.args.conn.now c.project_rows.new.conn reads.mode reads.crash reads.unchanged c.version_in.result (row_never_broken c.version_in.result c.version_in.ensures.refused)

pub returns-in-Ok-clause-opens : goal.returns-in-Ok-clause-opens
returns-in-Ok-clause-opens g c =
    let reads = c.in-Ok.ensures.reads in
    opens_read g.S.Store c.args.conn.now c.project_rows.new.conn reads.mode reads.crash reads.unchanged c.version_in.result

pub returns-in-Ok-clause-told : goal.returns-in-Ok-clause-told
returns-in-Ok-clause-told g c = if_err c.version_in.result _ _ row_fault c.version_in.ensures.refused

pub returns-in-Ok-clause-positive : goal.returns-in-Ok-clause-positive
returns-in-Ok-clause-positive g c = if_ok c.version_in.result _ _ (λ found h. subst (λ o. IfSome o (λ version. 1 ≤ version)) (sym h.1) h.2) c.version_in.ensures.value

pub returns-in-Err-clause-asks : goal.returns-in-Err-clause-asks
returns-in-Err-clause-asks g c =
    let q = c.in-Err.ensures in
    let after = c.version_after.ensures in
    asks_error g.S.Store c.args.conn.now c.project_rows.new.conn q.reads.mode q.reads.crash c.in-Err.error q.serves q.reads.back q.breaks c.version_after.result
    (on_ok c.version_after.result _ _ (λ found h. fault_of_missing c.in-Err.error h.1) after.none) (if_err c.version_after.result _ _ (λ fault h. h.0) after.fault)

pub returns-in-Err-clause-opens : goal.returns-in-Err-clause-opens
returns-in-Err-clause-opens g c =
    let q = c.in-Err.ensures in
    let after = c.version_after.ensures in
    opens_error g.S.Store c.args.conn.now c.project_rows.new.conn q.reads.mode q.reads.crash c.in-Err.error q.serves c.version_after.result
    (on_ok c.version_after.result _ _ (λ found h. fault_of_missing c.in-Err.error h.1) after.none) (if_err c.version_after.result _ _ (λ fault h. h.0) after.fault)

pub returns-in-Err-clause-told : goal.returns-in-Err-clause-told
returns-in-Err-clause-told g c = error_told c.version_after.result c.in-Err.error (if_err c.version_after.result _ _ (λ fault h. h.0) c.version_after.ensures.fault)

pub returns-in-Err-clause-positive : goal.returns-in-Err-clause-positive
returns-in-Err-clause-positive g c = if_ok c.version_after.result _ _ (λ found h. subst (λ o. IfSome o (λ version. 1 ≤ version)) (sym h.0) tt) c.version_after.ensures.none

pub returns-in-Ok-clause-answers : goal.returns-in-Ok-clause-answers
returns-in-Ok-clause-answers g c clean =
    let db = (state g.S.Store c.args.conn.now).now in
    if_ok c.version_in.result _ _ (λ found h.
    let of_row : (has : HasProject db.schema) → (version : ℕ) × (found ≡ Some version) × HasVersion db has version =
    λ has. rows_stored _ c.in-Ok.rows.items c.as_slice.result.now c.as_slice.ensures.value (c.in-Ok.ensures.answers clean has) found h in
    record {
      of_row = of_row;
      of_world = λ world s. stored_is db world s found (of_row (project_of db world s));
      absent = λ lacks. absurd (answered_there db c.in-Ok.rows.items (c.in-Ok.ensures.shown clean) lacks);
      told = λ version is. (c.in-Ok.rows.items, c.in-Ok.ensures.shown clean, same_version c.in-Ok.rows.items c.as_slice.result.now c.as_slice.ensures.value found h version is);
      none = λ is. absurd (let no = sym is ∙ h.1 in cc);
    }) c.version_in.ensures.value

pub returns-in-Err-clause-answers : goal.returns-in-Err-clause-answers
returns-in-Err-clause-answers g c clean =
    let db = (state g.S.Store c.args.conn.now).now in
    if_ok c.version_after.result _ _ (λ found h.
    let lacks = c.in-Err.ensures.missing clean h.1 in
    record {
      of_row = λ has. absurd (has_understood db.schema has lacks);
      of_world = λ world s. absurd (has_understood db.schema (project_of db world s) lacks);
      absent = λ _. h.0;
      told = λ version is. absurd (let no = sym is ∙ h.0 in cc);
      none = λ _. lacks;
    }) c.version_after.ensures.none

pub returns-in-Ok-clause-refuses : goal.returns-in-Ok-clause-refuses
returns-in-Ok-clause-refuses g c clean =
    let db = (state g.S.Store c.args.conn.now).now in
    each_fault c.version_in.result _ (λ fault told.
    let of_row : (has : HasProject db.schema) (version : ℕ) → HasVersion db has version → IsFailure fault =
    λ has version of. rows_refused _ c.in-Ok.rows.items c.as_slice.result.now c.as_slice.ensures.value (c.in-Ok.ensures.answers clean has) c.version_in.result version of c.version_in.ensures.found fault told in
    record {
      of_row = λ has version of unlimited. of_row has version of;
      of_world = λ world s positive unlimited. of_row (project_of db world s) world.version (positive, project_row db world s);
      absent = λ lacks. absurd (answered_there db c.in-Ok.rows.items (c.in-Ok.ensures.shown clean) lacks);
    })

pub returns-in-Err-clause-refuses : goal.returns-in-Err-clause-refuses
returns-in-Err-clause-refuses g c clean =
    let db = (state g.S.Store c.args.conn.now).now in
    if_err c.version_after.result _ _ (λ fault h. record {
      of_row = λ has version of unlimited. subst IsFailure (sym h.0) (c.in-Err.ensures.told clean has unlimited);
      of_world = λ world s positive unlimited. subst IsFailure (sym h.0) (c.in-Err.ensures.told clean (project_of db world s) unlimited);
      absent = λ lacks. elim (c.in-Err.ensures.absent clean lacks) [ inl missing ↦ absurd (h.1 missing) | inr failed ↦ subst IsFailure (sym h.0) failed ];
    }) c.version_after.ensures.fault
