use Rattle.wu_schema.proofs.Words.{[], state, version_text}
use Rattle.wu_schema.proofs.ReadLemmas.{all_read, if_ok, if_err}
use Rattle.wu_schema.proofs.VersionLemmas.{version_selects, version_found, version_told, version_answered, version_absent, version_missing, query_serves}
use Rattle.wu_schema.proofs.AskingLemmas.{query_broke}
use Rattle.wu_schema.proofs.version.project_rows.Goals as goal

pub returns-clause-reads : goal.returns-clause-reads
returns-clause-reads g c =
    let q = c.query_all.ensures in
    all_read g.S.Store version_text version_selects _ c.args.conn.now c.query_all.new.self q.mode q.survives c.query_all.result q.ok q.err

pub returns-clause-serves : goal.returns-clause-serves
returns-clause-serves g c clean =
    if_err c.query_all.result _ _ (λ e h is. query_serves version_text version_selects [] (state g.S.Store c.args.conn.now) (state g.S.Store c.query_all.new.self) e h is) (c.query_all.ensures.err clean)

pub returns-clause-answers : goal.returns-clause-answers
returns-clause-answers g c clean =
    if_ok c.query_all.result _ _ (λ rows h has. version_found (state g.S.Store c.args.conn.now) (state g.S.Store c.query_all.new.self) has rows.items h) (c.query_all.ensures.ok clean)

pub returns-clause-told : goal.returns-clause-told
returns-clause-told g c clean =
    if_err c.query_all.result _ _ (λ e h has unlimited. version_told (state g.S.Store c.args.conn.now) (state g.S.Store c.query_all.new.self) has unlimited e h) (c.query_all.ensures.err clean)

pub returns-clause-shown : goal.returns-clause-shown
returns-clause-shown g c clean =
    if_ok c.query_all.result _ _ (λ rows h. version_answered (state g.S.Store c.args.conn.now) (state g.S.Store c.query_all.new.self) rows.items h) (c.query_all.ensures.ok clean)

pub returns-clause-absent : goal.returns-clause-absent
returns-clause-absent g c clean =
    if_err c.query_all.result _ _ (λ e h free. version_absent (state g.S.Store c.args.conn.now) (state g.S.Store c.query_all.new.self) free e h) (c.query_all.ensures.err clean)

pub returns-clause-missing : goal.returns-clause-missing
returns-clause-missing g c clean =
    if_err c.query_all.result _ _ (λ e h m. version_missing (state g.S.Store c.args.conn.now) (state g.S.Store c.query_all.new.self) e h m) (c.query_all.ensures.err clean)

pub returns-clause-breaks : goal.returns-clause-breaks
returns-clause-breaks g c clean =
    if_err c.query_all.result _ _ (λ e h is. query_broke (state g.S.Store c.args.conn.now) (state g.S.Store c.query_all.new.self) e version_text version_selects [] h is) (c.query_all.ensures.err clean)
