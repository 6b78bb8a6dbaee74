use Rattle.wu_schema.proofs.Words.{List, Row, subst}
use Rattle.wu_check.specs.Versions.{TellVersion}
use Rattle.wu_loader.proofs.LookLemmas.{looks_fault}
use Rattle.wu_check.proofs.VersionLemmas.{looks_version}
use Rattle.wu_check.proofs.version.version_told.Goals as goal

pub returns-in_err-rows : goal.returns-in_err-rows
returns-in_err-rows g c = looks_fault 1 g.S.Store c.args.conn.now c.rows_of_project.new.conn c.in_err-rows.field-0.0 _ _ c.in_err-rows.ensures c.from_residual.result c.from_residual.ensures.1

pub returns : goal.returns
returns g c =
    looks_version g.S.Store c.args.conn.now c.rows_of_project.new.conn c.in_ok-rows.rows c.version_of_rows.result c.in_ok-rows.ensures
    (subst (λ (rows : List Row). TellVersion rows c.version_of_rows.result) c.deref.ensures.value c.version_of_rows.ensures)
