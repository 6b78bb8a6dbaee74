use Rattle.wu_schema.proofs.Words.{Schema, arith, inl, refl, state, subst}
use Rattle.wu_schema.specs.ProjectTables.{HasTables}
use Rattle.wu_check.specs.Findings.{IsBasis, IsBasisLater}
use Rattle.wu_check.specs.Versions.{IsReadVersion}
use Rattle.wu_check.specs.declared.checking.Basis.TheVariants as basis
use Rattle.wu_check.proofs.ExamineLemmas.{examines_fault, examines_made, examines_then, examines_version, lacks, told_of_tables}
use Rattle.wu_check.proofs.LaterLemmas.{later_then}
use Rattle.wu_check.proofs.checking.find_world.Goals as goal

pub returns-in-Err-clause-examines : goal.returns-in-Err-clause-examines
returns-in-Err-clause-examines g c =
    examines_made g.S.Store c.args.conn.now c.unless_later.new.conn _ c.in_ok-finding.finding (basis.Unsound c.in_ok-finding.finding) IsBasis
    (λ then. then (told_of_tables (state g.S.Store c.args.conn.now).now c.schema-in-Err.result.now c.schema-in-Err.ensures.value c.in-Err.misfit
    (lacks 1 (state g.S.Store c.args.conn.now).now c.schema.result.now c.schema.ensures.value c.in-Err.misfit (inl refl) c.in-Err.ensures.told c.in-Err.ensures.missing (λ world stands known. absurd (omega (arith, known))))
    c.finding_of_tables-found.result c.finding_of_tables-found.ensures))
    c.in_ok-finding.ensures.examines

pub returns-in_err-version-clause-examines : goal.returns-in_err-version-clause-examines
returns-in_err-version-clause-examines g c =
    let found = c.in_default.ensures.found in
    let tables = subst (λ (s : Schema). HasTables 1 s found.0) c.schema.ensures.value found.1 in
    examines_fault g.S.Store c.args.conn.now c.version_told.new.conn IsReadVersion c.in_err-version.field-0.0 IsBasis
    (examines_version g.S.Store c.args.conn.now c.version_told.new.conn found.0 tables _ c.in_err-version.ensures)
    c.from_residual-in_err-version.result c.from_residual-in_err-version.ensures.1

pub returns-clause-examines : goal.returns-clause-examines
returns-clause-examines g c =
    let found = c.in_default.ensures.found in
    let tables = subst (λ (s : Schema). HasTables 1 s found.0) c.schema.ensures.value found.1 in
    examines_then g.S.Store c.args.conn.now c.version_told.new.conn c.find_world_of.new.conn c.in_ok-version.version IsReadVersion
    (examines_version g.S.Store c.args.conn.now c.version_told.new.conn found.0 tables _ c.in_ok-version.ensures)
    _ _ c.find_world_of.ensures.examines IsBasis (λ y told then. then (record { read = told; trees = found.0; there = tables }))

pub returns-in-Err-clause-later : goal.returns-in-Err-clause-later
returns-in-Err-clause-later g c = c.in_ok-finding.ensures.later

pub returns-clause-later : goal.returns-clause-later
returns-clause-later g c =
    later_then g.S.Store c.args.conn.now c.version_told.new.conn c.find_world_of.new.conn c.in_ok-version.version c.in_ok-version.ensures.asks c.find_world_of.result c.find_world_of.ensures.examines.asks
    IsBasisLater c.find_world_of.ensures.later
