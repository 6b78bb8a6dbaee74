use Rattle.wu_schema.proofs.Words.{Err, Ok, Schema, arith, inr, state, subst, sym}
use Rattle.wu_schema.specs.Tables.{IsClassedVersion}
use Rattle.wu_schema.specs.ProjectTables.{HasTables}
use Rattle.wu_check.specs.Findings.{IsBasisOf, TellsLaterFirst}
use Rattle.wu_check.specs.declared.checking.Basis.TheVariants as basis
use Rattle.wu_check.specs.declared.finding.Finding.{Finding}
use Rattle.wu_check.proofs.ExamineLemmas.{FindsOf, TellsOfVersion, lacks, examines_fault, examines_later, examines_made, examines_row, examines_world, first_there, serves_then}
use Rattle.wu_schema.proofs.AskingLemmas.{asks_then}
use Rattle.wu_store.proofs.AskLemmas.{opens_handed}
use Rattle.wu_check.proofs.LaterLemmas.{later_then}
use Rattle.wu_check.proofs.checking.find_world_of.Goals as goal

pub returns-in-Err-clause-examines : goal.returns-in-Err-clause-examines
returns-in-Err-clause-examines g c =
    examines_made g.S.Store c.args.conn.now c.unless_later.new.conn _ c.in_ok-finding.finding (basis.Unsound c.in_ok-finding.finding) (IsBasisOf c.args.version)
    (λ then told. then (first_there c.args.version (state g.S.Store c.args.conn.now).now c.in-Err.misfit told
    (lacks c.args.version (state g.S.Store c.args.conn.now).now c.schema.result.now c.schema.ensures.value c.in-Err.misfit (inr told) c.in-Err.ensures.told c.in-Err.ensures.missing (λ world stands known. subst IsClassedVersion (sym (told.read.stands world stands)) known))))
    c.in_ok-finding.ensures.examines

pub returns-in_err-loaded-clause-examines : goal.returns-in_err-loaded-clause-examines
returns-in_err-loaded-clause-examines g c =
    let found = c.in_default.ensures.found in
    let tables = subst (λ (s : Schema). HasTables c.args.version s found.0) c.schema.ensures.value found.1 in
    examines_fault g.S.Store c.args.conn.now c.load_world.new.conn (FindsOf c.args.version) c.in_err-loaded.field-0.0 (IsBasisOf c.args.version)
    (examines_world c.args.version g.S.Store c.args.conn.now c.load_world.new.conn found.0 tables _ c.in_err-loaded.ensures)
    c.from_residual-in_err-loaded.result c.from_residual-in_err-loaded.ensures.1

pub returns-in-World-clause-examines : goal.returns-in-World-clause-examines
returns-in-World-clause-examines g c =
    let found = c.in_default.ensures.found in
    let tables = subst (λ (s : Schema). HasTables c.args.version s found.0) c.schema.ensures.value found.1 in
    examines_made g.S.Store c.args.conn.now c.load_world.new.conn (FindsOf c.args.version) c.in_ok-loaded.field-0 (basis.World c.in-World.loaded) (IsBasisOf c.args.version)
    (λ found first. subst (FindsOf c.args.version (state g.S.Store c.args.conn.now).now) c.in-World.is found first.read)
    (examines_world c.args.version g.S.Store c.args.conn.now c.load_world.new.conn found.0 tables _ c.in_ok-loaded.ensures)

pub returns-in_err-found-in-Wrong-clause-examines : goal.returns-in_err-found-in-Wrong-clause-examines
returns-in_err-found-in-Wrong-clause-examines g c =
    let found = c.in_default.ensures.found in
    let tables = subst (λ (s : Schema). HasTables c.args.version s found.0) c.schema.ensures.value found.1 in
    examines_fault g.S.Store c.args.conn.now c.finding_of_row.new.conn (TellsOfVersion c.args.version) c.in_err-found-in-Wrong.field-0.0 (IsBasisOf c.args.version)
    (examines_row c.args.version g.S.Store c.args.conn.now c.load_world.new.conn c.finding_of_row.new.conn c.in_ok-loaded.field-0 c.in-Wrong.wrong c.in-Wrong.is
    (examines_world c.args.version g.S.Store c.args.conn.now c.load_world.new.conn found.0 tables _ c.in_ok-loaded.ensures)
    (Err c.in_err-found-in-Wrong.field-0.0) c.in_err-found-in-Wrong.ensures.examines)
    c.from_residual-in_err-found-in-Wrong.result c.from_residual-in_err-found-in-Wrong.ensures.1

pub returns-in_err-found-in-Wrong-clause-opens : goal.returns-in_err-found-in-Wrong-clause-opens
returns-in_err-found-in-Wrong-clause-opens g c =
    opens_handed c.from_residual-in_err-found-in-Wrong.result c.in_err-found-in-Wrong.field-0.0 c.from_residual-in_err-found-in-Wrong.ensures.1 g.S.Store c.finding_of_row.new.conn
    (serves_then {U = Finding} g.S.Store c.load_world.new.conn c.finding_of_row.new.conn c.in_ok-loaded.field-0 (Err c.in_err-found-in-Wrong.field-0.0) (λ clean. omega (arith, clean, c.in_err-found-in-Wrong.ensures.examines.asks.crash.clean)) c.in_ok-loaded.ensures.looks.opens c.in_err-found-in-Wrong.ensures.stays)

pub returns-in_ok-finding-in-Wrong-clause-examines :
    goal.returns-in_ok-finding-in-Wrong-clause-examines
returns-in_ok-finding-in-Wrong-clause-examines g c =
    let found = c.in_default.ensures.found in
    let tables = subst (λ (s : Schema). HasTables c.args.version s found.0) c.schema.ensures.value found.1 in
    examines_made g.S.Store c.args.conn.now c.unless_later-in-Wrong.new.conn (TellsOfVersion c.args.version) c.in_ok-finding-in-Wrong.finding (basis.Unsound c.in_ok-finding-in-Wrong.finding) (IsBasisOf c.args.version) (λ told first. told first.read)
    (examines_later c.args.version g.S.Store c.args.conn.now c.load_world.new.conn c.finding_of_row.new.conn c.in_ok-loaded.field-0 c.in-Wrong.wrong c.in-Wrong.is
    (examines_world c.args.version g.S.Store c.args.conn.now c.load_world.new.conn found.0 tables _ c.in_ok-loaded.ensures)
    c.unless_later-in-Wrong.new.conn c.in_ok-found-in-Wrong.found c.in_ok-found-in-Wrong.ensures.examines _ c.in_ok-finding-in-Wrong.ensures.examines)

pub returns-in_err-finding-in-Wrong-clause-examines :
    goal.returns-in_err-finding-in-Wrong-clause-examines
returns-in_err-finding-in-Wrong-clause-examines g c =
    let found = c.in_default.ensures.found in
    let tables = subst (λ (s : Schema). HasTables c.args.version s found.0) c.schema.ensures.value found.1 in
    examines_fault g.S.Store c.args.conn.now c.unless_later-in-Wrong.new.conn (TellsOfVersion c.args.version) c.in_err-finding-in-Wrong.field-0.0 (IsBasisOf c.args.version)
    (examines_later c.args.version g.S.Store c.args.conn.now c.load_world.new.conn c.finding_of_row.new.conn c.in_ok-loaded.field-0 c.in-Wrong.wrong c.in-Wrong.is
    (examines_world c.args.version g.S.Store c.args.conn.now c.load_world.new.conn found.0 tables _ c.in_ok-loaded.ensures)
    c.unless_later-in-Wrong.new.conn c.in_ok-found-in-Wrong.found c.in_ok-found-in-Wrong.ensures.examines _ c.in_err-finding-in-Wrong.ensures.examines)
    c.from_residual-in_err-finding-in-Wrong.result c.from_residual-in_err-finding-in-Wrong.ensures.1

pub returns-in-Err-clause-later : goal.returns-in-Err-clause-later
returns-in-Err-clause-later g c = c.in_ok-finding.ensures.later

pub returns-in_ok-finding-in-Wrong-clause-later : goal.returns-in_ok-finding-in-Wrong-clause-later
returns-in_ok-finding-in-Wrong-clause-later g c =
    let last = c.in_ok-finding-in-Wrong.ensures.examines.asks in
    let row = c.in_ok-found-in-Wrong.ensures.examines.asks in
    later_then g.S.Store c.args.conn.now c.load_world.new.conn c.unless_later-in-Wrong.new.conn c.in_ok-loaded.field-0 c.in_ok-loaded.ensures.looks.asks (Ok c.in_ok-finding-in-Wrong.finding)
    (asks_then g.S.Store c.load_world.new.conn c.finding_of_row.new.conn c.unless_later-in-Wrong.new.conn c.in_ok-found-in-Wrong.found row (Ok c.in_ok-finding-in-Wrong.finding) last)
    TellsLaterFirst
    (later_then g.S.Store c.load_world.new.conn c.finding_of_row.new.conn c.unless_later-in-Wrong.new.conn c.in_ok-found-in-Wrong.found row (Ok c.in_ok-finding-in-Wrong.finding) last TellsLaterFirst c.in_ok-finding-in-Wrong.ensures.later)
