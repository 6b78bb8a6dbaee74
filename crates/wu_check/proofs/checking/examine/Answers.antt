use Rattle.wu_schema.proofs.Words.{Database, List, Ok, Option, Refines, Schema, Workunit, ap, arith, length, state, subst, sym, ◌<◌, ◌^◌, ◌∙◌}
use Rattle.std.proofs.Common.{rules}
use Rattle.std.specs.Prelude.{IsNone, sum_by}
use Rattle.wu_check.specs.Findings.{IsBasis, IsBasisLater, IsJudged, Judges, Says}
use Rattle.wu_check.specs.Examining.{Examines}
use Rattle.wu_tables.specs.Upgrades.{HasFreeNames, TakesUpgradeName}
use Rattle.wu_check.specs.declared.finding.Counts.{Counts}
use Rattle.wu_check.specs.declared.finding.Finding.{Finding}
use Rattle.wu_check.specs.declared.finding.Finding.TheVariants as finding
use Rattle.wu_check.specs.declared.finding.Verdict.TheVariants as verdict
use Rattle.wu_check.proofs.ExamineLemmas.{examines_fault, examines_made, examines_seen, examines_then, serves_then}
use Rattle.wu_check.proofs.LaterLemmas.{judged_later, known_world_later}
use Rattle.wu_check.proofs.SizeLemmas.{counts_fit}
use Rattle.wu_check.proofs.VerdictLemmas.{judged_sound, judged_taken}
use Rattle.wu_check.proofs.checking.examine.Given
use Rattle.wu_check.proofs.checking.examine.Goals as goal
use Rattle.wu_check.proofs.checking.examine.Goals.{After-taken_name}

pub returns-in_err-loaded-clause-examines : goal.returns-in_err-loaded-clause-examines
returns-in_err-loaded-clause-examines g c = examines_fault g.S.Store c.args.conn.now c.find_world.new.conn IsBasis c.in_err-loaded.field-0.0 Says c.in_err-loaded.ensures.examines c.from_residual.result c.from_residual.ensures.1

pub returns-in-Unsound-clause-examines : goal.returns-in-Unsound-clause-examines
returns-in-Unsound-clause-examines g c =
    examines_made g.S.Store c.args.conn.now c.find_world.new.conn IsBasis c.in_ok-loaded.field-0 (verdict.Unsound c.in-Unsound.finding) Says
    (λ basis. subst (IsBasis (state g.S.Store c.args.conn.now).now) c.in-Unsound.is basis) c.in_ok-loaded.ensures.examines

pub returns-in-Unsound-clause-opens : goal.returns-in-Unsound-clause-opens
returns-in-Unsound-clause-opens g c = c.in_ok-loaded.ensures.opens

pub returns-in-Some-clause-opens : goal.returns-in-Some-clause-opens
returns-in-Some-clause-opens g c =
    serves_then g.S.Store c.find_world.new.conn c.judge_world.new.conn c.in_ok-loaded.field-0 (Ok c.in_ok-finding.field-0) (λ clean. omega (arith, clean, c.in_ok-finding.ensures.examines.asks.crash.clean)) c.in_ok-loaded.ensures.opens c.in_ok-finding.ensures.stays

pub returns-in_err-finding-clause-examines : goal.returns-in_err-finding-clause-examines
returns-in_err-finding-clause-examines g c =
    let Is : Database → Option Finding → Type 0 = λ db found. Refines db c.in-World.loaded × Judges db c.in-World.loaded found in
    let now = (state g.S.Store c.args.conn.now).now in
    examines_fault g.S.Store c.args.conn.now c.judge_world.new.conn Is c.in_err-finding.field-0.0 Says
    (examines_then g.S.Store c.args.conn.now c.find_world.new.conn c.judge_world.new.conn c.in_ok-loaded.field-0 IsBasis c.in_ok-loaded.ensures.examines _ _ c.in_err-finding.ensures.examines Is
    (λ y basis then. let stands = subst (IsBasis now) c.in-World.is basis in (stands, then stands)))
    c.from_residual-in_err-finding.result c.from_residual-in_err-finding.ensures.1

pub returns-in-Some-clause-examines : goal.returns-in-Some-clause-examines
returns-in-Some-clause-examines g c =
    let Is : Database → Option Finding → Type 0 = λ db found. Refines db c.in-World.loaded × Judges db c.in-World.loaded found in
    let now = (state g.S.Store c.args.conn.now).now in
    examines_made g.S.Store c.args.conn.now c.judge_world.new.conn Is c.in_ok-finding.field-0 (verdict.Unsound c.in-Some.finding) Says
    (λ h. subst (Judges now c.in-World.loaded) c.in-Some.is h.1)
    (examines_then g.S.Store c.args.conn.now c.find_world.new.conn c.judge_world.new.conn c.in_ok-loaded.field-0 IsBasis c.in_ok-loaded.ensures.examines _ _ c.in_ok-finding.ensures.examines Is
    (λ y basis then. let stands = subst (IsBasis now) c.in-World.is basis in (stands, then stands)))

pub instances_in-requires : goal.instances_in-requires
instances_in-requires g c =
    let none : IsNone c.in_ok-finding.field-0 = search rules in
    let few = counts_fit c.in-World.loaded (c.in_ok-finding.ensures.sound none) in
    subst (λ (ws : List Workunit). sum_by (λ (w : Workunit). length w.instances) ws < 2 ^ 64) (sym c.workunits-2.ensures) few

pub returns-clause-opens : goal.returns-clause-opens
returns-clause-opens g c =
    serves_then g.S.Store c.find_world.new.conn c.judge_world.new.conn c.in_ok-loaded.field-0 (Ok c.in_ok-finding.field-0) (λ clean. omega (arith, clean, c.in_ok-finding.ensures.examines.asks.crash.clean)) c.in_ok-loaded.ensures.opens c.in_ok-finding.ensures.stays

-- the world was judged right
judged : (g : Given.Over) (c : After-taken_name g) → Examines g.S.Store c.args.conn.now c.judge_world.new.conn (Ok c.in_ok-finding.field-0) (λ db found. Refines db c.in-World.loaded × Judges db c.in-World.loaded found)
judged g c =
    let now = (state g.S.Store c.args.conn.now).now in
    examines_then g.S.Store c.args.conn.now c.find_world.new.conn c.judge_world.new.conn c.in_ok-loaded.field-0 IsBasis c.in_ok-loaded.ensures.examines _ _ c.in_ok-finding.ensures.examines (λ db found. Refines db c.in-World.loaded × Judges db c.in-World.loaded found)
    (λ y basis then. let stands = subst (IsBasis now) c.in-World.is basis in (stands, then stands))

pub returns-clause-examines : goal.returns-clause-examines
returns-clause-examines g c =
    let now = (state g.S.Store c.args.conn.now).now in
    let version = c.version.ensures ∙ sym c.version-2.ensures in
    let counts : Counts = record { version = c.version-2.result; workunits = length c.workunits.result.now; results = c.instances_in.result } in
    examines_seen g.S.Store c.args.conn.now c.judge_world.new.conn _ c.in_ok-finding.field-0 (verdict.Sound counts) Says
    (λ same h. judged_sound now c.in-World.loaded h.0 (subst (Judges now c.in-World.loaded) c.in_default.is h.1) counts
    (c.version-2.ensures, ap (λ (ws : List Workunit). length ws) c.workunits.ensures, c.instances_in.ensures ∙ ap (λ (ws : List Workunit). sum_by (λ (w : Workunit). length w.instances) ws) c.workunits-2.ensures)
    (subst (HasFreeNames now.schema) version (subst (λ (s : Schema). HasFreeNames s c.version.result) (c.schema.ensures.value ∙ ap (λ (db : Database). db.schema) same) c.in_default-taken_name.ensures.free)))
    (judged g (goal.at.returns-clause-examines g c).After-taken_name)

pub returns-in-Some-taken_name-clause-examines : goal.returns-in-Some-taken_name-clause-examines
returns-in-Some-taken_name-clause-examines g c =
    let now = (state g.S.Store c.args.conn.now).now in
    let name = c.in-Some-taken_name.name in
    let version = c.version.ensures ∙ sym c.version-in-Some-taken_name.ensures in
    examines_seen g.S.Store c.args.conn.now c.judge_world.new.conn _ c.in_ok-finding.field-0 (verdict.Unsound (finding.Taken c.version-in-Some-taken_name.result name)) Says
    (λ same h. judged_taken now c.in-World.loaded h.0 (subst (Judges now c.in-World.loaded) c.in_default.is h.1) c.version-in-Some-taken_name.result c.version-in-Some-taken_name.ensures name.now
    (subst (λ v. TakesUpgradeName now.schema v name.now) version (subst (λ (s : Schema). TakesUpgradeName s c.version.result name.now) (c.schema.ensures.value ∙ ap (λ (db : Database). db.schema) same) c.in-Some-taken_name.ensures.taken)))
    (judged g (goal.at.returns-in-Some-taken_name-clause-examines g c).After-taken_name)

pub returns-in-Unsound-clause-later : goal.returns-in-Unsound-clause-later
returns-in-Unsound-clause-later g c = λ clean legible. subst (IsBasisLater c.args.conn.now.step_limit (state g.S.Store c.args.conn.now).now) c.in-Unsound.is (c.in_ok-loaded.ensures.later clean)

pub returns-in-Some-clause-later : goal.returns-in-Some-clause-later
returns-in-Some-clause-later g c = λ clean legible.
    let now = (state g.S.Store c.args.conn.now).now in
    let found = c.in_ok-loaded.ensures.examines.says (omega (arith, clean, c.in_ok-finding.ensures.examines.asks.crash.clean)) legible in
    judged_later c.args.conn.now.step_limit now c.in-World.loaded (subst (IsBasis now) c.in-World.is found) c.in_ok-finding.field-0 c.in_ok-finding.ensures.unknown c.in-Some.finding c.in-Some.is

pub returns-in-Some-taken_name-clause-later : goal.returns-in-Some-taken_name-clause-later
returns-in-Some-taken_name-clause-later g c = λ clean legible.
    let now = (state g.S.Store c.args.conn.now).now in
    let h = (judged g (goal.at.returns-in-Some-taken_name-clause-later g c).After-taken_name).says clean legible in
    let right : IsJudged now c.in-World.loaded = subst (Judges now c.in-World.loaded) c.in_default.is h.1 in
    known_world_later c.args.conn.now.step_limit now c.in-World.loaded h.0 right.known (finding.Taken c.version-in-Some-taken_name.result c.in-Some-taken_name.name)
