use Rattle.wu_schema.proofs.Words.{Database, None, Option, Refines, Schema, Some, state, subst, sym}
use Rattle.std.proofs.Common.{rules}
use Rattle.std.specs.Prelude.{IfSome, IsNone}
use Rattle.std.proofs.lemmas.Bool.{iff_false}
use Rattle.wu_check.specs.Findings.{IsRightWorld, Judges, TellsOf}
use Rattle.wu_check.specs.Queues.{HasMarks}
use Rattle.wu_check.specs.declared.finding.Finding.{Finding}
use Rattle.wu_check.specs.declared.finding.Finding.TheVariants as finding
use Rattle.wu_store.specs.StandsFor.{IsQueued}
use Rattle.wu_check.proofs.ExamineLemmas.{MarksIn, examines_fault, examines_made, examines_marks, examines_memory, examines_none, stays_none}
use Rattle.wu_check.proofs.VerdictLemmas.{judged_right, judged_wrong}
use Rattle.wu_check.proofs.judging.judge_world.Goals as goal

pub returns-in_err-finding-clause-examines : goal.returns-in_err-finding-clause-examines
returns-in_err-finding-clause-examines g c = examines_memory g.S.Store c.args.conn.now _ c.in_err-finding.field-0.0 c.in_err-finding.ensures.memory c.from_residual.result c.from_residual.ensures.1

pub returns-in_err-finding-clause-stays : goal.returns-in_err-finding-clause-stays
returns-in_err-finding-clause-stays g c = stays_none g.S.Store c.args.conn.now c.from_residual.result

pub returns-in-Some-clause-examines : goal.returns-in-Some-clause-examines
returns-in-Some-clause-examines g c =
    let told : TellsOf c.schema.result.now c.args.loaded.now c.in-Some.finding = subst (λ (found : Option Finding). IfSome found (TellsOf c.schema.result.now c.args.loaded.now)) c.in-Some.is c.in_ok-finding.ensures.told in
    examines_none g.S.Store c.args.conn.now (Some c.in-Some.finding) (λ (db : Database) (found : Option Finding). Refines db c.args.loaded.now → Judges db c.args.loaded.now found)
    (told (state g.S.Store c.args.conn.now).now (sym c.schema.ensures.value))

pub returns-then-not-is_queued-clause-examines : goal.returns-then-not-is_queued-clause-examines
returns-then-not-is_queued-clause-examines g c =
    let none : IsNone c.in_ok-finding.field-0 = search rules in
    let right = subst (λ (s : Schema). IsRightWorld s c.args.loaded.now) c.schema.ensures.value (c.in_ok-finding.ensures.right none) in
    examines_none g.S.Store c.args.conn.now None (λ (db : Database) (found : Option Finding). Refines db c.args.loaded.now → Judges db c.args.loaded.now found)
    (λ stands. record { sound = right.sound; known = right.known; queue = λ queued. absurd (iff_false c.is_queued.ensures c.if-not-is_queued.true queued) })

pub returns-in_err-place-clause-examines : goal.returns-in_err-place-clause-examines
returns-in_err-place-clause-examines g c =
    let none : IsNone c.in_ok-finding.field-0 = search rules in
    let right = subst (λ (s : Schema). IsRightWorld s c.args.loaded.now) c.schema.ensures.value (c.in_ok-finding.ensures.right none) in
    let queued : IsQueued c.args.loaded.now = search rules in
    let queue = right.queue queued in
    examines_fault g.S.Store c.args.conn.now c.wrong_marks.new.conn (MarksIn g.S.Store c.args.conn.now c.wrong_marks.new.conn c.args.loaded.now queued queue.0 queue.1 c.schema.ensures.live) c.in_err-place.field-0.0 _
    (examines_marks g.S.Store c.args.conn.now c.wrong_marks.new.conn c.args.loaded.now queued queue.0 queue.1 c.schema.ensures.live _ c.in_err-place.ensures)
    c.from_residual-in_err-place.result c.from_residual-in_err-place.ensures.1

pub returns-in-Some-2-clause-examines : goal.returns-in-Some-2-clause-examines
returns-in-Some-2-clause-examines g c =
    let none : IsNone c.in_ok-finding.field-0 = search rules in
    let right = subst (λ (s : Schema). IsRightWorld s c.args.loaded.now) c.schema.ensures.value (c.in_ok-finding.ensures.right none) in
    let queued : IsQueued c.args.loaded.now = search rules in
    let queue = right.queue queued in
    let now = (state g.S.Store c.args.conn.now).now in
    examines_made g.S.Store c.args.conn.now c.wrong_marks.new.conn (MarksIn g.S.Store c.args.conn.now c.wrong_marks.new.conn c.args.loaded.now queued queue.0 queue.1 c.schema.ensures.live) c.in_ok-place.field-0 (Some (finding.Marks c.in-Some-2.place))
    (λ db found. Refines db c.args.loaded.now → Judges db c.args.loaded.now found)
    (λ h stands. judged_wrong now c.args.loaded.now queue.0 queue.1 right (h stands).0 stands queued c.in-Some-2.place (subst (HasMarks c.args.loaded.now (now.trees queue.0)) c.in-Some-2.is (h stands).1))
    (examines_marks g.S.Store c.args.conn.now c.wrong_marks.new.conn c.args.loaded.now queued queue.0 queue.1 c.schema.ensures.live _ c.in_ok-place.ensures)

pub returns-in-None-clause-examines : goal.returns-in-None-clause-examines
returns-in-None-clause-examines g c =
    let none : IsNone c.in_ok-finding.field-0 = search rules in
    let right = subst (λ (s : Schema). IsRightWorld s c.args.loaded.now) c.schema.ensures.value (c.in_ok-finding.ensures.right none) in
    let queued : IsQueued c.args.loaded.now = search rules in
    let queue = right.queue queued in
    let now = (state g.S.Store c.args.conn.now).now in
    examines_made g.S.Store c.args.conn.now c.wrong_marks.new.conn (MarksIn g.S.Store c.args.conn.now c.wrong_marks.new.conn c.args.loaded.now queued queue.0 queue.1 c.schema.ensures.live) c.in_ok-place.field-0 None
    (λ db found. Refines db c.args.loaded.now → Judges db c.args.loaded.now found)
    (λ h stands. judged_right now c.args.loaded.now queue.0 queue.1 right (h stands).0 (subst (HasMarks c.args.loaded.now (now.trees queue.0)) c.in-None.is (h stands).1))
    (examines_marks g.S.Store c.args.conn.now c.wrong_marks.new.conn c.args.loaded.now queued queue.0 queue.1 c.schema.ensures.live _ c.in_ok-place.ensures)
