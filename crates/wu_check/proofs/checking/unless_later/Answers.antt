use Rattle.wu_schema.proofs.Words.{Err, Fault, IfErr, IfOk, None, NotAProject, Ok, Option, Result, Some, rules, state, subst, ℕ, ◌≡◌}
use Rattle.wu_schema.proofs.AskingLemmas.{asks_made}
use Rattle.wu_schema.specs.Versions.{AnswersVersion, RefusesVersion}
use Rattle.wu_check.proofs.LaterLemmas.{known_later, refused_later, tells_row, told_later}
use Rattle.wu_check.proofs.checking.unless_later.Goals.{in-Ok-Some+else-not-is_known, in-Ok+in-None-1, in-Err+in-NotAProject-1}
use Rattle.wu_check.proofs.checking.unless_later.Goals as goal
use Rattle.wu_store.proofs.AskLemmas.{never_err}

pub returns-in-Ok-Some-clause-examines : goal.returns-in-Ok-Some-clause-examines
returns-in-Ok-Some-clause-examines g c = record {
  asks = asks_made g.S.Store c.args.conn.now c.version_of.new.conn c.in-Ok-Some.field-0 _ (never_err _) c.in-Ok-Some.ensures.asks;
  says = λ clean kept told.
      let now = (state g.S.Store c.args.conn.now).now in
      tells_row now c.in-Ok-Some.version (subst (AnswersVersion now) c.in-Ok-Some.field-0-is (c.in-Ok-Some.ensures.answers clean))
      (λ known. let yes = c.is_known.ensures.1 known in let no = c.if-not-is_known.true in cc);
  fault = tt;
  answered = λ clean unlimited. tt;
}

pub returns-in-Ok-Some-clause-later : goal.returns-in-Ok-Some-clause-later
returns-in-Ok-Some-clause-later g c clean =
    let now = (state g.S.Store c.args.conn.now).now in
    told_later c.args.conn.now.step_limit now c.in-Ok-Some.version (subst (AnswersVersion now) c.in-Ok-Some.field-0-is (c.in-Ok-Some.ensures.answers clean))

pub returns-in-Ok-clause-later : goal.returns-in-Ok-clause-later
returns-in-Ok-clause-later g c clean =
    let now = (state g.S.Store c.args.conn.now).now in
    let limit = c.args.conn.now.step_limit in
    elim c.in-Ok-1.branch [
      | in-Ok-Some+else-not-is_known w ↦ known_later limit now (Some w.in-Ok-Some.version) (subst (AnswersVersion now) w.in-Ok-Some.field-0-is (w.in-Ok-Some.ensures.answers clean)) (w.is_known.ensures.0 w.if-not-is_known.false) c.args.finding
      | in-Ok+in-None-1 w ↦
          let is : c.version_of.result ≡ Ok None = search rules in
          known_later limit now None (subst (λ (r : Result (Option ℕ) Fault). IfOk r (AnswersVersion now)) is (c.version_of.ensures.answers clean)) tt c.args.finding
      | in-Err+in-NotAProject-1 w ↦
          let is : c.version_of.result ≡ Err NotAProject = search rules in
          refused_later limit now (subst (λ (r : Result (Option ℕ) Fault). IfErr r (RefusesVersion limit now)) is (c.version_of.ensures.refuses clean)) c.args.finding
    ]
