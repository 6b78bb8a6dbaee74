use Rattle.std.proofs.Common.{[], ◌∷◌, ◌++◌, inl, inr, refl, subst}
use Rattle.wu_cli.specs.Hearing.{heard_text}
use Rattle.wu_cli.specs.Sessions.{AnswersHeard}
use Rattle.wu_cli.proofs.AcceptLemmas.{runs_session}
use Rattle.wu_cli.proofs.HearingLemmas.{hears_more, hears_none}
use Rattle.wu_cli.proofs.SessionLemmas.{answers_more, answers_none}
use Rattle.wu_cli.proofs.session.serve.Goals as goal

pub loop-init : goal.loop-init
loop-init g c = ([], answers_none g.W.Write.contents (g.F.ReadFile.gives c.args.files.now) (g.F.MakeExport.exports c.args.files.now) c.args.db.now c.args.project.now c.args.out.now, hears_none (g.R.Read.remaining c.args.input.now))

pub loop-preserved : goal.loop-preserved
loop-preserved g c =
    let (heard, each, hears) = c.loop.invariant in
    let one = heard_text c.in-Ok-Some.heard in
    let went = subst (λ ends. AnswersHeard g.W.Write.contents (g.F.ReadFile.gives c.args.files.now) (g.F.MakeExport.exports c.args.files.now) c.args.db.now c.loop.project c.answer.new.project c.loop.out c.answer.new.out one ends) c.in_default.is c.answer.ensures in (
      heard ++ one ∷ [],
      answers_more g.W.Write.contents (g.F.ReadFile.gives c.args.files.now) (g.F.MakeExport.exports c.args.files.now) c.args.db.now _ _ _ _ _ _ heard one each went,
      hears_more _ _ _ heard one hears (rw c.in-Ok-Some.field-0-is at c.in-Ok-Some.ensures),
    )

pub returns-in-Some : goal.returns-in-Some
returns-in-Some g c =
    let (heard, each, hears) = c.loop.invariant in
    runs_session g.W.Write.contents (g.F.ReadFile.gives c.args.files.now) (g.F.MakeExport.exports c.args.files.now) c.args.db.now _ _ _ _ _ _ _ _ _ heard _ each hears
    (inr (record { last = heard_text c.in-Ok-Some.heard; ends = c.answer.result; answered = c.answer.ensures; heard = inl (rw c.in-Ok-Some.field-0-is at c.in-Ok-Some.ensures, c.in-Some.is) }))

pub returns-in-Ok-None : goal.returns-in-Ok-None
returns-in-Ok-None g c =
    let (heard, each, hears) = c.loop.invariant in
    runs_session g.W.Write.contents (g.F.ReadFile.gives c.args.files.now) (g.F.MakeExport.exports c.args.files.now) c.args.db.now _ _ _ _ _ _ _ _ _ heard _ each hears
    (let (at_end, nothing) = rw c.in-Ok-None.field-0-is at c.in-Ok-None.ensures in inl (record { status_is = refl; same = refl; unwritten = refl; at_end = at_end; nothing = nothing }))

pub returns-in-Err : goal.returns-in-Err
returns-in-Err g c =
    let (heard, each, hears) = c.loop.invariant in
    runs_session g.W.Write.contents (g.F.ReadFile.gives c.args.files.now) (g.F.MakeExport.exports c.args.files.now) c.args.db.now _ _ _ _ _ _ _ _ _ heard _ each hears (inr (c.end_unread.ensures _ _))

pub returns : goal.returns
returns g c =
    let (heard, each, hears) = c.loop.invariant in
    runs_session g.W.Write.contents (g.F.ReadFile.gives c.args.files.now) (g.F.MakeExport.exports c.args.files.now) c.args.db.now _ _ _ _ _ _ _ _ _ heard _ each hears (inr (c.end_unread-2.ensures _ _))
