use Rattle.std.proofs.Common.{◌∙◌, Some, None, ap, subst, sym}
use Rattle.wu_cli.specs.Performing.{Performs}
use Rattle.wu_cli.specs.Trying.{PassesOver}
use Rattle.wu_cli.proofs.TryLemmas.{action_stopped, tries_done, tries_ended, tries_refused}
use Rattle.wu_cli.proofs.repeating.attempt.Goals as goal

pub returns-in-NotAProject : goal.returns-in-NotAProject
returns-in-NotAProject g c =
    let act = c.act-end in
    let passed = c.pass_over in
    let told = c.in-Some.is ∙ ap (λ f. Some f) c.in-NotAProject.is in
    action_stopped g.W.Write.contents c.args.project.now act.new.project c.args.out.now act.new.out passed.new.out c.args.action.now passed.result
    (subst (λ end. Performs g.W.Write.contents c.args.project.now act.new.project c.args.out.now act.new.out c.args.action.now end) told act.ensures.does)
    (subst (λ f. PassesOver g.W.Write.contents act.new.out passed.new.out f passed.result) c.in-NotAProject.is passed.ensures)

pub returns-then-is_refusal : goal.returns-then-is_refusal
returns-then-is_refusal g c =
    let act = c.act-end in
    let passed = c.pass_over-then-is_refusal in (
      None,
      tries_refused g.W.Write.contents c.args.project.now act.new.project c.args.out.now act.new.out passed.new.out c.args.action.now act.result.0 act.ensures.does c.in-Some.fault passed.result
          c.in-Some.is (sym c.is_refusal.ensures ∙ c.if-is_refusal.true) passed.ensures,
    )

pub returns-else-is_refusal : goal.returns-else-is_refusal
returns-else-is_refusal g c =
    let act = c.act-end in (
      None,
      tries_ended g.W.Write.contents c.args.project.now act.new.project c.args.out.now act.new.out act.new.out c.args.action.now act.result.0 act.ensures.does c.in-Some.fault
          c.in-Some.is (sym c.is_refusal.ensures ∙ c.if-is_refusal.false) c.in_default.not-NotAProject,
    )

pub returns-in-None : goal.returns-in-None
returns-in-None g c =
    let act = c.act-end in
    (None, tries_done g.W.Write.contents c.args.project.now act.new.project c.args.out.now act.new.out act.new.out c.args.action.now act.result.0 act.ensures.does c.in-None.is)
