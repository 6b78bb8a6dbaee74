use Rattle.std.proofs.Common.{None, ap, subst, sym}
use Rattle.wu_cli.specs.Repeating.{most_rounds}
use Rattle.wu_cli.specs.Scripting.{line_fault, PerformsStep}
use Rattle.wu_cli.specs.Trying.{PerformsAs, PerformsBy, step_as}
use Rattle.wu_cli.proofs.RepeatLemmas.{may_stop, step_once}
use Rattle.wu_cli.proofs.repeating.perform_by_mode.Goals as goal

pub returns-in-Once : goal.returns-in-Once
returns-in-Once g c =
    let step = c.args.step.now in
    step_once g.W.Write.contents c.args.project.now c.act.new.project c.args.out.now c.act.new.out (step_as step None) c.act.result.0 tt (ap most_rounds c.in-Once.is)
    (subst (λ m. PerformsBy g.W.Write.contents m c.args.project.now c.act.new.project c.args.out.now c.act.new.out step.action c.act.result.0) (sym c.in-Once.is) c.act.ensures.does)

pub returns-in-Repeated : goal.returns-in-Repeated
returns-in-Repeated g c =
    let step = c.args.step.now in
    subst (λ m. PerformsStep g.W.Write.contents c.args.project.now c.repeat.new.project c.args.out.now c.repeat.new.out (record { number = step.number; mode = m; action = step.action }) (line_fault step.number c.repeat.result))
    (sym c.in-Repeated.is) (c.repeat.ensures step.number)

pub returns-in-Tried : goal.returns-in-Tried
returns-in-Tried g c =
    let step = c.args.step.now in
    let (stop, does) = c.attempt.ensures in
    step_once g.W.Write.contents c.args.project.now c.attempt.new.project c.args.out.now c.attempt.new.out (step_as step stop) c.attempt.result (may_stop step stop c.in-Tried.is) (ap most_rounds c.in-Tried.is)
    (subst (λ m. PerformsAs g.W.Write.contents stop m c.args.project.now c.attempt.new.project c.args.out.now c.attempt.new.out step.action c.attempt.result) (sym c.in-Tried.is) does)
