use Rattle.std.proofs.Common.{ap, ◌∙◌}
use Rattle.wu_rules.specs.Transition.{timed, has_too_many_errors, has_too_many_total, added}
use Rattle.wu_rules.proofs.Timing.{timed-start}
use Rattle.wu_rules.proofs.transitioner.plan_at_once.Goals as goal

pub returns : goal.returns
returns c =
    let e = ap (λ now. timed c.args.workunit.now now) c.first.ensures ∙ timed-start c.args.workunit.now in
    record {
      errors = c.plan_of.ensures.errors ∙ ap has_too_many_errors e;
      total = c.plan_of.ensures.total ∙ ap has_too_many_total e;
      added = c.plan_of.ensures.added ∙ ap added e;
    }
