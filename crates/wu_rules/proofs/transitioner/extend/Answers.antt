use Rattle.std.proofs.Common.{◌≡◌, ◌++◌, map, replicate, ap, refl, ◌∙◌}
use Rattle.wu_core.specs.Workunit.{fresh}
use Rattle.wu_rules.specs.Instances.{timed_out}
use Rattle.wu_rules.proofs.Timing.{map-timed_out-extended}
use Rattle.wu_rules.proofs.transitioner.extend.Goals as goal

pub returns-clause-ok : goal.returns-clause-ok
returns-clause-ok c =
    let grown : c.time_out_all.new.instances ≡ map (timed_out c.args.now) c.args.workunit.now.instances ++ replicate c.plan_of-plan.result.added fresh =
    c.time_out_all.ensures ∙ (ap (λ zs. map (timed_out c.args.now) zs) c.in_ok-add_unsent.ensures.ok ∙ map-timed_out-extended c.args.now c.plan_of-plan.result.added c.args.workunit.now.instances) in
    rw (c.mark.ensures, grown, c.plan_of-plan.ensures.errors, c.plan_of-plan.ensures.total, c.plan_of-plan.ensures.added) refl
