use Rattle.std.proofs.Common.{refl}
use Rattle.wu_rules.specs.Instances.{is_in_progress, timed_out}
use Rattle.wu_rules.proofs.Lists.{count-map}
use Rattle.wu_rules.proofs.count.in_progress_count.Goals as goal

pub returns-clause-value : goal.returns-clause-value
returns-clause-value c =
    let same = count-map is_in_progress (λ i. is_in_progress (timed_out c.args.now i)) (timed_out c.args.now) (λ i. refl) c.args.workunit.now.instances in
    cc
