use Rattle.std.proofs.Common.{refl}
use Rattle.wu_rules.specs.Instances.{is_error, timed_out}
use Rattle.wu_rules.proofs.Lists.{count-map}
use Rattle.wu_rules.proofs.count.error_count.Goals as goal

pub returns : goal.returns
returns c =
    let same = count-map is_error (λ i. is_error (timed_out c.args.now i)) (timed_out c.args.now) (λ i. refl) c.args.workunit.now.instances in
    cc
