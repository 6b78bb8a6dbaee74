use Rattle.wu_rules.proofs.Timing.{unsent-timed, kept-timed}
use Rattle.wu_rules.proofs.transitioner.needed_count.Goals as goal

pub returns : goal.returns
returns c =
    let a = unsent-timed c.args.workunit.now c.args.now in
    let b = kept-timed c.args.workunit.now c.args.now in
    cc
