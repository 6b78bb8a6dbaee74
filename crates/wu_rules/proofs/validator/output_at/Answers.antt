use Rattle.std.proofs.Common.{[]}
use Rattle.wu_core.specs.declared.workunit.Instance.{Instance}
use Rattle.wu_rules.proofs.Placing.{found_at, missing_at}
use Rattle.wu_rules.proofs.validator.output_at.Goals as goal

pub returns-in-None : goal.returns-in-None
returns-in-None c = missing_at (λ (i : Instance). i.output) [] c.args.instances.now c.args.n c.in-None.ensures.lookup.3

pub returns-in-Some : goal.returns-in-Some
returns-in-Some c =
    let it = c.in-Some.ensures.lookup in
    found_at (λ (i : Instance). i.output) [] c.args.instances.now c.args.n c.in-Some.instance.now it.3.0 it.1 c.as_slice.result.now c.as_slice.ensures
