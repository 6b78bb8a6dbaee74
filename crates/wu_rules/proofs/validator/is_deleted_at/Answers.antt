use Rattle.std.proofs.Common.{arith, false}
use Rattle.wu_core.specs.declared.workunit.Instance.{Instance}
use Rattle.wu_rules.proofs.Placing.{found_at, missing_at}
use Rattle.wu_rules.specs.Instances.{is_deleted_file}
use Rattle.wu_rules.proofs.validator.is_deleted_at.Goals as goal

pub returns-in-None : goal.returns-in-None
returns-in-None c = missing_at (λ (i : Instance). is_deleted_file i.file_delete) false c.args.instances.now c.args.n c.in-None.ensures.lookup.3

pub returns-in-Some : goal.returns-in-Some
returns-in-Some c =
    let it = c.in-Some.ensures.lookup in
    found_at (λ (i : Instance). is_deleted_file i.file_delete) false c.args.instances.now c.args.n c.in-Some.instance.now it.3.0 it.1 c.eq.result (grind arith)
