use Rattle.wu_rules.proofs.Refusing.{left_now}
use Rattle.wu_rules.proofs.validator.validate.Goals as goal

pub conclude-requires : goal.conclude-requires
conclude-requires c = left_now c.args.workunit.now c.is_none.result c.refuse_all.new.instances c.is_none.ensures c.refuse_all.ensures
