use Rattle.std.proofs.Common.{rules, ◌≡◌}
use Rattle.sqlite_schema.specs.declared.code.Op.TheVariants.{Binary}
use Rattle.wu_tables.specs.Forms.{op_at}
use Rattle.wu_tables.proofs.TermLemmas.{one_says, says_one}
use Rattle.wu_tables.proofs.compare.is_one.Goals as goal

pub returns-in-Some-Binary : goal.returns-in-Some-Binary
returns-in-Some-Binary c =
    let at = c.in-Some-Binary in
    let found : op_at c.args.ops.now c.args.at ≡ Binary at.op at.left at.right = search rules in
    (λ h. says_one _ _ _ _ _ found (c.says_one.ensures.0 h), λ e. c.says_one.ensures.1 (one_says _ _ _ _ _ found e))
