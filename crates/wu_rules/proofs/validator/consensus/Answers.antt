use Rattle.std.proofs.Common.{sym, true, ◌∙◌}
use Rattle.wu_rules.specs.Counts.{is_agreed}
use Rattle.wu_rules.specs.Validation.{refused_where, with_refused}
use Rattle.wu_rules.proofs.Refusing.{position_from-map}
use Rattle.wu_rules.proofs.validator.consensus.Goals as goal

pub returns-clause-value : goal.returns-clause-value
returns-clause-value c =
    let w = c.args.workunit.now in
    c.first_agreed.ensures.value ∙ sym (position_from-map (is_agreed (with_refused true w)) (refused_where true) 0 w.instances)
