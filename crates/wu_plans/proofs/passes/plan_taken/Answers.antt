use Rattle.std.proofs.Common.{rules, ◌≡◌, length}
use Rattle.sqlite.specs.Held.{state}
use Rattle.wu_plans.proofs.AskLemmas.{handed_on}
use Rattle.wu_plans.proofs.PassPlanLemmas.{pass_planned}
use Rattle.wu_plans.proofs.passes.plan_taken.Goals as goal

pub returns : goal.returns
returns g c = record {
  asks = search rules;
  opens = λ never. absurd never;
  fault = search rules;
  found = λ clean world stands is project are right. let counted : c.len-count.result ≡ length c.args.taken.items = search rules in
      pass_planned (state g.S.Store c.args.conn.now).now world stands is c.args.ask.now right c.args.taken.items are c.in_ok-handled.handled c.in_ok-handled.ensures.ok
      c.in_ok-changes.changes.items (c.in_ok-changes.ensures.found clean world stands) c.len-count.result counted;
  unrefused = search rules;
}

pub returns-in_err-changes : goal.returns-in_err-changes
returns-in_err-changes g c = record {
  asks = search rules;
  opens = λ never. absurd never;
  fault = search rules;
  found = search rules;
  unrefused = λ clean world stands any limit. handed_on c.from_residual-in_err-changes.result c.in_err-changes.field-0.0 c.from_residual-in_err-changes.ensures.1 (c.in_err-changes.ensures.unrefused clean world stands tt limit);
}
