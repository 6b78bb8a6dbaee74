use Rattle.std.proofs.Common.{length, refl, rules, ◌<◌, ◌≡◌}
use Rattle.wu_core.specs.World.{empty_world}
use Rattle.wu_plans.proofs.PassPlanLemmas.{has_grants}
use Rattle.wu_refill.proofs.AddingLemmas.{no_grants}
use Rattle.wu_schema.proofs.CallLemmas.{ok_on}
use Rattle.wu_refill.proofs.filling.add_grants.Goals as goal

pub returns-then-is_empty-clause-added : goal.returns-then-is_empty-clause-added
returns-then-is_empty-clause-added c =
    let none : length c.args.grants.items ≡ 0 = search rules in
    no_grants c.args.grants.items c.args.changes.now.items none

pub returns-clause-added : goal.returns-clause-added
returns-clause-added c =
    let grants = c.args.grants.items in
    let some : 0 < length grants = search rules in
    ok_on c.with_grants.result _ _ (has_grants empty_world 1 grants c.args.changes.now.items c.with_grants.new.changes.items refl some) c.with_grants.ensures.ok
