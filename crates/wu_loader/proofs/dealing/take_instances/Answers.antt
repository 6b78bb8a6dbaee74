use Rattle.wu_schema.proofs.Words.{[], arith, length, rules, ◌++◌, ◌<◌, ◌∷◌, ◌≡◌}
use Rattle.std.proofs.lemmas.List.{length-append}
use Rattle.wu_core.specs.Limits.{most_instances}
use Rattle.wu_loader.proofs.DealLemmas.{taken_more}
use Rattle.wu_loader.proofs.dealing.take_instances.Goals as goal

pub each-preserved-in-Continue-branch-2 : goal.each-preserved-in-Continue-branch-2
each-preserved-in-Continue-branch-2 c =
    let grown : c.push.new.self.items ≡ c.each.instances.items ++ c.in-Some.placed.instance ∷ [] = search rules in
    let low : length c.each.instances.items < most_instances = search rules in
    let long = length-append c.each.instances.items (c.in-Some.placed.instance ∷ []) in
    rw grown (taken_more c.args.workunit c.each.instances.items c.args.left.now.items c.each.left.items c.pop_front.new.self.items c.in-Some.placed c.each.invariant.0 c.in-Some.ensures.items (search rules), omega (arith, low, long))
