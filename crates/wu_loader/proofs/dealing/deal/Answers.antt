use Rattle.wu_schema.proofs.Words.{ap, arith, flat_map, length, refl, rules, ◌++◌, ◌<◌, ◌≡◌, ◌≢◌, ◌≤◌, []}
use Rattle.std.proofs.lemmas.List.{length-append}
use Rattle.wu_loader.specs.Dealing.{placed_of}
use Rattle.wu_loader.proofs.DealLemmas.{deals_ended, deals_left, deals_next, first_undealt}
use Rattle.wu_loader.proofs.dealing.deal.Goals as goal

pub loop-workunit-preserved : goal.loop-workunit-preserved
loop-workunit-preserved c =
    let told = c.in_ok-instances.ensures in
    let low : c.loop-workunit.workunit-index < length c.loop-workunit.workunit-items = search rules in
    rw c.give_back.ensures (rw c.from_vec.ensures (deals_next _ _ _ _ _ c.loop-workunit.invariant _ _ c.workunit-item.result low told.taken told.few told.all))

pub returns-clause-none : goal.returns-clause-none
returns-clause-none c =
    let end : length c.loop-workunit.workunit-items ≤ c.loop-workunit.workunit-index = search rules in
    let so_far = deals_ended _ _ _ _ _ c.loop-workunit.invariant end in
    let some : c.loop-workunit.left.items ≢ [] = search rules in
    deals_left _ _ _ _ _ so_far some

pub returns-clause-told : goal.returns-clause-told
returns-clause-told c =
    let end : length c.loop-workunit.workunit-items ≤ c.loop-workunit.workunit-index = search rules in
    let so_far = deals_ended _ _ _ _ _ c.loop-workunit.invariant end in
    let some : c.loop-workunit.left.items ≢ [] = search rules in
    let a : length (flat_map placed_of c.loop-workunit.workunit-items ++ c.loop-workunit.left.items) ≡ length c.args.placed.items = ap (λ ps. length ps) so_far.all in
    let b = length-append (flat_map placed_of c.loop-workunit.workunit-items) c.loop-workunit.left.items in
    (refl, first_undealt _ _ _ _ _ so_far some _ (omega (arith, a, b)))
