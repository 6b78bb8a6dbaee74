use Rattle.std.proofs.Common.{rules, ◌≡◌, ◌++◌, [], ◌∷◌, length-append, arith}
use Rattle.wu_store.specs.declared.changes.Change.TheVariants.{Archive}
use Rattle.wu_plans.proofs.PassPlanLemmas.{row_placed}
use Rattle.wu_plans.proofs.passes.with_archived.Goals as goal

pub loop-row-preserved : goal.loop-row-preserved
loop-row-preserved c =
    let (at, are) = c.loop-row.invariant in
    let grown : c.push.new.self.items ≡ c.loop-row.changes.items ++ Archive c.loop-row.seq c.in-Some.row ∷ [] = search rules in (
      omega (arith, at, length-append c.loop-row.yielded (c.in-Some.row ∷ [])),
      row_placed c.args.place c.loop-row.seq c.loop-row.yielded c.in-Some.row c.args.changes.now.items c.loop-row.changes.items c.push.new.self.items at are grown,
    )
