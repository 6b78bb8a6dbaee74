use Rattle.std.proofs.Common.{rules, ◌≡◌, ◌+◌, ◌++◌, ◌∷◌, [], length, sym, ◌∙◌}
use Rattle.std.proofs.lemmas.List.{map-id}
use Rattle.std.proofs.lemmas.Iterator.Adapters.{YieldsList-from_vec}
use Rattle.std.proofs.lemmas.Iterator.Consumers.{YieldsList-end}
use Rattle.wu_machine.specs.Batches.{new_workunit}
use Rattle.wu_store.specs.declared.changes.Change.TheVariants.{Add, Next}
use Rattle.wu_plans.proofs.PlanLemmas.{additions_more, additions_whole}
use Rattle.wu_plans.proofs.batch.additions.Goals as goal

pub loop-job-preserved : goal.loop-job-preserved
loop-job-preserved c =
    let grown : c.push.new.self.items ≡ c.loop-job.changes.items ++ Add (new_workunit c.args.params (c.args.next + length c.loop-job.changes.items) c.in-Some.job) ∷ [] = search rules in
    additions_more c.args.params c.args.next c.loop-job.yielded c.in-Some.job c.loop-job.changes.items c.push.new.self.items c.loop-job.invariant grown

pub returns : goal.returns
returns c = record {
  ok =
      let grown : c.push-2.new.self.items ≡ c.loop-job.changes.items ++ Next (c.args.next + length c.loop-job.changes.items) ∷ [] = search rules in
      let seen = YieldsList-end (YieldsList-from_vec {s = c.into_iter-job-iterator.result} c.into_vec-job-items.result.items (search rules) (search rules)) c.loop-job.yielded c.loop-job.job-iterator c.loop-job.yielded_by c.next.result c.next.new.self c.in-None.is c.next.ensures.steps in
      let whole : c.loop-job.yielded ≡ c.args.jobs = sym (map-id c.loop-job.yielded) ∙ seen.0 ∙ c.into_vec-job-items.ensures in
      rw whole at (additions_whole c.args.params c.args.next c.loop-job.yielded c.loop-job.changes.items c.push-2.new.self.items c.loop-job.invariant grown);
  fault = tt;
}
