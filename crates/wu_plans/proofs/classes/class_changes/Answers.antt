use Rattle.std.proofs.Common.{rules, ◌≡◌, ◌∙◌, sym}
use Rattle.std.proofs.lemmas.List.{map-id}
use Rattle.std.proofs.lemmas.Iterator.Adapters.{YieldsList-from_vec}
use Rattle.std.proofs.lemmas.Iterator.Consumers.{YieldsList-end}
use Rattle.wu_plans.proofs.classes.class_changes.Goals as goal

pub returns : goal.returns
returns c = record {
  ok =
      let seen = YieldsList-end (YieldsList-from_vec {s = c.into_iter-row-iterator.result} c.into_vec-row-items.result.items (search rules) (search rules)) c.loop-row.yielded c.loop-row.row-iterator c.loop-row.yielded_by c.next.result c.next.new.self c.in-None.is c.next.ensures.steps in
      let whole : c.loop-row.yielded ≡ c.args.classes = sym (map-id c.loop-row.yielded) ∙ seen.0 ∙ c.into_vec-row-items.ensures in
      rw whole at c.loop-row.invariant;
  fault = tt;
}
