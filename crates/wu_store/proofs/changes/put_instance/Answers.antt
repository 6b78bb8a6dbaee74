use Rattle.wu_schema.proofs.Words.{Instance, Refines, Some, ap, subst, ◌∙◌, rules}
use Rattle.std.proofs.Common.{option_map}
use Rattle.wu_schema.proofs.CallLemmas.{ok_both, ok_on}
use Rattle.wu_store.proofs.ReplaceLemmas.{added_is_put, added_there, got_below, same_world_put, set_world_put}
use Rattle.wu_store.proofs.SpareLemmas.{of_result}
use Rattle.wu_schema.proofs.OthersLemmas.{spares_none}
use Rattle.wu_schema.specs.Others.{tables_of_workunits}
use Rattle.wu_store.proofs.changes.put_instance.Goals as goal

pub returns-in-None : goal.returns-in-None
returns-in-None g c = record {
  works = search rules;
  puts = λ clean.
      let n = c.args.n in
      let i = c.args.instance.now in
      ok_both c.insert_instance.result _ _ _ (λ puts queue world w s found low got.
      let none = got ∙ ap (option_map (λ i. i.now)) c.in-None.is in (
        subst (Refines _) (added_is_put _ world s c.args.workunit w found n i low none) (puts world s (added_there _ world s c.args.workunit w found n i low none)),
        λ marked q. queue world marked s q,
      )) (c.insert_instance.ensures.makes clean) (c.insert_instance.ensures.keeps clean);
  idle = search rules;
  spares = λ clean. ok_on c.insert_instance.result _ _ (of_result _ _) (c.insert_instance.ensures.spares clean);
}

pub returns-then-is_same_instance : goal.returns-then-is_same_instance
returns-then-is_same_instance g c = record {
  works = search rules;
  puts = λ clean world w s found low got.
      let here = got ∙ ap (option_map (λ i. i.now)) c.in-Some.is ∙ ap (λ (i : Instance). Some i) (c.is_same_instance.ensures.0 c.if-is_same_instance.true) in
      (subst (Refines _) (same_world_put _ world s c.args.workunit w found c.args.n c.args.instance.now here) s, λ marked q. q);
  idle = search rules;
  spares = λ clean. spares_none tables_of_workunits _;
}

pub returns-else-is_same_instance : goal.returns-else-is_same_instance
returns-else-is_same_instance g c = record {
  works = search rules;
  puts = λ clean.
      let n = c.args.n in
      let i = c.args.instance.now in
      ok_both c.set_instance.result _ _ _ (λ sets queue world w s found low got.
      let here = got ∙ ap (option_map (λ i. i.now)) c.in-Some.is in
      let less = got_below w.instances n _ here in (
        subst (Refines _) (set_world_put _ world s c.args.workunit w found n i less) (sets world w s found less),
        λ marked q. queue world w marked s found less q,
      )) (c.set_instance.ensures.makes clean) (c.set_instance.ensures.keeps clean);
  idle = search rules;
  spares = λ clean. ok_on c.set_instance.result _ _ (of_result _ _) (c.set_instance.ensures.spares clean);
}
