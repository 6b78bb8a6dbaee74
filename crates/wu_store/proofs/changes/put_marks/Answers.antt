use Rattle.wu_schema.proofs.Words.{ap, subst, sym, ◌∙◌, rules}
use Rattle.wu_core.specs.declared.marks.Marks.{Marks}
use Rattle.wu_schema.specs.Queue.{HasQueue}
use Rattle.wu_schema.proofs.CallLemmas.{ok_both, ok_on}
use Rattle.wu_store.specs.Changes.{with_replaced}
use Rattle.wu_store.specs.Queues.{with_set_marks}
use Rattle.wu_store.specs.StandsFor.{marked}
use Rattle.wu_store.proofs.ReplaceLemmas.{marks_replaced, marks_same}
use Rattle.wu_store.proofs.SpareLemmas.{of_queue}
use Rattle.wu_schema.proofs.OthersLemmas.{spares_none}
use Rattle.wu_schema.specs.Others.{tables_of_workunits}
use Rattle.wu_store.proofs.changes.put_marks.Goals as goal

pub returns-then-is_same_marks : goal.returns-then-is_same_marks
returns-then-is_same_marks g c = record {
  works = search rules;
  puts = λ clean first world before found s q.
      let same = sym c.marks_of.ensures ∙ c.is_same_marks.ensures.0 c.if-is_same_marks.true ∙ c.marks_of-marks.ensures in
      (s, subst (HasQueue _) (marks_same c.args.workunit.now first world before c.args.was.now found same) q);
  idle = search rules;
  spares = λ clean. spares_none tables_of_workunits _;
}

pub returns : goal.returns
returns g c = record {
  works = search rules;
  puts = λ clean.
      let w = c.args.workunit.now in
      ok_both c.set_marks.result _ _ _ (λ sets stays first world before found s q. (
        stays (with_replaced w world) (marked world) s q,
        subst (HasQueue _) (ap (λ (m : Marks). with_set_marks w.number m (marked world)) c.marks_of-marks.ensures ∙ marks_replaced w first world before c.args.was.now found) (sets (with_replaced w world) (marked world) s q),
      )) (c.set_marks.ensures.makes clean) (c.set_marks.ensures.keeps clean);
  idle = search rules;
  spares = λ clean. ok_on c.set_marks.result _ _ (of_queue _ _) (c.set_marks.ensures.spares clean);
}
