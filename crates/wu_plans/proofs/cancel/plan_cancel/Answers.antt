use Rattle.wu_plans.proofs.ExitLemmas.{store_going}
use Rattle.wu_store.proofs.AskLemmas.{reads_told, reads_handed, reads_also}
use Rattle.std.proofs.Common.{◌≡◌, ◌∙◌, inl, inr, Some, sym, rules}
use Rattle.sqlite.specs.Held.{state}
use Rattle.wu_machine.specs.Worlds.{workunit_named}
use Rattle.wu_plans.proofs.CancelLemmas.{cancel_planned, cancel_unknown}
use Rattle.wu_plans.proofs.PlanLemmas.{classed, named_loads}
use Rattle.wu_plans.proofs.ExitLemmas.{serves_open}
use Rattle.wu_plans.proofs.cancel.plan_cancel.Goals as goal

pub returns-in-Some : goal.returns-in-Some
returns-in-Some g c = record {
  reads = record {
    asks = search rules;
    opens = λ asked clean. serves_open c.give_up.result (c.in_ok-workunit.ensures.reads.opens tt clean);
    fault = search rules;
    found = λ clean world stands is project. let present : workunit_named world c.args.name.now ≡ Some c.in-Some.workunit = sym (sym c.in-Some.is ∙ c.in_ok-workunit.ensures.reads.found clean world stands (classed world is)) in
        cancel_planned (state g.S.Store c.args.conn.now).now world stands is c.args.name.now c.in-Some.workunit present c.give_up.result c.give_up.ensures.plan c.give_up.ensures.fault;
    unrefused = search rules;
  };
}

pub returns-in-None : goal.returns-in-None
returns-in-None g c = record {
  reads = reads_also g.S.Store _ _ c.in_ok-workunit.field-0 _ (λ is. absurd cc) (λ is. absurd cc) c.in_ok-workunit.ensures.reads (λ world stands found is project.
      inl (cancel_unknown (state g.S.Store c.args.conn.now).now world stands is c.args.name.now (sym (sym c.in-None.is ∙ found (classed world is))))) (λ world stands found can is. absurd cc);
}

pub returns-in_err-workunit : goal.returns-in_err-workunit
returns-in_err-workunit g c = record {
  reads = reads_told store_going (reads_handed g.S.Store _ _ c.from_residual.result c.in_err-workunit.field-0.0 c.from_residual.ensures.1 c.in_err-workunit.ensures.reads (λ other told world is project. inr told)
      (λ world stands p3. let (is, project) = p3 in (named_loads world (classed world is) project.storable c.args.name.now)));
}
