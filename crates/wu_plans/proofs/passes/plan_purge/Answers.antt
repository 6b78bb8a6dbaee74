use Rattle.std.proofs.Common.{rules, inl, inr, ◌<◌, ◌^◌, ◌≡◌, length, subst, sym}
use Rattle.wu_machine.specs.declared.command.Answer.TheVariants as answer
use Rattle.wu_plans.specs.PassPlans.{asked}
use Rattle.wu_plans.specs.Planning.{Plans}
use Rattle.sqlite.specs.Held.{state}
use Rattle.wu_store.proofs.AskLemmas.{asks_row, read_handed, handed_is, opens_handed, opens_made}
use Rattle.wu_plans.proofs.AskLemmas.{asks_handed, asks_made, handed_on}
use Rattle.wu_plans.proofs.PassPlanLemmas.{purge_planned}
use Rattle.wu_plans.proofs.PlanLemmas.{classed}
use Rattle.wu_plans.proofs.ExitLemmas.{handed_going}
use Rattle.wu_plans.proofs.passes.plan_purge.Goals as goal

pub returns-in_err-numbers : goal.returns-in_err-numbers
returns-in_err-numbers g c = record {
  reads = let r = c.from_residual.result in
      let fault = c.in_err-numbers.field-0.0 in
      let same = c.from_residual.ensures.1 in
      let it = c.in_err-numbers.ensures.reads in
      let low : c.args.ask.now.limit < 2 ^ 63 = search rules in
      record {
        asks = asks_handed g.S.Store _ _ r fault same it.asks;
        opens = λ asked. opens_handed r fault same g.S.Store c.due_numbers.new.conn (it.opens low);
        fault = handed_going r fault same it.fault;
        found = λ clean world stands is project. rw (handed_is r fault same) (inr it.fault);
        unrefused = λ clean world stands can limit. handed_on r fault same (it.unrefused clean world (classed world can.0, stands) low limit);
      };
}

pub returns : goal.returns
returns g c = record {
  reads = record {
    asks = asks_made g.S.Store _ _ c.in_ok-numbers.numbers _ (λ is. absurd cc) c.in_ok-numbers.ensures.reads.asks;
    opens = λ asked. let low : c.args.ask.now.limit < 2 ^ 63 = search rules in
        c.in_ok-numbers.ensures.reads.opens low;
    fault = search rules;
    found = λ clean world stands is project. let counted : c.len-count.result ≡ length c.in_ok-numbers.numbers.items = search rules in
        let numbers = c.in_ok-numbers.ensures.reads.found clean world (classed world is, stands) in
        let planned = purge_planned (state g.S.Store c.args.conn.now).now world stands.refines is c.args.ask.now c.requires.purge c.requires.right c.in_ok-numbers.numbers.items numbers c.len-count.result counted in
        subst (λ cs. Plans world (asked c.args.ask.now) (answer.Passed c.args.ask.now.pass c.len-count.result) cs) (sym c.in_ok-changes.ensures.ok) planned;
    unrefused = search rules;
  };
}

pub returns-in_err-changes : goal.returns-in_err-changes
returns-in_err-changes g c = record {
  reads = record {
    asks = let r = c.from_residual-in_err-changes.result in
        let told = read_handed r c.in_err-changes.field-0.0 c.from_residual-in_err-changes.ensures.1 (inl c.in_err-changes.ensures.fault) in
        asks_row g.S.Store _ _ c.in_ok-numbers.numbers r told c.in_ok-numbers.ensures.reads.asks;
    opens = λ asked. let low : c.args.ask.now.limit < 2 ^ 63 = search rules in
        opens_made g.S.Store c.due_numbers.new.conn c.from_residual-in_err-changes.result (c.in_ok-numbers.ensures.reads.opens low);
    fault = search rules;
    found = search rules;
    unrefused = search rules;
  };
}
