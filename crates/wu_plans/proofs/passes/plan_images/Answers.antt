use Rattle.std.proofs.Common.{rules, inr, ◌<◌, ◌^◌}
use Rattle.wu_plans.proofs.AskLemmas.{asks_handed, asks_then, handed_on}
use Rattle.wu_plans.proofs.PlanLemmas.{classed}
use Rattle.wu_plans.proofs.ExitLemmas.{handed_going, told_going}
use Rattle.wu_plans.proofs.passes.plan_images.Goals as goal
use Rattle.wu_store.proofs.AskLemmas.{handed_is, opens_handed, opens_then}

pub returns-in_err-taken : goal.returns-in_err-taken
returns-in_err-taken g c = record {
  reads = let r = c.from_residual.result in
      let fault = c.in_err-taken.field-0.0 in
      let same = c.from_residual.ensures.1 in
      let it = c.in_err-taken.ensures.reads in
      let low : c.args.ask.now.limit < 2 ^ 63 = search rules in
      record {
        asks = asks_handed g.S.Store _ _ r fault same it.asks;
        opens = λ asked. opens_handed r fault same g.S.Store c.load_due.new.conn (it.opens low);
        fault = handed_going r fault same it.fault;
        found = λ clean world stands is project. rw (handed_is r fault same) (inr it.fault);
        unrefused = λ clean world stands can limit. handed_on r fault same (it.unrefused clean world (classed world can.0, stands) (low, can.1.storable) limit);
      };
}

pub returns : goal.returns
returns g c = record {
  reads = let low : c.args.ask.now.limit < 2 ^ 63 = search rules in
      record {
        asks = asks_then g.S.Store c.args.conn.now c.load_due.new.conn c.plan_taken.new.conn c.in_ok-taken.taken c.in_ok-taken.ensures.reads.asks c.plan_taken.result c.plan_taken.ensures.asks;
        opens = λ asked. opens_then g.S.Store _ _ (c.in_ok-taken.ensures.reads.opens low) c.plan_taken.result c.plan_taken.ensures.asks;
        fault = told_going c.plan_taken.result c.plan_taken.ensures.fault;
        found = search rules;
        unrefused = search rules;
      };
}
