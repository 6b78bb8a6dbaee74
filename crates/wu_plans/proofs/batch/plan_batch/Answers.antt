use Rattle.wu_plans.proofs.ExitLemmas.{store_going}
use Rattle.wu_store.proofs.AskLemmas.{reads_handed, reads_also, opens_then}
use Rattle.wu_core.specs.declared.import.ImportKind.TheVariants as kind
use Rattle.wu_machine.specs.Commands.{batch_of, request_of_batch}
use Rattle.wu_plans.proofs.AskLemmas.{asks_then, found_in_range}
use Rattle.wu_machine.proofs.BatchKeeps.{asked_of}
use Rattle.wu_plans.proofs.ImportPlans.{repeated_planned}
use Rattle.std.proofs.Common.{inr, rules}
use Rattle.wu_store.proofs.AskLemmas.{reads_told}
use Rattle.wu_plans.proofs.ExitLemmas.{repeat_going, repeat_unbroken, repeat_unrefused}
use Rattle.wu_plans.specs.Planning.{given_of}
use Rattle.wu_plans.proofs.batch.plan_batch.Goals as goal

pub returns-in-Some : goal.returns-in-Some
returns-in-Some g c = record {
  reads = reads_also g.S.Store _ _ c.in_ok-earlier.field-0 c.repeated.result (repeat_unbroken (given_of c.batch_source.result) c.in-Some.earlier c.repeated.result c.repeated.ensures.fault) (repeat_going (given_of c.batch_source.result) c.in-Some.earlier c.repeated.result c.repeated.ensures.fault) c.in_ok-earlier.ensures.reads (λ world stands earlier is project. repeated_planned world (request_of_batch c.args.batch.now) (batch_of c.args.batch.now) (asked_of world is c.args.batch.now.name c.args.batch.now.template c.args.batch.now.file) c.in-Some.earlier c.repeated.result
      (rw c.in-Some.is at earlier) (rw c.batch_source.ensures at c.repeated.ensures.plan) (rw c.batch_source.ensures at c.repeated.ensures.fault))
      (λ world stands earlier can. repeat_unrefused (given_of c.batch_source.result) c.in-Some.earlier c.repeated.result c.repeated.ensures.fault);
}

pub returns-in_err-earlier : goal.returns-in_err-earlier
returns-in_err-earlier g c = record {
  reads = reads_told store_going (reads_handed g.S.Store _ _ c.from_residual.result c.in_err-earlier.field-0.0 c.from_residual.ensures.1 c.in_err-earlier.ensures.reads (λ other told world is project. inr told)
      (λ world stands project. (found_in_range kind.Batch c.args.batch.now.name world project.verdicts)));
}

pub returns-in-None : goal.returns-in-None
returns-in-None g c = record {
  reads = record {
    asks = asks_then g.S.Store c.args.conn.now c.import_of.new.conn c.plan_new.new.conn c.in_ok-earlier.field-0 c.in_ok-earlier.ensures.reads.asks c.plan_new.result c.plan_new.ensures.asks;
    opens = λ asked. opens_then g.S.Store _ _ (c.in_ok-earlier.ensures.reads.opens tt) c.plan_new.result c.plan_new.ensures.asks;
    fault = c.plan_new.ensures.fault;
    found = search rules;
    unrefused = search rules;
  };
}
