use Rattle.std.proofs.Common.{rules, ◌≡◌, ◌∙◌, arith, None}
use Rattle.sqlite.specs.State.{HasCleanDisk}
use Rattle.sqlite.specs.Held.{state}
use Rattle.wu_schema.specs.Refines.{Refines}
use Rattle.wu_machine.specs.Batches.{first_taken}
use Rattle.wu_plans.proofs.BatchLemmas.{jobs_planned, names_refused}
use Rattle.wu_plans.proofs.AskLemmas.{asks_handed, asks_made, asks_stands, asks_then, handed_on}
use Rattle.wu_plans.proofs.ExitLemmas.{memory_unbroken, memory_unrefused}
use Rattle.wu_plans.proofs.batch.plan_jobs.Goals as goal
use Rattle.wu_store.proofs.AskLemmas.{handed_is}

pub returns-in_err-check_names : goal.returns-in_err-check_names
returns-in_err-check_names g c = record {
  asks = asks_handed g.S.Store _ _ c.from_residual.result c.in_err-check_names.field-0.0 c.from_residual.ensures.1 c.in_err-check_names.ensures.asks;
  opens = λ never. absurd never;
  fault = search rules;
  found = λ clean world stands is project new template_is file_is. rw (handed_is c.from_residual.result c.in_err-check_names.field-0.0 c.from_residual.ensures.1)
      (names_refused world is project c.args.batch.now.name c.args.batch.now.template c.args.batch.now.file c.args.params c.args.jobs c.in_err-check_names.field-0.0 new template_is file_is (rw c.as_slice.ensures at (c.in_err-check_names.ensures.found clean world stands)));
  unrefused = λ clean world stands project limit. handed_on c.from_residual.result c.in_err-check_names.field-0.0 c.from_residual.ensures.1 (c.in_err-check_names.ensures.unrefused clean world stands tt limit);
}

pub returns : goal.returns
returns g c = record {
  asks = asks_then g.S.Store c.args.conn.now c.check_names.new.conn c.next_number.new.conn c.in_ok-check_names.field-0 c.in_ok-check_names.ensures.asks c.new_batch.result
      (asks_made g.S.Store _ _ c.in_ok-next.next c.new_batch.result (memory_unbroken c.new_batch.result c.new_batch.ensures.fault) c.in_ok-next.ensures.reads.asks);
  opens = λ never. absurd never;
  fault = search rules;
  found = λ clean world stands is project new template_is file_is. let before : HasCleanDisk (state g.S.Store c.check_names.new.conn) = omega (arith, c.next_number.ensures.reads.asks.crash.clean) in
      let still : Refines (state g.S.Store c.check_names.new.conn).now world = asks_stands g.S.Store _ _ c.in_ok-check_names.field-0 c.in_ok-check_names.ensures.asks before world stands in
      let free : first_taken world c.args.jobs ≡ None = rw c.as_slice.ensures at (c.in_ok-check_names.ensures.found before world stands) in
      let next_is = c.in_ok-next.ensures.reads.found clean world still in
      jobs_planned world is project c.args.batch.now.name c.args.batch.now.template c.args.batch.now.file c.args.params c.args.jobs _ c.new_batch.result new template_is file_is free next_is (search rules) c.new_batch.ensures.ok c.new_batch.ensures.fault;
  unrefused = λ clean world stands project limit. memory_unrefused c.new_batch.result c.new_batch.ensures.fault;
}

pub returns-in_err-next : goal.returns-in_err-next
returns-in_err-next g c = record {
  asks = asks_then g.S.Store c.args.conn.now c.check_names.new.conn c.next_number.new.conn c.in_ok-check_names.field-0 c.in_ok-check_names.ensures.asks c.from_residual-in_err-next.result
      (asks_handed g.S.Store _ _ c.from_residual-in_err-next.result c.in_err-next.field-0.0 c.from_residual-in_err-next.ensures.1 c.in_err-next.ensures.reads.asks);
  opens = λ never. absurd never;
  fault = search rules;
  found = search rules;
  unrefused = λ clean world stands project limit. let before : HasCleanDisk (state g.S.Store c.check_names.new.conn) = omega (arith, c.next_number.ensures.reads.asks.crash.clean) in
      let still : Refines (state g.S.Store c.check_names.new.conn).now world = asks_stands g.S.Store _ _ c.in_ok-check_names.field-0 c.in_ok-check_names.ensures.asks before world stands in
      handed_on c.from_residual-in_err-next.result c.in_err-next.field-0.0 c.from_residual-in_err-next.ensures.1
      (c.in_err-next.ensures.reads.unrefused clean world still project.next (c.check_names.ensures.asks.crash.limit ∙ limit));
}
