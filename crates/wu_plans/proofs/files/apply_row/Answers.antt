use Rattle.wu_store.proofs.AskLemmas.{reads_handed}
use Rattle.std.proofs.Common.{ℕ, ◌≡◌, ◌∙◌, Ok, List, arith, subst, rules}
use Rattle.sqlite.specs.Held.{state}
use Rattle.sqlite.specs.State.{HasCleanDisk}
use Rattle.wu_schema.specs.Refines.{Refines}
use Rattle.wu_plans.specs.Touched.{IsTouched}
use Rattle.wu_plans.proofs.AskLemmas.{asks_handed, asks_made, asks_stands, asks_then, handed_on}
use Rattle.wu_plans.proofs.ExitLemmas.{handed_told}
use Rattle.wu_plans.proofs.FileLemmas.{row_applied}
use Rattle.wu_plans.proofs.PlanLemmas.{named_loads}
use Rattle.wu_plans.proofs.files.apply_row.Goals as goal

pub returns-clause-reads : goal.returns-clause-reads
returns-clause-reads g c = record {
  asks = asks_then g.S.Store c.args.conn.now c.touch.new.conn c.find_class.new.conn c.in_ok-touch.field-0 c.in_ok-touch.ensures.asks (Ok c.apply.result)
      (asks_made g.S.Store _ _ c.in_ok-class.class (Ok c.apply.result) (λ is. absurd cc) c.in_ok-class.ensures.asks);
  opens = λ never. absurd never;
  fault = search rules;
  found = λ clean world stands known rows verdicts before. let between : HasCleanDisk (state g.S.Store c.touch.new.conn) = omega (arith, c.find_class.ensures.asks.crash.clean) in
      let still : Refines (state g.S.Store c.touch.new.conn).now world = asks_stands g.S.Store _ _ c.in_ok-touch.field-0 c.in_ok-touch.ensures.asks between world stands in
      let class_is : c.in_ok-class.class ≡ g.R.FileRow.class_in world.classes c.args.row = c.in_ok-class.ensures.found clean world (known, still) in
      let at : IsTouched ((g.R.FileRow.rule c.in_ok-class.class).workunit c.args.row) world c.args.touched.now c.touch.new.touched =
      subst (λ (name : List ℕ). IsTouched name world c.args.touched.now c.touch.new.touched) (c.workunit.ensures c.in_ok-class.class) (c.in_ok-touch.ensures.found between world stands known before.images) in
      row_applied g.R.FileRow.rule g.R.FileRow.class_in world c.args.touched.now c.touch.new.touched c.apply.new.self rows c.args.row verdicts c.apply.result c.in_ok-class.class class_is before at
      c.apply.ensures.left c.apply.ensures.verdict c.apply.ensures.keeps;
  unrefused = search rules;
}

pub returns-in_err-touch-clause-reads : goal.returns-in_err-touch-clause-reads
returns-in_err-touch-clause-reads g c = reads_handed g.S.Store _ _ c.from_residual.result c.in_err-touch.field-0.0 c.from_residual.ensures.1 c.in_err-touch.ensures (λ other told world known rows verdicts before. tt) (λ world stands takes. (named_loads world takes.known takes.storable c.workunit.result.now))

pub returns-in_err-class-clause-reads : goal.returns-in_err-class-clause-reads
returns-in_err-class-clause-reads g c = record {
  asks = asks_then g.S.Store c.args.conn.now c.touch.new.conn c.find_class.new.conn c.in_ok-touch.field-0 c.in_ok-touch.ensures.asks c.from_residual-in_err-class.result
      (asks_handed g.S.Store _ _ c.from_residual-in_err-class.result c.in_err-class.field-0.0 c.from_residual-in_err-class.ensures.1 c.in_err-class.ensures.asks);
  opens = λ never. absurd never;
  fault = handed_told c.from_residual-in_err-class.result c.in_err-class.field-0.0 c.from_residual-in_err-class.ensures.1 c.in_err-class.ensures.fault;
  found = search rules;
  unrefused = λ clean world stands takes limit. let between : HasCleanDisk (state g.S.Store c.touch.new.conn) = omega (arith, c.find_class.ensures.asks.crash.clean) in
      let still : Refines (state g.S.Store c.touch.new.conn).now world = asks_stands g.S.Store _ _ c.in_ok-touch.field-0 c.in_ok-touch.ensures.asks between world stands in
      handed_on c.from_residual-in_err-class.result c.in_err-class.field-0.0 c.from_residual-in_err-class.ensures.1
      (c.in_err-class.ensures.unrefused clean world (takes.known, still) takes.classed (c.touch.ensures.asks.crash.limit ∙ limit));
}
