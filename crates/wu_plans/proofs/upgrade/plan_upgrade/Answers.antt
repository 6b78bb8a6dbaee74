use Rattle.wu_plans.proofs.ExitLemmas.{store_going}
use Rattle.wu_store.proofs.AskLemmas.{reads_told, reads_handed, reads_if}
use Rattle.std.proofs.Common.{inr}
use Rattle.wu_plans.proofs.PlanLemmas.{no_classes}
use Rattle.wu_plans.proofs.upgrade.plan_upgrade.Goals as goal

pub returns-in_err-rows : goal.returns-in_err-rows
returns-in_err-rows g c = record {
  reads = reads_told store_going (reads_handed g.S.Store _ _ c.from_residual.result c.in_err-rows.field-0.0 c.from_residual.ensures.1 (reads_if (λ was_open. tt) c.in_err-rows.ensures.reads) (λ other told world of project. inr told)
      (λ world stands p3. let (of, project) = p3 in (no_classes world c.args.version of c.if-version-lt-PRESENT_VERSION.true, project.storable)));
}
