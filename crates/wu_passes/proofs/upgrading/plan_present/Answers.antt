use Rattle.wu_machine.specs.Requests.{AskUpgrade}
use Rattle.wu_machine.specs.Sound.{IsProject}
use Rattle.wu_plans.specs.Planning.{PlansFor}
use Rattle.wu_store.proofs.AskLemmas.{reads_over, reads_then, reads_err}
use Rattle.std.proofs.Common.{inr}
use Rattle.wu_passes.proofs.upgrading.plan_present.Goals as goal

pub returns-in_err-version : goal.returns-in_err-version
returns-in_err-version g c = record { reads = reads_over (λ db world stands. stands.refines) (reads_err g.S.Store _ _ c.from_residual.result c.in_err-version.field-0.0 c.from_residual.ensures.1 c.in_err-version.ensures.reads (λ world stands tells project. inr (tells project)) (λ world stands project. project)) }

pub returns : goal.returns
returns g c = record {
  reads = let one = c.in_ok-version.ensures.reads in
      let whole = reads_then g.S.Store _ _ _ c.in_ok-version.version one c.plan_upgrade.result c.plan_upgrade.ensures.reads {Then = λ r world. PlansFor AskUpgrade r world} {May = IsProject}
      (λ world stands version plans project. plans (version project) project) (λ world stands version project. (version project, project)) in
      reads_over (λ db world stands. stands.refines) whole;
}
