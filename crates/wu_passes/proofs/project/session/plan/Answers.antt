use Rattle.wu_machine.specs.Sound.{IsProject}
use Rattle.wu_core.specs.World.{World}
use Rattle.wu_store.proofs.AskLemmas.{reads_over, reads_then, reads_err}
use Rattle.std.proofs.Common.{◌≡◌, ◌∙◌, arith, false, inr}
use Rattle.wu_machine.specs.Commands.{request_of}
use Rattle.wu_machine.specs.Machine.{is_upgrade, IsUpToDate}
use Rattle.wu_passes.proofs.project.session.plan.Goals.{else-version-lt-PRESENT_VERSION-via-then-version-lt-PRESENT_VERSION+else-not-is_upgrade, else-version-lt-PRESENT_VERSION-via-else-version-lt-PRESENT_VERSION}
use Rattle.wu_passes.proofs.project.session.plan.Goals as goal

pub returns-in_err-version : goal.returns-in_err-version
returns-in_err-version g c = record { reads = reads_over (λ db world stands. stands.refines) (reads_err g.S.Store _ _ c.from_residual.result c.in_err-version.field-0.0 c.from_residual.ensures.1 c.in_err-version.ensures.reads (λ world stands tells project. inr (tells project)) (λ world stands project. project)) }

pub returns : goal.returns
returns g c = record {
  reads = let ready : (world : World) → c.in_ok-version.version ≡ world.version → IsProject world → is_upgrade (request_of c.args.command.now) ≡ false → IsUpToDate world = λ world version project.
      let known = project.known in
      elim c.else-version-lt-PRESENT_VERSION.branch [
        | else-version-lt-PRESENT_VERSION-via-then-version-lt-PRESENT_VERSION+else-not-is_upgrade w ↦ λ other. absurd (let is = w.is_upgrade.ensures ∙ other in let no = w.if-not-is_upgrade.false in cc)
        | else-version-lt-PRESENT_VERSION-via-else-version-lt-PRESENT_VERSION w ↦ λ other. omega (arith, version, known, w.if-version-lt-PRESENT_VERSION.false)
      ] in
      reads_then g.S.Store _ _ _ c.in_ok-version.version (reads_over (λ db world stands. stands.refines) c.in_ok-version.ensures.reads) c.plan_at.result c.plan_at.ensures.reads
      (λ world stands version plans project. plans (version project) (ready world (version project) project, project)) (λ world stands version project. (version project, (ready world (version project) project, project)));
}
