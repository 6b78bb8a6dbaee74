use Rattle.std.proofs.Common.{subst}
use Rattle.wu_cli.specs.Scripting.{line_fault, PerformsStep}
use Rattle.wu_cli.proofs.repeating.perform_step.Goals as goal

pub returns-in-Some-clause-does : goal.returns-in-Some-clause-does
returns-in-Some-clause-does g c =
    let did = c.perform_by_mode in
    subst (λ end. PerformsStep g.W.Write.contents c.args.project.now did.new.project c.args.out.now did.new.out c.args.step.now (line_fault c.args.step.now.number end)) c.in-Some.is did.ensures

pub returns-in-None-clause-does : goal.returns-in-None-clause-does
returns-in-None-clause-does g c =
    let did = c.perform_by_mode in
    subst (λ end. PerformsStep g.W.Write.contents c.args.project.now did.new.project c.args.out.now did.new.out c.args.step.now (line_fault c.args.step.now.number end)) c.in-None.is did.ensures
