use Rattle.std.proofs.Common.{◌≡◌, ◌∙◌, Result, ap, subst, sym, take}
use Rattle.wu_core.specs.declared.fault.Fault.{Fault}
use Rattle.wu_report.specs.Seeing.{Sees}
use Rattle.std.proofs.Math.Seq.{take-length}
use Rattle.wu_arguments.specs.declared.action.Action.TheVariants.{Commands}
use Rattle.wu_cli.specs.Repeating.{fill_limit, is_full}
use Rattle.wu_cli.proofs.RepeatLemmas.{tells_full}
use Rattle.wu_cli.proofs.repeating.act.Goals as goal

pub returns-in-Commands-clause-full : goal.returns-in-Commands-clause-full
returns-in-Commands-clause-full g c none going clean world shows =
    let given = c.as_slice.result.now in
    let ran = c.drive_and_count-handled in
    let same : given ≡ c.in-Commands.commands = c.as_slice.ensures in
    let again : c.as_slice-in-Commands.result.now ≡ c.in-Commands.commands = c.as_slice-in-Commands.ensures in
    c.fill_limit.ensures ∙ ap (λ cs. fill_limit cs ran.result.1) (again ∙ sym same)
    ∙ tells_full c.args.project.now ran.new.project given ran.result.0 ran.result.1 ran.ensures.counts
    (λ e. ap (λ k. take k given) (ran.ensures.runs.all e) ∙ take-length given) none going clean world shows
    ∙ ap (λ cs. is_full world (Commands cs)) same ∙ ap (λ a. is_full world a) (sym c.in-Commands.is)

pub returns-in-Ok-clause-does : goal.returns-in-Ok-clause-does
returns-in-Ok-clause-does g c =
    rw c.in-Look.is (subst (λ (r : Result (Unit {0}) Fault). Sees g.W.Write.contents c.args.project.now c.show.new.project c.args.out.now c.show.new.out c.in-Look.view r) c.in-Ok.is c.show.ensures)

pub returns-in-Err-clause-does : goal.returns-in-Err-clause-does
returns-in-Err-clause-does g c =
    rw c.in-Look.is (subst (λ (r : Result (Unit {0}) Fault). Sees g.W.Write.contents c.args.project.now c.show.new.project c.args.out.now c.show.new.out c.in-Look.view r) c.in-Err.is c.show.ensures)
