use Rattle.std.proofs.Common.{◌≡◌, ◌∙◌, ◌+◌, ◌++◌, ◌∷◌, [], drop, take, Some, None, ap, subst, sym, take-append-drop}
use Rattle.std.proofs.lemmas.List.{drop_more, take_all, take_more}
use Rattle.wu_cli.specs.Scripting.{PerformsScript, PerformsStep}
use Rattle.wu_cli.proofs.RepeatLemmas.{script_cut, script_more, script_none}
use Rattle.wu_cli.proofs.TellingLemmas.{drives_script, lengthens_script}
use Rattle.wu_cli.proofs.PrintLemmas.{script_prints}
use Rattle.wu_cli.proofs.performing.perform_script.Goals as goal

pub loop-step-init : goal.loop-step-init
loop-step-init g c = script_none g.W.Write.contents _ _

pub loop-step-preserved : goal.loop-step-preserved
loop-step-preserved g c =
    let steps = c.args.steps.now in
    let i = c.loop-step.step-index in
    let next : take (i + 1) steps ≡ take i steps ++ c.step-item.result ∷ [] =
    take_more steps i c.step-item.result c.loop-step-test.true ∙ ap (λ y. take i steps ++ y ∷ []) (sym c.step-item.is) in
    subst (λ l. PerformsScript g.W.Write.contents c.args.project.now c.perform_step-status.new.project c.args.out.now c.perform_step-status.new.out l None) (sym next)
    (script_more g.W.Write.contents _ _ _ _ _ _ (take i steps) c.step-item.result c.loop-step.invariant
    (subst (λ end. PerformsStep g.W.Write.contents c.loop-step.project c.perform_step-status.new.project c.loop-step.out c.perform_step-status.new.out c.step-item.result end) c.in-None.is c.perform_step-status.ensures.does))

pub returns-in-Some-clause-does : goal.returns-in-Some-clause-does
returns-in-Some-clause-does g c =
    let steps = c.args.steps.now in
    let i = c.loop-step.step-index in
    let order : steps ≡ take i steps ++ c.step-item.result ∷ drop (i + 1) steps =
    sym (take-append-drop i steps) ∙ ap (λ l. take i steps ++ l) (drop_more steps i c.step-item.result c.loop-step-test.true ∙ ap (λ y. y ∷ drop (i + 1) steps) (sym c.step-item.is)) in
    subst (λ l. PerformsScript g.W.Write.contents c.args.project.now c.perform_step-status.new.project c.args.out.now c.perform_step-status.new.out l (Some c.in-Some.end)) (sym order)
    (script_cut g.W.Write.contents _ _ _ _ _ _ (take i steps) c.step-item.result c.loop-step.invariant (drop (i + 1) steps) c.in-Some.end
    (subst (λ end. PerformsStep g.W.Write.contents c.loop-step.project c.perform_step-status.new.project c.loop-step.out c.perform_step-status.new.out c.step-item.result end) c.in-Some.is c.perform_step-status.ensures.does))

pub returns-in-Some-clause-drives : goal.returns-in-Some-clause-drives
returns-in-Some-clause-drives g c = drives_script g.W.Write.contents _ _ _ _ c.args.steps.now (Some c.in-Some.end) (returns-in-Some-clause-does g c)

pub returns-in-Some-clause-lives : goal.returns-in-Some-clause-lives
returns-in-Some-clause-lives g c = lengthens_script g.W.Write.contents _ _ _ _ c.args.steps.now (Some c.in-Some.end) (returns-in-Some-clause-does g c)

pub returns-in-Some-clause-prints : goal.returns-in-Some-clause-prints
returns-in-Some-clause-prints g c = script_prints g.W.Write.contents _ _ _ _ c.args.steps.now (Some c.in-Some.end) (returns-in-Some-clause-does g c)

pub returns-clause-does : goal.returns-clause-does
returns-clause-does g c =
    subst (λ l. PerformsScript g.W.Write.contents c.args.project.now c.loop-step.project c.args.out.now c.loop-step.out l None) (take_all c.loop-step.step-index c.args.steps.now c.loop-step-test.false) c.loop-step.invariant

pub returns-clause-drives : goal.returns-clause-drives
returns-clause-drives g c = drives_script g.W.Write.contents _ _ _ _ c.args.steps.now None (returns-clause-does g c)

pub returns-clause-lives : goal.returns-clause-lives
returns-clause-lives g c = lengthens_script g.W.Write.contents _ _ _ _ c.args.steps.now None (returns-clause-does g c)

pub returns-clause-prints : goal.returns-clause-prints
returns-clause-prints g c = script_prints g.W.Write.contents _ _ _ _ c.args.steps.now None (returns-clause-does g c)
