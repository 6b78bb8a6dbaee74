use Rattle.std.proofs.Common.{inl, inr, map, refl, rules, string_bytes}
use Rattle.wu_arguments.specs.Refusals.{IsOrderOf}
use Rattle.wu_arguments.specs.declared.order.Order.TheVariants as order
use Rattle.wu_process.proofs.RunLemmas.{runs_order}
use Rattle.wu_process.proofs.run_words.Goals as goal

pub returns-in-Ok-Line : goal.returns-in-Ok-Line
returns-in-Ok-Line g c =
    let ordered : IsOrderOf (map string_bytes c.args.words.now) (order.Line c.in-Ok-Line.line) = search rules in
    (runs_order g.O.Write.contents _ (order.Line c.in-Ok-Line.line) c.of_line-asked.result _ _ _ _ ordered c.of_line-asked.ensures (rw c.as_str.ensures at c.open_and_perform-done.ensures), refl, refl)

pub returns-in-Ok-Script : goal.returns-in-Ok-Script
returns-in-Ok-Script g c =
    let ordered : IsOrderOf (map string_bytes c.args.words.now) (order.Script c.in-Ok-Script.script) = search rules in
    (runs_order g.O.Write.contents _ (order.Script c.in-Ok-Script.script) c.of_script-asked.result _ _ _ _ ordered c.of_script-asked.ensures (rw c.as_str-in-Ok-Script.ensures at c.open_and_perform-done-in-Ok-Script.ensures), refl, refl)

pub returns-in-Ok-Check : goal.returns-in-Ok-Check
returns-in-Ok-Check g c =
    let ordered : IsOrderOf (map string_bytes c.args.words.now) (order.Check c.in-Ok-Check.path) = search rules in
    (inr (inl (c.in-Ok-Check.path, ordered, rw c.as_str-in-Ok-Check.ensures at c.check_path.ensures)), refl, refl)

pub returns-in-Ok-Export : goal.returns-in-Ok-Export
returns-in-Ok-Export g c =
    let ordered : IsOrderOf (map string_bytes c.args.words.now) (order.Export c.in-Ok-Export.asked) = search rules in
    (inr (inr (inl (c.in-Ok-Export.asked, ordered, c.export.ensures))), refl, refl)

pub returns-in-Ok-Explain : goal.returns-in-Ok-Explain
returns-in-Ok-Explain g c =
    let ordered : IsOrderOf (map string_bytes c.args.words.now) (order.Explain c.in-Ok-Explain.topic) = search rules in
    (inr (inr (inr (inl (c.in-Ok-Explain.topic, ordered, c.explain.ensures)))), refl, refl)

pub returns-in-Ok-Lint : goal.returns-in-Ok-Lint
returns-in-Ok-Lint g c =
    let ordered : IsOrderOf (map string_bytes c.args.words.now) (order.Lint c.in-Ok-Lint.asked) = search rules in
    (inr (inr (inr (inr (c.in-Ok-Lint.asked, ordered, c.lint.ensures)))), refl, refl)

pub returns-in-Ok-Session : goal.returns-in-Ok-Session
returns-in-Ok-Session g c =
    let ordered : IsOrderOf (map string_bytes c.args.words.now) (order.Session c.in-Ok-Session.path) = search rules in
    (c.in-Ok-Session.path, ordered, rw c.as_str-in-Ok-Session.ensures at c.hold_session-done.ensures.serves, c.hold_session-done.ensures.silent)
