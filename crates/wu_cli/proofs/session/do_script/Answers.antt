use Rattle.std.proofs.Common.{◌≡◌, None, Some, refl, rules, subst}
use Rattle.wu_cli.specs.Exports.{ExportsEach}
use Rattle.wu_cli.proofs.SessionLemmas.{does_as}
use Rattle.wu_cli.proofs.session.do_script.Goals as goal

pub returns-in-None : goal.returns-in-None
returns-in-None g c =
    let p = c.perform_script.ensures in
    let steps : c.as_slice.result.now ≡ c.args.script.now.steps = search rules in
    let exports : c.as_slice-in-None.result.now ≡ c.args.script.now.exports = search rules in
    let told = c.export_each-told in (
      None,
      c.perform_script.new.out,
      does_as g.W.Write.contents _ _ _ _ _ _ _ None steps c.in-None.is (record { does = p.does; drives = p.drives; lives = p.lives; prints = p.prints }),
      (told.result, subst (λ its. ExportsEach g.W.Write.contents (g.F.MakeExport.exports c.args.files.now) c.args.db.now its c.perform_script.new.out told.new.out told.result) exports told.ensures, c.done_of_exports.ensures),
    )

pub returns-in-Some : goal.returns-in-Some
returns-in-Some g c =
    let p = c.perform_script.ensures in
    let steps : c.as_slice.result.now ≡ c.args.script.now.steps = search rules in
    (Some c.in-Some.end, c.perform_script.new.out, does_as g.W.Write.contents _ _ _ _ _ _ _ (Some c.in-Some.end) steps c.in-Some.is (record { does = p.does; drives = p.drives; lives = p.lives; prints = p.prints }), (refl, refl))
