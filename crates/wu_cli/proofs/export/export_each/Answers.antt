use Rattle.std.proofs.Common.{◌≡◌, ◌∙◌, ◌+◌, ◌∷◌, Err, ap, drop, rules, sym}
use Rattle.std.proofs.lemmas.List.{drop_more}
use Rattle.wu_cli.proofs.ExportLemmas.{leads_off, leads_on, leads_whole}
use Rattle.wu_cli.proofs.export.export_each.Goals as goal

pub loop-export-init : goal.loop-export-init
loop-export-init g c = λ new done rest. rest

pub loop-export-preserved : goal.loop-export-preserved
loop-export-preserved g c =
    let i = c.loop-export.export-index in
    let all = c.args.exports.now in
    let order = drop_more all i c.export-item.result c.loop-export-test.true ∙ ap (λ y. y ∷ drop (i + 1) all) (sym c.export-item.is) in
    leads_on g.W.Write.contents (g.F.MakeExport.exports c.args.files.now) c.args.path.now all i c.export-item.result c.args.out.now c.loop-export.out c.export_one.new.out c.export_one.result order c.export_one.ensures c.in_ok-export_one.was c.loop-export.invariant

pub returns-in_err-export_one : goal.returns-in_err-export_one
returns-in_err-export_one g c =
    let i = c.loop-export.export-index in
    let all = c.args.exports.now in
    let order = drop_more all i c.export-item.result c.loop-export-test.true ∙ ap (λ y. y ∷ drop (i + 1) all) (sym c.export-item.is) in
    let same : c.from_residual.result ≡ Err c.in_err-export_one.field-0.0 = search rules in
    rw same (leads_off g.W.Write.contents (g.F.MakeExport.exports c.args.files.now) c.args.path.now all i c.export-item.result c.args.out.now c.loop-export.out c.export_one.new.out c.export_one.result _ order c.export_one.ensures c.in_err-export_one.was c.loop-export.invariant)

pub returns : goal.returns
returns g c = leads_whole g.W.Write.contents (g.F.MakeExport.exports c.args.files.now) c.args.path.now c.args.exports.now c.loop-export.export-index c.args.out.now c.loop-export.out c.loop-export-test.false c.loop-export.invariant
