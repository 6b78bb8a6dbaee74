use Rattle.std.proofs.Common.{◌≡◌, Err, Ok, Result, refl, rules, subst, ap}
use Rattle.wu_cli.specs.Outputs.{KeepsOutputs}
use Rattle.wu_cli.specs.declared.outputs.KeptCounts.{KeptCounts}
use Rattle.wu_cli.specs.declared.trouble.Trouble.{Trouble}
use Rattle.wu_cli.proofs.OutputLemmas.{answer_of, outputs_kept}
use Rattle.wu_cli.proofs.outputs.keep_outputs.Goals as goal

pub returns-in-Ok : goal.returns-in-Ok
returns-in-Ok g c =
    let is : c.walk.result ≡ Ok tt = search rules in
    let kept = outputs_kept g.S.Store g.F.KeepFile.keeps _ c.walk.new.taker refl refl c.args.conn.now c.walk.new.conn c.walk.result c.walk.ensures in
    let same : answer_of g.F.KeepFile.keeps c.walk.result c.walk.new.taker ≡ Ok c.walk.new.taker.kept = ap (λ w. answer_of g.F.KeepFile.keeps w c.walk.new.taker) is in
    subst (λ (r : Result KeptCounts Trouble). KeepsOutputs g.S.Store (g.F.KeepFile.keeps c.args.files.now) c.args.asked.now c.args.conn.now c.walk.new.conn r) same kept

pub returns-in-Err : goal.returns-in-Err
returns-in-Err g c =
    let is : c.walk.result ≡ Err c.in-Err.fault = search rules in
    let kept = outputs_kept g.S.Store g.F.KeepFile.keeps _ c.walk.new.taker refl refl c.args.conn.now c.walk.new.conn c.walk.result c.walk.ensures in
    let same : answer_of g.F.KeepFile.keeps c.walk.result c.walk.new.taker ≡ Err c.trouble_of_walk.result = rw (is, c.trouble_of_walk.ensures) refl in
    subst (λ (r : Result KeptCounts Trouble). KeepsOutputs g.S.Store (g.F.KeepFile.keeps c.args.files.now) c.args.asked.now c.args.conn.now c.walk.new.conn r) same kept
