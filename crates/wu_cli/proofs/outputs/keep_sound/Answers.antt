use Rattle.std.proofs.Common.{◌≡◌, Err, Ok, Result, rules, subst, sym}
use Rattle.std.specs.Prelude.{MatchResult}
use Rattle.wu_cli.specs.Outputs.{KeepsOutputs}
use Rattle.wu_check.specs.declared.finding.Counts.{Counts}
use Rattle.wu_cli.specs.declared.trouble.Trouble.{Trouble}
use Rattle.wu_cli.proofs.TroubleLemmas.{handed_on}
use Rattle.wu_cli.proofs.outputs.keep_sound.Goals as goal

pub returns-in_err-_counts : goal.returns-in_err-_counts
returns-in_err-_counts g c =
    let done = c.from_residual.result in
    let is : c.count_sound.result ≡ Err c.in_err-_counts.field-0.0 = search rules in
    let told : done ≡ Err c.in_err-_counts.field-0.0 = handed_on done _ c.from_residual.ensures.1 in
    record {
      mid = c.count_sound.new.conn;
      counts = c.count_sound.result;
      checks = c.count_sound.ensures;
      ends = subst (λ (r : Result Counts Trouble). MatchResult r (λ _. KeepsOutputs g.S.Store (g.F.KeepFile.keeps c.args.files.now) c.args.asked.now c.count_sound.new.conn c.count_sound.new.conn done) (λ why. done ≡ Err why)) (sym is) told;
    }

pub returns : goal.returns
returns g c = record { mid = c.count_sound.new.conn; counts = Ok c.in_ok-_counts._counts; checks = c.in_ok-_counts.ensures; ends = c.keep_outputs.ensures }
