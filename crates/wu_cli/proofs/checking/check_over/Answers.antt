use Rattle.std.proofs.Common.{◌≡◌, Err, Ok, Result, rules, refl, sym, subst}
use Rattle.wu_check.specs.declared.finding.Counts.{Counts}
use Rattle.wu_cli.proofs.TroubleLemmas.{handed_on}
use Rattle.wu_cli.proofs.checking.check_over.Goals as goal
use Rattle.wu_cli.specs.Checking.{TellsSound}
use Rattle.wu_cli.specs.declared.trouble.Trouble.{Trouble}

pub returns-in_err-counts : goal.returns-in_err-counts
returns-in_err-counts g c =
    let done = c.from_residual.result in
    let is : c.count_sound.result ≡ Err c.in_err-counts.field-0.0 = search rules in
    let told : done ≡ Err c.in_err-counts.field-0.0 = handed_on done _ c.from_residual.ensures.1 in
    record {
      counts = c.count_sound.result;
      checks = c.count_sound.ensures;
      tells = subst (λ (r : Result Counts Trouble). TellsSound g.W.Write.contents c.args.out.now c.args.out.now r done) (sym is) (told, refl);
    }

pub returns : goal.returns
returns g c = record { counts = Ok c.in_ok-counts.counts; checks = c.in_ok-counts.ensures; tells = c.tell_sound.ensures }
