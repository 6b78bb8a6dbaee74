use Rattle.std.proofs.Common.{◌≡◌, Err, Ok, Option, Result, refl, rules, subst, sym}
use Rattle.std.specs.Prelude.{MatchResult}
use Rattle.wu_core.specs.World.{World}
use Rattle.wu_core.specs.declared.fault.Fault.{Fault}
use Rattle.wu_check.specs.declared.finding.Counts.{Counts}
use Rattle.wu_cli.specs.declared.trouble.Trouble.{Trouble}
use Rattle.wu_cli.specs.declared.trouble.Trouble.TheVariants as trouble
use Rattle.wu_cli.proofs.TroubleLemmas.{handed_on}
use Rattle.wu_process.specs.Backups.{LoadsWorld}
use Rattle.wu_process.proofs.backup.check_sound.Goals as goal

pub returns-in_err-counts-clause-checks : goal.returns-in_err-counts-clause-checks
returns-in_err-counts-clause-checks g c =
    let done = c.from_residual.result in
    let new = c.count_sound.new.conn in
    let is : c.count_sound.result ≡ Err c.in_err-counts.field-0.0 = search rules in
    let told : done ≡ Err c.in_err-counts.field-0.0 = handed_on done _ c.from_residual.ensures.1 in
    record {
      mid = new;
      counts = c.count_sound.result;
      checks = c.count_sound.ensures;
      loads = subst (λ (r : Result Counts Trouble). MatchResult r (λ its. LoadsWorld g.S.Store new new its done) (λ why. done ≡ Err why)) (sym is) told;
    }

pub returns-in_err-world-clause-checks : goal.returns-in_err-world-clause-checks
returns-in_err-world-clause-checks g c =
    let done = c.from_residual-in_err-world.result in
    let fault = c.in_err-world.field-0.0 in
    let is : c.load_if.result ≡ Err fault = search rules in
    let told : done ≡ Err (trouble.Fault fault) = search rules in
    record {
      mid = c.count_sound.new.conn;
      counts = Ok c.in_ok-counts.counts;
      checks = c.in_ok-counts.ensures;
      loads = record {
        world = c.load_if.result;
        asks = c.load_if.ensures.asks;
        fault = c.load_if.ensures.fault;
        found = c.load_if.ensures.found;
        gives = subst (λ (r : Result (Option World) Fault). MatchResult r (λ it. done ≡ Ok (record { counts = c.in_ok-counts.counts; world = it })) (λ why. done ≡ Err (trouble.Fault why))) (sym is) told;
      };
    }

pub returns-clause-checks : goal.returns-clause-checks
returns-clause-checks g c = record {
  mid = c.count_sound.new.conn;
  counts = Ok c.in_ok-counts.counts;
  checks = c.in_ok-counts.ensures;
  loads = record {
    world = Ok c.in_ok-world.world;
    asks = c.in_ok-world.ensures.asks;
    fault = c.in_ok-world.ensures.fault;
    found = c.in_ok-world.ensures.found;
    gives = refl;
  };
}
