use Rattle.std.proofs.Common.{subst}
use Rattle.std.specs.List.{All}
use Rattle.wu_core.specs.Storable.{IsName}
use Rattle.wu_audit.proofs.SoundLemmas.{found_exact, found_stands}
use Rattle.wu_audit.proofs.auditing.audit.Goals as goal

pub returns : goal.returns
returns c = record {
  exact = found_exact c.args.loaded.now (subst (λ grants. All (λ grant. IsName grant.host) grants) c.grants.ensures c.know_hosts.ensures) c.in_ok-first_wrong.field-0 c.in_ok-first_wrong.ensures;
  told = found_stands c.args.loaded.now c.in_ok-first_wrong.field-0 c.in_ok-first_wrong.ensures;
  memory = tt;
}
