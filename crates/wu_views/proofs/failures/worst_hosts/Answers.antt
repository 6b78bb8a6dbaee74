use Rattle.std.proofs.Common.{ap, rules, take, ◌∙◌}
use Rattle.std.specs.Prelude.{IfErr}
use Rattle.wu_schema.specs.Reading.{IsReadFault}
use Rattle.wu_store.proofs.AskLemmas.{reads_handed, reads_made, reads_also, never_broken, fault_read}
use Rattle.wu_views.specs.Failures.{worst_first}
use Rattle.wu_views.specs.declared.failures.TheConstants.{MOST_HOSTS}
use Rattle.wu_views.proofs.failures.worst_hosts.Goals as goal

pub returns-in_err-hosts : goal.returns-in_err-hosts
returns-in_err-hosts g c = record { reads = reads_handed g.S.Store _ _ c.from_residual.result c.in_err-hosts.field-0.0 c.from_residual.ensures.1 c.in_err-hosts.ensures.reads (λ other told world. tt) (λ world stood can. can) }

pub returns-in_err-worst : goal.returns-in_err-worst
returns-in_err-worst g c = record {
  reads = let told : IfErr c.from_residual-in_err-worst.result IsReadFault = search rules in
      reads_also g.S.Store _ _ c.in_ok-hosts.hosts c.from_residual-in_err-worst.result (never_broken _ told) (fault_read _ told) c.in_ok-hosts.ensures.reads (λ world stood found. search rules) (λ world stood found can. search rules);
}

pub returns : goal.returns
returns g c = record { reads = reads_made g.S.Store _ _ c.in_ok-hosts.hosts _ c.in_ok-hosts.ensures.reads (λ world stood found. c.in_ok-worst.ensures ∙ ap (λ hs. take MOST_HOSTS (worst_first hs)) found) }
