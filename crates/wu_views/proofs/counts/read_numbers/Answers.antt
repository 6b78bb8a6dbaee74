use Rattle.wu_store.proofs.AskLemmas.{reads_both, reads_handed, reads_made, reads_then_handed}
use Rattle.wu_views.proofs.counts.read_numbers.Goals as goal

pub returns-in_err-version : goal.returns-in_err-version
returns-in_err-version g c = record { reads = reads_handed g.S.Store _ _ c.from_residual.result c.in_err-version.field-0.0 c.from_residual.ensures.1 c.in_err-version.ensures.reads (λ other told world. tt) (λ world stood can. can.version) }

pub returns-in_err-next_number : goal.returns-in_err-next_number
returns-in_err-next_number g c = record { reads = reads_then_handed g.S.Store _ _ _ _ c.in_ok-version.ensures.reads c.from_residual-in_err-next_number.result c.in_err-next_number.field-0.0 c.from_residual-in_err-next_number.ensures.1 c.in_err-next_number.ensures.reads (λ other told world. tt) (λ world stood one can. can.next) }

pub returns : goal.returns
returns g c = record {
  reads = reads_made g.S.Store _ _ _ _ (reads_both g.S.Store _ _ _ _ c.in_ok-version.ensures.reads _ c.in_ok-next_number.ensures.reads)
      (λ world stood found. λ i. record { version = found.0 i; next_number = found.1 i });
}
