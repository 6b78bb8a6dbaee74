use Rattle.wu_schema.proofs.Words.{Workunit, ◌==◌}
use Rattle.wu_store.proofs.AskLemmas.{nothing_handed, reads_handed, reads_can}
use Rattle.wu_store.proofs.LoadLemmas.{early_then}
use Rattle.wu_store.proofs.loading.load_early.Goals as goal

pub returns-in_err-row : goal.returns-in_err-row
returns-in_err-row g c =
    let it = c.in_err-row.ensures in
    let same = c.from_residual.ensures.1 in
    record {
      formed = nothing_handed _ _ same _;
      reads = reads_handed g.S.Store _ _ _ _ same it.reads (λ other told world known. told) (λ world stands can. can.1);
    }

pub returns : goal.returns
returns g c =
    let it = c.in_ok-row.ensures in
    record {
      formed = c.loaded.ensures.formed;
      reads = reads_can (λ world stands can. can.2) (early_then g.S.Store _ _ _ (λ (w : Workunit). w.number == c.args.number) _ _ it.reads c.loaded.ensures.reads);
    }
