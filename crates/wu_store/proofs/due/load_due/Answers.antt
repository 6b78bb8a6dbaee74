use Rattle.wu_schema.proofs.Words.{◌∙◌}
use Rattle.wu_rules.specs.Due.{chosen}
use Rattle.wu_store.specs.StandsFor.{marked}
use Rattle.wu_store.proofs.AskLemmas.{nothing_handed, reads_handed, reads_of, reads_over, reads_then}
use Rattle.wu_store.proofs.QueuedLemmas.{chosen_storable, queued, rows_chosen}
use Rattle.wu_store.proofs.due.load_due.Goals as goal

pub returns-clause-reads : goal.returns-clause-reads
returns-clause-reads g c =
    reads_then g.S.Store _ _ _ c.in_ok-rows.rows (reads_of marked (λ db world stood. stood.1.queue (queued world stood.0)) c.in_ok-rows.ensures.reads) c.load_all.result (reads_over (λ db world stood. stood.1.refines) c.load_all.ensures.reads)
    (λ world stood are loads. loads stood.0 (chosen c.args.pass c.args.now c.args.min_age c.args.limit world) (rows_chosen _ world stood.1.refines c.args.pass c.args.now c.args.min_age c.args.limit c.as_slice.result.now (c.as_slice.ensures.value ∙ are)))
    (λ world stood are can. (
      stood.0,
      chosen c.args.pass c.args.now c.args.min_age c.args.limit world,
      rows_chosen _ world stood.1.refines c.args.pass c.args.now c.args.min_age c.args.limit c.as_slice.result.now (c.as_slice.ensures.value ∙ are),
      chosen_storable _ world stood.1.refines c.args.pass c.args.now c.args.min_age c.args.limit can.1,
    ))

pub returns-in_err-rows : goal.returns-in_err-rows
returns-in_err-rows g c =
    let same = c.from_residual.ensures.1 in
    record {
      formed = nothing_handed _ _ same _;
      few = nothing_handed _ _ same _;
      reads = reads_handed g.S.Store _ _ _ _ same (reads_of marked (λ db world stood. stood.1.queue (queued world stood.0)) c.in_err-rows.ensures.reads) (λ other told world. told) (λ world stood can. can.0);
    }
