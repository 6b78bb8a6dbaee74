use Rattle.wu_schema.proofs.Words.{Vec, Workunit, map, ℕ, ◌∙◌, ◌≡◌}
use Rattle.std.specs.declared.alloc.Global.{Global}
use Rattle.wu_rules.specs.Due.{chosen}
use Rattle.wu_store.specs.StandsFor.{marked}
use Rattle.wu_store.proofs.AskLemmas.{fault_read, never_broken, nothing_handed, reads_also, reads_handed, reads_of}
use Rattle.wu_store.proofs.QueuedLemmas.{chosen_numbers, found_or_store, never_project, queued}
use Rattle.wu_store.proofs.due.due_numbers.Goals as goal

pub returns-clause-reads : goal.returns-clause-reads
returns-clause-reads g c =
    let told = c.numbers_in.ensures.fault in
    reads_also g.S.Store _ _ c.in_ok-rows.rows c.numbers_in.result (never_broken _ told) (fault_read _ told) (reads_of marked (λ db world stood. stood.1.queue (queued world stood.0)) c.in_ok-rows.ensures.reads) (λ world stood are.
    let numbers = map (λ (w : Workunit). w.number) (chosen c.args.pass c.args.now c.args.min_age c.args.limit world) in
    found_or_store {T = Vec ℕ Global} (λ found. found.items ≡ numbers) c.numbers_in.result (c.numbers_in.ensures.numbers numbers (chosen_numbers c.args.pass c.args.now c.args.min_age c.args.limit world c.as_slice.result.now (c.as_slice.ensures.value ∙ are))))
    (λ world stood are can.
    let numbers = map (λ (w : Workunit). w.number) (chosen c.args.pass c.args.now c.args.min_age c.args.limit world) in
    never_project {T = Vec ℕ Global} (λ found. found.items ≡ numbers) c.numbers_in.result (c.numbers_in.ensures.numbers numbers (chosen_numbers c.args.pass c.args.now c.args.min_age c.args.limit world c.as_slice.result.now (c.as_slice.ensures.value ∙ are))))

pub returns-in_err-rows : goal.returns-in_err-rows
returns-in_err-rows g c =
    let same = c.from_residual.ensures.1 in
    record {
      few = nothing_handed _ _ same _;
      reads = reads_handed g.S.Store _ _ _ _ same (reads_of marked (λ db world stood. stood.1.queue (queued world stood.0)) c.in_err-rows.ensures.reads) (λ other told world. told) (λ world stood low. low);
    }
