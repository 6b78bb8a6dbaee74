use Rattle.wu_schema.proofs.Words.{Ok, [], refl, state}
use Rattle.wu_schema.specs.declared.table.ProjectTable.TheVariants as the_table
use Rattle.wu_store.specs.Answers.{last_archived}
use Rattle.wu_store.proofs.AskLemmas.{asked_row, fault_read, nothing_handed, reads_handed, reads_also, never_broken}
use Rattle.wu_store.proofs.LastLemmas.{archived_text, archived_fits, archived_found, last_question}
use Rattle.wu_store.proofs.LoadLemmas.{place_known, place_read}
use Rattle.wu_store.proofs.loading.next_archived_place.Goals as goal

pub returns-in_err-last : goal.returns-in_err-last
returns-in_err-last g c =
    let q = c.in_err-last.ensures in
    let same = c.from_residual.ensures.1 in
    let it = asked_row g.S.Store (last_question the_table.Archived (λ _. tt) archived_text archived_fits) c.args.conn.now c.ask_row.new.conn [] refl last_archived
    (λ rows h world s. archived_found (state g.S.Store c.args.conn.now) (state g.S.Store c.ask_row.new.conn) world s rows h) _ q.asks q.opens q.shows q.fails q.told in
    record {
      within = nothing_handed _ _ same _;
      reads = reads_handed g.S.Store _ _ _ _ same it (λ other told world. told) (λ world stands any. tt);
    }

pub returns : goal.returns
returns g c =
    let q = c.in_ok-last.ensures in
    let last = c.in_ok-last.last in
    let r = c.place_behind.result in
    let reads = c.place_behind.ensures.reads in
    let it = asked_row g.S.Store (last_question the_table.Archived (λ _. tt) archived_text archived_fits) c.args.conn.now c.ask_row.new.conn [] refl last_archived
    (λ rows h world s. archived_found (state g.S.Store c.args.conn.now) (state g.S.Store c.ask_row.new.conn) world s rows h) (Ok last) q.asks q.opens q.shows q.fails q.told in
    record {
      within = c.place_behind.ensures.within;
      reads = reads_also g.S.Store _ _ _ _ (never_broken _ reads.refused) (fault_read _ reads.refused) it (λ world stands found. place_known world.archived last r found reads) (λ world stands found any. place_read world.archived last r found reads);
    }
