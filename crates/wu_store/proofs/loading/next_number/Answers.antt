use Rattle.wu_schema.proofs.Words.{Err, Some, [], inr, refl, state, sym, ◌∙◌, ◌≡◌}
use Rattle.wu_schema.specs.declared.table.ProjectTable.TheVariants as the_table
use Rattle.wu_core.specs.declared.fault.Fault.TheVariants.{NotAProject}
use Rattle.wu_store.proofs.AskLemmas.{asked_row, fault_read, nothing_handed, question, reads_handed, reads_also, never_broken}
use Rattle.wu_store.specs.Answers.{next_row}
use Rattle.wu_store.proofs.ReadAnswers.{next_found}
use Rattle.wu_store.proofs.SelectTexts.{next_asked, next_fits}
use Rattle.wu_store.proofs.LoadLemmas.{never_unread, next_is, next_within}
use Rattle.wu_schema.proofs.QuietLemmas.{same_some}
use Rattle.wu_store.proofs.loading.next_number.Goals as goal

pub returns-in_err-row : goal.returns-in_err-row
returns-in_err-row g c =
    let q = c.in_err-row.ensures in
    let same = c.from_residual.ensures.1 in
    let it = asked_row g.S.Store (question the_table.Project (λ _. tt) next_asked next_fits [] refl (λ _. refl)) c.args.conn.now c.ask_row.new.conn [] refl (λ world. Some (next_row world))
    (λ found h world s. next_found (state g.S.Store c.args.conn.now) (state g.S.Store c.ask_row.new.conn) world s found h) _ q.asks q.opens q.shows q.fails q.told in
    record {
      within = nothing_handed _ _ same _;
      reads = reads_handed g.S.Store _ _ _ _ same it (λ other told world. told) (λ world stands has. tt);
    }

pub returns-in-Some : goal.returns-in-Some
returns-in-Some g c =
    let q = c.in_ok-row.ensures in
    let asked = asked_row g.S.Store (question the_table.Project (λ _. tt) next_asked next_fits [] refl (λ _. refl)) c.args.conn.now c.ask_row.new.conn [] refl (λ world. Some (next_row world))
    (λ found h world s. next_found (state g.S.Store c.args.conn.now) (state g.S.Store c.ask_row.new.conn) world s found h) _ q.asks q.opens q.shows q.fails q.told in
    let r = c.next_number_from.result in
    let reads = c.next_number_from.ensures.reads in
    record {
      within = next_within c.in-Some.row r reads;
      reads = reads_also g.S.Store _ _ _ _ (never_broken _ reads.refused) (fault_read _ reads.refused) asked (λ world stands found.
          let row_is : c.in-Some.row ≡ next_row world = same_some (sym c.in-Some.is ∙ found) in
          next_is world.next_number c.in-Some.row r row_is reads) (λ world stands found has.
          let row_is : c.in-Some.row ≡ next_row world = same_some (sym c.in-Some.is ∙ found) in
          never_unread _ _ c.in-Some.row r world.next_number reads has row_is);
    }

pub returns-in-None : goal.returns-in-None
returns-in-None g c =
    let q = c.in_ok-row.ensures in
    let asked = asked_row g.S.Store (question the_table.Project (λ _. tt) next_asked next_fits [] refl (λ _. refl)) c.args.conn.now c.ask_row.new.conn [] refl (λ world. Some (next_row world))
    (λ found h world s. next_found (state g.S.Store c.args.conn.now) (state g.S.Store c.ask_row.new.conn) world s found h) _ q.asks q.opens q.shows q.fails q.told in
    record {
      within = tt;
      reads = reads_also g.S.Store _ _ _ (Err NotAProject) (λ is. absurd cc) (inr (inr refl)) asked (λ world stands found. inr (inr refl)) (λ world stands found has refused. absurd (let no = sym c.in-None.is ∙ found in cc));
    }
