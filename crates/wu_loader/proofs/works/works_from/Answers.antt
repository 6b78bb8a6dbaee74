use Rattle.wu_schema.proofs.Words.{List, Row, Workunit, inl, inr, map, workunit_row, ◌∙◌, ◌≡◌}
use Rattle.wu_store.specs.Loading.{classless}
use Rattle.std.specs.Prelude.{All}
use Rattle.wu_core.specs.Storable.{IsStoredWorkunit}
use Rattle.wu_loader.specs.Whole.{rows_of}
use Rattle.wu_loader.specs.Wrongs.{AreWorkunits}
use Rattle.wu_schema.proofs.ReadLemmas.{if_ok}
use Rattle.wu_loader.specs.Dealing.{by_place, AreDealt}
use Rattle.wu_loader.specs.Rows.{placed_row, IsStoredPlaced}
use Rattle.wu_loader.proofs.WholeLemmas.{handed, refused, rows_plain, sorted_rows}
use Rattle.wu_loader.proofs.WorkLemmas.{never_placed, never_works, ordered_unclassed, works_are, works_dealt}
use Rattle.wu_loader.proofs.works.works_from.Goals as goal

-- the rows of workunits are those of these values
workunits_read : (rows : List Row) (workunits : List Workunit) → rows ≡ rows_of (λ _. workunit_row) workunits → All IsStoredWorkunit workunits → AreWorkunits rows
workunits_read rows workunits same each = record { values = workunits; stored = each; same = same }

pub returns-in_err-workunits-clause-none : goal.returns-in_err-workunits-clause-none
returns-in_err-workunits-clause-none c =
    handed c.from_residual.result c.in_err-workunits.field-0.0 _ _ (λ wrong none. never_works c.args.rows c.args.instances wrong.place none.1) c.from_residual.ensures.1 c.in_err-workunits.ensures.none

pub returns-in_err-placed-clause-none : goal.returns-in_err-placed-clause-none
returns-in_err-placed-clause-none c =
    handed c.from_residual-in_err-placed.result c.in_err-placed.field-0.0 _ _ (λ wrong none. never_placed c.args.rows c.args.instances wrong.place none.1) c.from_residual-in_err-placed.ensures.1 c.in_err-placed.ensures.none

pub returns-clause-works : goal.returns-clause-works
returns-clause-works c =
    if_ok c.deal.result _ _ (λ dealt are.
    works_are c.args.rows c.args.instances c.in_ok-workunits.workunits.items c.in_ok-workunits.ensures.same c.in_ok-placed.placed.items c.from-queue.result.items c.in_ok-placed.ensures.same (rw c.from-queue.ensures.0 c.sort.ensures.same) dealt.items are) c.deal.ensures.dealt

pub returns-clause-workunits : goal.returns-clause-workunits
returns-clause-workunits c =
    if_ok c.deal.result (λ dealt. AreDealt c.in_ok-workunits.workunits.items c.from-queue.result.items dealt.items) _ (λ dealt are. workunits_read c.args.rows c.in_ok-workunits.workunits.items c.in_ok-workunits.ensures.same c.in_ok-workunits.ensures.each) c.deal.ensures.dealt

pub returns-clause-results : goal.returns-clause-results
returns-clause-results c =
    if_ok c.deal.result (λ dealt. AreDealt c.in_ok-workunits.workunits.items c.from-queue.result.items dealt.items) _ (λ dealt are. record {
      values = record { values = c.in_ok-placed.placed.items; stored = c.in_ok-placed.ensures.each; same = c.in_ok-placed.ensures.same };
      workunits = dealt.items;
      rows_are = works_are c.args.rows c.args.instances c.in_ok-workunits.workunits.items c.in_ok-workunits.ensures.same c.in_ok-placed.placed.items c.from-queue.result.items c.in_ok-placed.ensures.same (rw c.from-queue.ensures.0 c.sort.ensures.same) dealt.items are;
      few = are.few;
    }) c.deal.ensures.dealt

pub returns-clause-none : goal.returns-clause-none
returns-clause-none c =
    refused c.deal.result _ _ (λ wrong none works ordered storable are.
    none (map classless works) (ordered_unclassed works ordered) (works_dealt c.args.rows c.args.instances c.in_ok-workunits.workunits.items c.in_ok-workunits.ensures.same c.in_ok-placed.placed.items c.from-queue.result.items c.in_ok-placed.ensures.same (rw c.from-queue.ensures.0 c.sort.ensures.same) c.in_ok-workunits.ensures.each (rw c.from-queue.ensures.0 c.sort.ensures.sorted) works ordered storable are)) c.deal.ensures.none

pub returns-in_err-workunits-clause-told : goal.returns-in_err-workunits-clause-told
returns-in_err-workunits-clause-told c = handed c.from_residual.result c.in_err-workunits.field-0.0 _ _ (λ wrong none. inl (none.0, none.1)) c.from_residual.ensures.1 c.in_err-workunits.ensures.none

pub returns-in_err-placed-clause-told : goal.returns-in_err-placed-clause-told
returns-in_err-placed-clause-told c =
    let read = workunits_read c.args.rows c.in_ok-workunits.workunits.items c.in_ok-workunits.ensures.same c.in_ok-workunits.ensures.each in
    handed c.from_residual-in_err-placed.result c.in_err-placed.field-0.0 _ _ (λ wrong none. inr (read, (none.0, inl none.1))) c.from_residual-in_err-placed.ensures.1 c.in_err-placed.ensures.none

pub returns-clause-told : goal.returns-clause-told
returns-clause-told c =
    let sorted = c.from-queue.result.items in
    let read = workunits_read c.args.rows c.in_ok-workunits.workunits.items c.in_ok-workunits.ensures.same c.in_ok-workunits.ensures.each in
    refused c.deal.result _ _ (λ wrong it. inr (
      read,
      (
        it.0,
        inr (record {
          workunits = c.in_ok-workunits.workunits.items;
          rows_are = c.in_ok-workunits.ensures.same ∙ rows_plain workunit_row c.in_ok-workunits.workunits.items;
          placed = sorted;
          read = sorted_rows placed_row IsStoredPlaced by_place c.args.instances c.in_ok-placed.placed.items sorted c.in_ok-placed.ensures.same c.in_ok-placed.ensures.each (rw c.from-queue.ensures.0 c.sort.ensures.same) (rw c.from-queue.ensures.0 c.sort.ensures.sorted);
          undealt = it.1;
        }),
      ),
    )) c.deal.ensures.told
