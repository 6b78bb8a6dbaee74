use Rattle.wu_store.proofs.AskLemmas.{reads_handed, reads_made, reads_then_handed, reads_both, reads_if}
use Rattle.std.proofs.Common.{◌++◌, ◌∙◌, ap}
use Rattle.wu_store.specs.Changing.{archived_from}
use Rattle.wu_plans.proofs.passes.changes_of.Goals as goal

pub returns : goal.returns
returns g c =
    reads_made g.S.Store _ _ _ _ (reads_both g.S.Store _ _ _ c.in_ok-and_grants.field-0 (reads_if (λ never. absurd never) c.in_ok-and_grants.ensures) c.in_ok-and_archived.field-0 c.in_ok-and_archived.ensures) (λ world stands found. record {
      given = found.0.given;
      row_place = found.1.place;
      keeps = found.0.keeps;
      row_next = found.1.next;
      changes_are = found.1.changes ∙ ap (λ cs. cs ++ archived_from found.1.place c.args.handled.archived.items) found.0.changes;
    })

pub returns-in_err-and_grants : goal.returns-in_err-and_grants
returns-in_err-and_grants g c = reads_handed g.S.Store _ _ c.from_residual.result c.in_err-and_grants.field-0.0 c.from_residual.ensures.1 (reads_if (λ never. absurd never) c.in_err-and_grants.ensures) (λ other told world. tt) (λ world stands any. tt)

pub returns-in_err-and_archived : goal.returns-in_err-and_archived
returns-in_err-and_archived g c =
    reads_then_handed g.S.Store _ _ _ c.in_ok-and_grants.field-0 (reads_if (λ never. absurd never) c.in_ok-and_grants.ensures) c.from_residual-in_err-and_archived.result c.in_err-and_archived.field-0.0 c.from_residual-in_err-and_archived.ensures.1 c.in_err-and_archived.ensures (λ other told world. tt) (λ world stands found any. tt)
